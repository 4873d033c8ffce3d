-- The numbers of statuses, and the status that each error line has.
use Rattle.std.specs.Prelude.{ℕ}
use Rattle.h5w_model.specs.declared.refusal.ReadError.{ReadError}
use Rattle.h5w_model.specs.declared.refusal.ReadError.TheVariants as read_errors
use Rattle.h5w_text.specs.declared.error.ErrorLine.{ErrorLine}
use Rattle.h5w_text.specs.declared.error.ErrorLine.TheVariants as errors
use Rattle.h5w_text.specs.declared.status.Status.{Status}
use Rattle.h5w_text.specs.declared.status.Status.TheVariants.{Done, Usage, Missing, Exists, Format, Damaged, Flags, Again, Input, Limit, Disk, Source, Sink, Memory}

abbrev pub number_of : Status → ℕ
number_of Done = 0
number_of Usage = 2
number_of Missing = 3
number_of Exists = 3
number_of Format = 4
number_of Damaged = 5
number_of Flags = 6
number_of Again = 7
number_of Input = 8
number_of Limit = 9
number_of Disk = 10
number_of Source = 11
number_of Sink = 12
number_of Memory = 13

-- of a reader's refusal
abbrev pub refusal_status : ReadError → Status
refusal_status read_errors.NotHdf5 = Format
refusal_status (read_errors.Super e) = Format
refusal_status (read_errors.NotSwmr flags) = Flags
refusal_status (read_errors.Header at e) = Format
refusal_status (read_errors.Link e) = Format
refusal_status (read_errors.Unsupported n) = Format
refusal_status (read_errors.TooManyChunks needed limit) = Limit
refusal_status (read_errors.Damaged at fault) = Damaged
refusal_status (read_errors.Again attempts at first last) = Again
refusal_status (read_errors.Shrunk seen found) = Damaged
refusal_status read_errors.OutOfMemory = Memory

abbrev pub status_of : ErrorLine → Status
status_of errors.Usage = Usage
status_of errors.Missing = Missing
status_of errors.Exists = Exists
status_of (errors.Read e) = refusal_status e
status_of (errors.Finding kind at) = Damaged
status_of (errors.Overlap at len other other_len) = Damaged
status_of (errors.Cut end size) = Damaged
status_of (errors.WriterVersion version) = Format
status_of errors.Layout = Format
status_of (errors.ChunkBytes bytes) = Format
status_of errors.NoColumns = Format
status_of (errors.Same one other) = Format
status_of (errors.FullChunks chunks limit) = Limit
status_of (errors.FullSpace at size limit) = Limit
status_of errors.Deep = Limit
status_of (errors.Line line) = Input
status_of (errors.Range line index value) = Input
status_of (errors.Input limit) = Input
status_of errors.Disk = Disk
status_of errors.Image = Disk
status_of errors.Source = Source
status_of errors.Memory = Memory
