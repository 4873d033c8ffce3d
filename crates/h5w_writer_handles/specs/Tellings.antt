-- What a session's answers are told as.
use Rattle.std.specs.Prelude.{◌≡◌, ◌⊎◌, ℕ, List}
use Rattle.h5w_opening.specs.declared.error.OpenError.{OpenError}
use Rattle.h5w_opening.specs.declared.error.OpenError.TheVariants as opens
use Rattle.h5w_writer.specs.declared.refusal.AppendError.{AppendError}
use Rattle.h5w_writer.specs.declared.refusal.AppendError.TheVariants as appends
use Rattle.h5w_writer.specs.declared.refusal.CloseError.{CloseError}
use Rattle.h5w_writer.specs.declared.refusal.CloseError.TheVariants as closes
use Rattle.h5w_writer.specs.declared.refusal.FlushError.{FlushError}
use Rattle.h5w_writer.specs.declared.refusal.FlushError.TheVariants as flushes
use Rattle.h5w_handles.specs.Codes.{no_memory, told}
use Rattle.h5w_handles.specs.ReaderTellings.{refusal_told}
use Rattle.h5w_handles.specs.Texts.{laid}
use Rattle.h5w_handles.specs.declared.code.H5wCode.TheVariants as codes
use Rattle.h5w_handles.specs.declared.code.H5wTold.{H5wTold}

-- no image fails here, so that a failed one needs no code of its own

-- why a file is not opened
abbrev pub open_told : OpenError → H5wTold
open_told (opens.Read e) = refusal_told e
open_told (opens.Version version) = told codes.Opened 1 version
open_told (opens.Flags flags) = told codes.Opened 2 flags
open_told (opens.Cut end size) = told codes.Opened 3 end
open_told opens.Layout = told codes.Opened 4 0
open_told (opens.ChunkBytes bytes limit) = told codes.Opened 5 bytes
open_told opens.NoColumns = told codes.Opened 6 0
open_told (opens.Same first second) = told codes.Opened 7 second
open_told (opens.Finding kind at) = told codes.Opened kind at
open_told opens.Failed = no_memory
open_told opens.OutOfMemory = no_memory

-- why rows are not appended
abbrev pub append_told : AppendError → H5wTold
append_told appends.Stopped = told codes.Stopped 0 0
append_told (appends.Busy pending) = told codes.Busy 0 pending
append_told (appends.OutOfRange index value) = told codes.Range 0 index
append_told (appends.Chunks chunks limit) = told codes.Chunks 0 limit
append_told appends.Failed = no_memory
append_told appends.OutOfMemory = no_memory

-- why a flush is not planned
abbrev pub flush_told : FlushError → H5wTold
flush_told flushes.Stopped = told codes.Stopped 0 0
flush_told (flushes.Busy pending) = told codes.Busy 0 pending
flush_told (flushes.Space full) = told codes.Full 1 (full.at)
flush_told flushes.Deep = told codes.Full 2 0
flush_told flushes.Failed = no_memory
flush_told flushes.OutOfMemory = no_memory

-- why a session is not closed
abbrev pub close_told : CloseError → H5wTold
close_told closes.Stopped = told codes.Stopped 0 0
close_told (closes.Busy pending) = told codes.Busy 0 pending

-- a line is put in front of a text, as much of it as there is room for; or memory is wanting for it, and the text stays
abbrev pub PutsLine : (line text left : List ℕ) → Type 0
PutsLine line text left = (left ≡ laid line text) ⊎ (left ≡ text)
