-- The line that the program prints of a refusal of a writer's call.
use Rattle.std.specs.Prelude.{ℕ, List}
use Rattle.h5w_model.specs.declared.refusal.ReadError.TheVariants.{NotSwmr}
use Rattle.h5w_model.specs.declared.reply.Reply.TheVariants as replies
use Rattle.h5w_text.specs.Errors.{error_text}
use Rattle.h5w_text.specs.Replies.{reply_text}
use Rattle.h5w_text.specs.declared.error.ErrorLine.{ErrorLine}
use Rattle.h5w_text.specs.declared.error.ErrorLine.TheVariants as lines
use Rattle.h5w_opening.specs.declared.error.OpenError.{OpenError}
use Rattle.h5w_opening.specs.declared.error.OpenError.TheVariants as opens
use Rattle.h5w_writer.specs.declared.refusal.AppendError.{AppendError}
use Rattle.h5w_writer.specs.declared.refusal.AppendError.TheVariants as appends
use Rattle.h5w_writer.specs.declared.refusal.CloseError.{CloseError}
use Rattle.h5w_writer.specs.declared.refusal.CloseError.TheVariants as closes
use Rattle.h5w_writer.specs.declared.refusal.FlushError.{FlushError}
use Rattle.h5w_writer.specs.declared.refusal.FlushError.TheVariants as flushes
use Rattle.h5w_writer_lines.specs.declared.lines.WriterLine.{WriterLine}
use Rattle.h5w_writer_lines.specs.declared.lines.WriterLine.TheVariants.{Busy, Error, Stopped}

-- why a file is not opened to append to it
abbrev pub open_line : OpenError → ErrorLine
open_line (opens.Read e) = lines.Read e
open_line (opens.Version version) = lines.WriterVersion version
open_line (opens.Flags flags) = lines.Read (NotSwmr flags)
open_line (opens.Cut end size) = lines.Cut end size
open_line opens.Layout = lines.Layout
open_line (opens.ChunkBytes bytes limit) = lines.ChunkBytes bytes
open_line opens.NoColumns = lines.NoColumns
open_line (opens.Same first second) = lines.Same first second
open_line (opens.Finding kind at) = lines.Finding kind at
open_line opens.Failed = lines.Disk
open_line opens.OutOfMemory = lines.Memory

-- why the values of the line of this number are not appended
abbrev pub append_line : ℕ → AppendError → WriterLine
append_line line appends.Stopped = Stopped
append_line line (appends.Busy pending) = Busy pending
append_line line (appends.OutOfRange index value) = Error (lines.Range line index value)
append_line line (appends.Chunks chunks limit) = Error (lines.FullChunks chunks limit)
append_line line appends.Failed = Error lines.Disk
append_line line appends.OutOfMemory = Error lines.Memory

-- why a flush is not planned
abbrev pub flush_line : FlushError → WriterLine
flush_line flushes.Stopped = Stopped
flush_line (flushes.Busy pending) = Busy pending
flush_line (flushes.Space full) = Error (lines.FullSpace full.at full.size full.limit)
flush_line flushes.Deep = Error lines.Deep
flush_line flushes.Failed = Error lines.Disk
flush_line flushes.OutOfMemory = Error lines.Memory

-- why a session is not closed
abbrev pub close_line : CloseError → WriterLine
close_line closes.Stopped = Stopped
close_line (closes.Busy pending) = Busy pending

-- the line, with the byte 0a that ends it
abbrev pub line_text : WriterLine → List ℕ
line_text (Error e) = error_text e
line_text (Busy pending) = reply_text (replies.Busy pending)
line_text Stopped = reply_text replies.Stopped
