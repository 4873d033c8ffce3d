-- What is true of a log of a file of which a session of several datasets is the session, and what each call makes of that.
use Rattle.std.specs.Prelude.{◌≡◌, ℕ, ◌<◌, ◌≤◌, max, false, List, [], length, ℤ, Some, None, Ok, slice_get}
use Rattle.h5w_model.specs.Logs.{appended, flushed_rows, rows_in}
use Rattle.h5w_model.specs.Prefixed.{Held, IsPosition, Prefixed, PrefixedEach, ReadsNow, Still, image_at}
use Rattle.h5w_model.specs.Several.{Begun, FileLog, appends_to, log_of, plans_each, shown_in, shows_all}
use Rattle.h5w_model.specs.Superblock.{super_at, super_bytes}
use Rattle.h5w_model.specs.Tables.{Reading, Shows, format_limits, needed}
use Rattle.h5w_model.specs.declared.piece.Write.{Write}
use Rattle.h5w_writer.specs.Laws.{IsDatasetOf}
use Rattle.h5w_writer.specs.Past.{AllAddressed}
use Rattle.h5w_writer.specs.Refusals.{append_refusal}
use Rattle.h5w_writer.specs.Sessions.{AreRows, Session, chunk_limit, rows_of}
use Rattle.h5w_several_writer_laws.specs.Sessions.{AfterPieceOf, AppendsTo, AreParts, FlushesAll, SameButHeld, Sessions, all_pending, closed_all, closed_super, counts_of, keeping, stopped_all}
use Rattle.h5w_several_writer_laws.specs.Standing.{StandsAll, and_then}

-- What a part tells of what its dataset sees of the file's log: how many rows are appended and flushed; at each position the image is valid and reads as
-- the rows that are flushed there, and what readers rest on stays; and so it is now. Whatever an image shows is a dataset of the part's shape, with chunks that
-- its index can have; each needed one has an address where the dataset had no rows at first.
pub record PartTells (log : FileLog) (d : ℕ) (b : Begun) (s : Session) : Type 0 where
  pub columns : b.columns ≡ s.dataset.shape.cols
  pub some_columns : 0 < s.dataset.shape.cols
  pub flushed_rows : s.committed ≡ flushed_rows (log_of d b log)
  pub appended_rows : rows_of s ≡ rows_in (log_of d b log) (appended (log_of d b log))
  pub each : PrefixedEach s.name (log_of d b log)
  pub prefixed : Prefixed s.name (log_of d b log)
  pub still : Still s.name (log_of d b log)
  pub held : Held s.name (log_of d b log)
  pub now : log.first ≤ shown_in log.events → ReadsNow s.name (log_of d b log)
  pub dataset : (p : ℕ) (r : Reading) → IsPosition (log_of d b log) p → Shows format_limits (image_at (log_of d b log) p) s.name r → IsDatasetOf s r
  pub few : (p : ℕ) (r : Reading) → IsPosition (log_of d b log) p → Shows format_limits (image_at (log_of d b log) p) s.name r → needed r.dataset ≤ chunk_limit s
  pub addressed : b.values ≡ [] → (p : ℕ) (r : Reading) → IsPosition (log_of d b log) p → Shows format_limits (image_at (log_of d b log) p) s.name r → AllAddressed r

-- ---- Laws

-- What a session of a log tells of each dataset. No image is longer than the limit or than the file that the log began with, whichever is more. Where nothing
-- is pending and it was not stopped, the rows planned are flushed.
pub record StandingAllLaws : Type 0 where
  pub tells : (S : Sessions) (log : FileLog) → StandsAll S log → (d : ℕ) (b : Begun) (s : Session) → slice_get log.sets d ≡ Some b → slice_get S.parts d ≡ Some s → PartTells log d b s
  pub sets : (S : Sessions) (log : FileLog) → StandsAll S log → length log.sets ≡ length S.parts
  pub fits : (S : Sessions) (log : FileLog) → StandsAll S log → (d : ℕ) (b : Begun) (s : Session) → slice_get log.sets d ≡ Some b → slice_get S.parts d ≡ Some s → (p : ℕ) → IsPosition (log_of d b log) p
      → length (image_at (log_of d b log) p) ≤ max S.places.limit (length log.start)
  pub planned_rows : (S : Sessions) (log : FileLog) → StandsAll S log → S.stopped ≡ false → all_pending S.parts ≡ [] → (d : ℕ) (b : Begun) (s : Session) → slice_get log.sets d ≡ Some b → slice_get S.parts d ≡ Some s
      → flushed_rows (log_of d b log) ≡ s.dataset.shape.rows

-- what each call makes of a session is the session of the log with the call's event
pub record CallsStand : Type 0 where
  pub appends : (old new : Sessions) (d : ℕ) (values : List ℤ) (log : FileLog) → StandsAll old log → old.stopped ≡ false → all_pending old.parts ≡ [] → (x : AppendsTo d values old new) → AreRows x.part values
      → append_refusal x.part values ≡ None → StandsAll new (and_then (appends_to d values) log)
  pub flushes : (old new : Sessions) (log : FileLog) → StandsAll old log → old.stopped ≡ false → all_pending old.parts ≡ [] → FlushesAll old new
      → StandsAll new (and_then (plans_each (counts_of new.parts)) log)
  pub refused : (old new : Sessions) (log : FileLog) → StandsAll old log → old.stopped ≡ false → all_pending old.parts ≡ [] → SameButHeld old new → StandsAll new log
  pub shown : (old new : Sessions) (w : Write) (log : FileLog) → StandsAll old log → AfterPieceOf w old new → StandsAll new (and_then (shows_all w) log)
  pub stops : (S : Sessions) (log : FileLog) → StandsAll S log → StandsAll (stopped_all S) log
  pub closes : (S : Sessions) (log : FileLog) → StandsAll S log → S.stopped ≡ false → all_pending S.parts ≡ [] → AreParts S S.parts → super_at (super_bytes (closed_super S)) ≡ Ok (closed_super S)
      → StandsAll (closed_all S) log
  pub keeps : (S : Sessions) (log : FileLog) → StandsAll S log → StandsAll (keeping S) log
