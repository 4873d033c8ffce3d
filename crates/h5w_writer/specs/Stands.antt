-- Of which logs a session can be the session.
use Rattle.std.specs.Prelude.{◌≡◌, ◌≢◌, ◌⊎◌, ℕ, ◌-◌, ◌*◌, ◌≤◌, true, false, List, [], ◌++◌, length, ℤ, None}
use Rattle.h5w_model.specs.Images.{image}
use Rattle.h5w_model.specs.Lawful.{first_outside}
use Rattle.h5w_model.specs.Logs.{Log, hist, appended, appended_in, flushed_in, flushed_rows}
use Rattle.h5w_model.specs.Findings.{Used}
use Rattle.h5w_model.specs.Prefixed.{PrefixedEach, Still}
use Rattle.h5w_model.specs.declared.cell.Key.{Key}
use Rattle.h5w_model.specs.declared.piece.Write.{Write}
use Rattle.h5w_chunks.specs.Grids.{cells_of}
use Rattle.h5w_step_laws.specs.Files.{chunk_0}
use Rattle.h5w_step_laws.specs.Moments.{Moment}
use Rattle.h5w_step_laws.specs.Logs.{image_now}
use Rattle.h5w_step_laws.specs.Sessions.{Runs}
use Rattle.h5w_flush_laws.specs.Knowledge.{Knows}
use Rattle.h5w_writer.specs.Sessions.{Session, rows_of}
use Rattle.h5w_index.specs.Marks.{IsMarked}
use Rattle.h5w_creation_laws.specs.CreatedFiles.{CreatedFile, IsCreatable, created_writes}
use Rattle.h5w_space.specs.Space.{Space}
use Rattle.h5w_writer.specs.Early.{HasEarly}
use Rattle.h5w_writer.specs.Indexes.{IsKeptIndex}
use Rattle.h5w_writer.specs.Creations.{IsIndexOf, IsLimit, created, log_of}
use Rattle.h5w_writer.specs.Past.{Past}

-- what the session keeps of the file is what the file is once all pieces that are left became visible
pub record Keeps (s : Session) (img : List ℕ) (m : Moment) : Type 0 where
  pub root : m.super ≡ s.root
  pub place : m.place ≡ s.place
  pub dataset : m.dataset ≡ s.dataset
  pub header : chunk_0 img s.place ≡ s.header

-- a new file's pieces are left, and nothing else happened but that some of them became visible
pub record Creating (f : CreatedFile) (s : Session) (left : List Write) (log : Log) : Type 0 where
  pub is : IsCreatable f
  pub limit : IsLimit s.places.limit
  pub index : IsIndexOf f s.index
  pub some : left ≢ []
  pub pieces : hist log.events ++ left ≡ created_writes f
  pub session : s ≡ record (created f s.places.limit s.budget s.index) { pending = s.pending; stopped = s.stopped; keeps = s.keeps }
  pub log_is : log ≡ log_of f log.events
  pub appended : appended_in log.events ≡ []
  pub flushed : (k : ℕ) → flushed_in k [] log.events ≡ []

-- the image is a file that the pieces left lead to the next, which the session knows; the rows that wait are those behind its own
pub record Running (s : Session) (left : List Write) (log : Log) : Type 0 where
  pub after : Moment
  pub address : Key → ℕ
  -- what readers may hold then
  pub held : List Used
  pub runs : Runs s.name log left after held
  -- the places when the file came to rest, since when those of chunks that were written early were taken
  pub rest : Space
  pub knows : Knows (image (image_now log) left) s.name after address rest
  pub holds : knows.held ≡ held
  pub keeps : Keeps s (image (image_now log) left) after
  pub index : IsKeptIndex (image (image_now log) left) after address rest s.index
  pub marks : IsMarked s.dataset s.dataset.shape.rows (rows_of s) s.index
  -- the values of the rows that were written early, and of those behind them
  pub early : List ℤ
  pub written : HasEarly s.dataset s.early s.chunks s.places (image (image_now log) left) address rest early
  pub some : s.early ≤ s.waits
  pub flushing : s.flushing ≡ true → s.early ≡ 0
  pub more : List ℤ
  pub waiting : s.waiting ≡ cells_of s.dataset more
  pub fit : first_outside s.dataset.int_type 0 (early ++ more) ≡ None
  pub count : length more ≡ (s.waits - s.early) * s.dataset.shape.cols
  pub appended : after.values ++ (early ++ more) ≡ appended log
  pub committed : flushed_rows log ≡ s.committed
  -- but for a flush that is pending, or was dropped, the rows planned are the file's
  pub planned : (s.stopped ≡ true → s.pending ≢ []) → s.flushing ≡ false → s.committed ≡ s.dataset.shape.rows
  pub columns : s.dataset.shape.cols ≡ log.columns
  pub past : Past s left log after

-- The session is that of this log, at every position of which the image is valid, reads as the flushed rows, and keeps what readers
-- rest on. Where the session was stopped, the pieces that were left of its last plan were dropped.
pub record Stands (s : Session) (log : Log) : Type 0 where
  pub left : List Write
  pub dropped : (left ≡ s.pending) ⊎ ((s.stopped ≡ true) × (s.pending ≡ []))
  pub phase : ((f : CreatedFile) × Creating f s left log) ⊎ Running s left log
  pub prefixed : PrefixedEach s.name log
  pub still : Still s.name log
