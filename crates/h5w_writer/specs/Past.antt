-- What a session keeps of the positions of its log, and of the bounds of its file.
use Rattle.std.specs.Prelude.{◌≡◌, ◌≢◌, ◌⊎◌, ℕ, ◌+◌, ◌*◌, ◌^◌, ◌<◌, ◌≤◌, max, List, [], ◌++◌, length, get_or, take, false}
use Rattle.h5w_model.specs.Numbers.{undefined}
use Rattle.h5w_model.specs.Logs.{Log, hist, rows_in, spent}
use Rattle.h5w_model.specs.Prefixed.{IsPosition, image_at}
use Rattle.h5w_model.specs.Datasets.{Described}
use Rattle.h5w_model.specs.Findings.{Summary, Valid}
use Rattle.h5w_model.specs.Tables.{Reading, Reads, Shows, chunks_across, format_limits, needed}
use Rattle.h5w_chunks.specs.Grids.{fill_cell}
use Rattle.h5w_model.specs.declared.piece.Write.{Write}
use Rattle.h5w_step_laws.specs.Moments.{Moment, reading_of}
use Rattle.h5w_index.specs.Blocks.{has_no_block}
use Rattle.h5w_index.specs.Placing.{IsOwn}
use Rattle.h5w_index.specs.Views.{IndexView}
use Rattle.h5w_creation_laws.specs.CreatedFiles.{CreatedFile, IsCreatable, created_writes, described_of, header_place}
use Rattle.h5w_writer.specs.Creations.{log_of}
use Rattle.h5w_writer.specs.Loads.{first_end_of}
use Rattle.h5w_writer.specs.Reaches.{ReachedFrom}
use Rattle.h5w_writer.specs.Sessions.{IsRoomy, Session, AllEndBy, cutting_of, with_rows}

-- each needed chunk of what an image shows has an address
abbrev pub AllAddressed : Reading → Type 0
AllAddressed r = (k : ℕ) → k < needed r.dataset → get_or r.table k undefined ≢ undefined

-- The log began with the creation of a file, whose name, header's place and dataset, but for its rows, the session has.
pub record HasCreated (s : Session) (log : Log) : Type 0 where
  pub file : CreatedFile
  pub is : IsCreatable file
  pub log_is : log ≡ log_of file log.events
  pub pieces : take (length (created_writes file)) (hist log.events) ≡ created_writes file
  pub name : s.name ≡ file.name
  pub place : s.place ≡ header_place file
  pub dataset : s.dataset ≡ with_rows s.dataset.shape.rows (described_of file)

-- The log began over a file that was opened: valid, with rows of so many columns under the session's name.
pub record HasOpened (s : Session) (log : Log) : Type 0 where
  pub summary : Summary
  pub valid : Valid log.start s.name summary
  pub rows : ℕ
  pub reads : Reads log.start s.name rows log.columns log.values
  pub some_columns : 0 < log.columns
  pub first : log.first ≡ 0

-- the log is that of a session that created its file
pub record IsNew (log : Log) : Type 0 where
  pub file : CreatedFile
  pub is : IsCreatable file
  pub log_is : log ≡ log_of file log.events

-- the most bytes that the file may come to
abbrev pub most_of : Session → Log → ℕ
most_of s log = max s.places.limit (first_end_of log)

-- The dataset has columns, and its chunks and cells have sizes that can be counted with.
pub record IsCounted (d : Described) : Type 0 where
  pub rows : 0 < d.layout.chunk_rows
  pub cols : 0 < d.layout.chunk_cols
  pub some : 0 < d.int_type.size
  pub few : d.int_type.size ≤ 8
  pub small : d.layout.chunk_rows * d.layout.chunk_cols * d.int_type.size < 2 ^ 32
  pub fill : length (fill_cell d) ≡ d.int_type.size
  pub columns : 0 < d.shape.cols
  pub across : 0 < chunks_across d

-- an index as it is made here
abbrev pub IsMadeHere : IndexView → Type 0
IsMadeHere v = IsOwn v × (has_no_block v ≡ false)

-- How the log began; in a file that had no rows then, at each position each needed chunk has an address, and so it has at the moment to which
-- the pieces left lead; in one that the session created the index is one as it is made here; and the file's end and all pieces are bounded.
pub record Past (s : Session) (left : List Write) (log : Log) (after : Moment) : Type 0 where
  pub begun : HasCreated s log ⊎ HasOpened s log
  pub counted : IsCounted s.dataset
  pub limit_low : 1024 ≤ s.places.limit
  pub limit_high : s.places.limit ≤ 2 ^ 40
  pub addressed : log.values ≡ [] → (p : ℕ) (r : Reading) → IsPosition log p → Shows format_limits (image_at log p) s.name r → AllAddressed r
  pub next : log.values ≡ [] → AllAddressed (reading_of after)
  pub own : IsNew log → IsMadeHere s.index
  -- once the session brought rows, or where it was so before, readers look for each chunk that the rows need and that has an address
  pub reach : ReachedFrom (rows_in log log.values) log.start s
  -- the file grew by no more than what its plans were bound to
  pub grew : s.places.end ≤ first_end_of log + spent (cutting_of s) log
  -- the end and all pieces are within the limit, or within the file that it began with
  pub fits : s.places.end ≤ most_of s log
  pub ends : AllEndBy (most_of s log) (hist log.events ++ left)
  -- the index of a file that the session created has room for each of its chunks
  pub roomy : IsNew log → IsRoomy s.dataset s.index
