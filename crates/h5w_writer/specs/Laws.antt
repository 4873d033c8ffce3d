-- What is true of a log of which a session is the session.
use Rattle.std.specs.Prelude.{◌≡◌, ◌^◌, ◌≢◌, ℕ, ◌+◌, ◌<◌, ◌≤◌, true, false, List, [], ◌∷◌, length, get_or, max, ◌⊎◌, IsSome}
use Rattle.h5w_model.specs.Numbers.{range, undefined}
use Rattle.h5w_model.specs.Arrays.{eahd_len, numbers_in}
use Rattle.h5w_model.specs.Images.{At, image}
use Rattle.h5w_model.specs.Programs.{Visit, visits}
use Rattle.h5w_model.specs.Logs.{Log, hist, appended, flushed, rows_in, needed_chunks}
use Rattle.h5w_model.specs.Datasets.{root_header}
use Rattle.h5w_model.specs.Tables.{Limits, Reading, Shows, Reads, format_limits, limit_of, needed}
use Rattle.h5w_model.specs.Prefixed.{image_at, IsPosition, Prefixed, ReadsNow, Still, Held, root_address, continuation_blocks}
use Rattle.h5w_model.specs.declared.piece.Write.{Write}
use Rattle.h5w_image.specs.View.{ImageView, Wrote}
use Rattle.h5w_array_laws.specs.Parts.{IsPart, Part, slot_count}
use Rattle.h5w_cache.specs.Stores.{Store}
use Rattle.h5w_array_laws.specs.ArrayStores.{IsMaxSet, block_at_part, bytes_at_part, data_bytes, header_place, one_data, one_secondary, place_at_part, secondary_bytes, total}
use Rattle.h5w_flush_laws.specs.Knowledge.{IsMap}
use Rattle.h5w_index.specs.Views.{an_array, address_in}
use Rattle.h5w_index.specs.Placing.{IsOwn}
use Rattle.h5w_writer.specs.Past.{AllAddressed, HasOpened, IsNew}
use Rattle.h5w_writer.specs.Room.{HasRoomFor}
use Rattle.h5w_writer.specs.Sessions.{Session, AfterPiece, chunk_limit, cutting_of, rows_of, IsNamed}
use Rattle.h5w_writer.specs.Stands.{Stands}

-- What every reading of a session's image says, but for its rows and addresses.
pub record IsDatasetOf (s : Session) (r : Reading) : Type 0 where
  pub place : r.place ≡ s.place
  pub rank : r.dataset.shape.rank ≡ s.dataset.shape.rank
  pub columns : r.dataset.shape.cols ≡ s.dataset.shape.cols
  pub growing : r.dataset.shape.growing ≡ s.dataset.shape.growing
  pub int_type : r.dataset.int_type ≡ s.dataset.int_type
  pub fill : r.dataset.fill ≡ s.dataset.fill
  pub index : r.dataset.layout.index ≡ s.dataset.layout.index
  pub chunk_rows : r.dataset.layout.chunk_rows ≡ s.dataset.layout.chunk_rows
  pub chunk_columns : r.dataset.layout.chunk_cols ≡ s.dataset.layout.chunk_cols
  pub needed : needed r.dataset ≡ needed_chunks (cutting_of s) r.dataset.shape.rows

-- The log of a session is new, over no bytes and no values, and a reader finds a file once the pieces of its creation
-- are shown; or it began over a file that was opened. The columns are the dataset's, at least one. The session tells of its log how many rows are flushed and appended. At each position the image is valid
-- and reads as the rows that are flushed there, and what readers rest on stays from each position to each later one. Where nothing
-- is pending in a session that was not stopped, the image reads as all rows that were planned. The image of a session that was
-- stopped, once a reader finds a file in it, is valid and reads as the rows that are flushed, whatever the pieces were that were
-- dropped. The limit is one that a file may have. No image is longer than the limit or than the file that the log began with, whichever
-- is more, and none needs more chunks than an index of its kind can have. Whatever an image shows is a dataset of the session's shape. Where the
-- log began without values each needed chunk has an address.
pub record StandingLaws : Type 0 where
  pub begun : (s : Session) (log : Log) → Stands s log → IsNew log ⊎ HasOpened s log
  pub columns : (s : Session) (log : Log) → Stands s log → log.columns ≡ s.dataset.shape.cols
  pub some_columns : (s : Session) (log : Log) → Stands s log → 0 < s.dataset.shape.cols
  pub flushed_rows : (s : Session) (log : Log) → Stands s log → s.committed ≡ rows_in log (flushed log)
  pub appended_rows : (s : Session) (log : Log) → Stands s log → rows_of s ≡ rows_in log (appended log)
  pub prefixed : (s : Session) (log : Log) → Stands s log → Prefixed s.name log
  pub still : (s : Session) (log : Log) → Stands s log → Still s.name log
  pub held : (s : Session) (log : Log) → Stands s log → Held s.name log
  pub reads : (s : Session) (log : Log) → Stands s log → s.stopped ≡ false → s.pending ≡ []
      → Reads (image log.start (hist log.events)) s.name (rows_in log (flushed log)) log.columns (flushed log)
  pub planned_rows : (s : Session) (log : Log) → Stands s log → s.stopped ≡ false → s.pending ≡ [] → rows_in log (flushed log) ≡ s.dataset.shape.rows
  pub stopped : (s : Session) (log : Log) → Stands s log → s.stopped ≡ true → log.first ≤ length (hist log.events) → ReadsNow s.name log
  pub limited : (s : Session) (log : Log) → Stands s log → s.places.limit ≤ 2 ^ 40
  pub fits : (s : Session) (log : Log) (p : ℕ) → Stands s log → IsPosition log p → length (image_at log p) ≤ max s.places.limit (length log.start)
  pub within : (s : Session) (log : Log) (p : ℕ) (r : Reading) → Stands s log → IsPosition log p → Shows format_limits (image_at log p) s.name r → needed r.dataset ≤ limit_of format_limits r.dataset.layout.index
  pub dataset : (s : Session) (log : Log) (p : ℕ) (r : Reading) → Stands s log → IsPosition log p → Shows format_limits (image_at log p) s.name r → IsDatasetOf s r
  pub few : (s : Session) (log : Log) (p : ℕ) (r : Reading) → Stands s log → IsPosition log p → Shows format_limits (image_at log p) s.name r → needed r.dataset ≤ chunk_limit s
  pub addressed : (s : Session) (log : Log) (p : ℕ) (r : Reading) → Stands s log → log.values ≡ [] → IsPosition log p → Shows format_limits (image_at log p) s.name r → AllAddressed r

-- ---- What readers find

-- What an array's header says on the image: it stands where the dataset has it, the array's map is the file's, each block that is kept stands
-- at its place, and the six numbers count these blocks and chunks: the secondary blocks and their bytes, the data blocks and their bytes, one
-- more than the greatest chunk number that has an address, and the slots.
pub record SaysNumbers (s : Session) (v : Store) (img : List ℕ) : Type 0 where
  pub address : s.dataset.layout.address ≡ header_place v
  pub map : IsMap img s.dataset (address_in s.index)
  pub there : (k : Part) → IsPart k → IsSome (block_at_part v k) → At img (place_at_part v k) (bytes_at_part v k)
  pub most : ℕ
  pub greatest : IsMaxSet v most
  pub six : numbers_in (range img (header_place v) eahd_len) 6 12
      ≡ total one_secondary v ∷ total secondary_bytes v ∷ total one_data v ∷ total data_bytes v ∷ most ∷ (4 + total slot_count v) ∷ []

-- At each position of the log of a session that created its file: whatever the image shows is a dataset of the session's shape, and is
-- shown within all limits that allow the chunks of a session, of which few are needed, each with an address; the root header is one look, the dataset
-- header names no further block; and the image ends within the limit. Its index is one as it is made here, which the layout names; and where nothing is pending and
-- no rows wait, as after a flush whose pieces all became visible, an array's header says so on the image.
pub record ShownLaws : Type 0 where
  pub dataset : (s : Session) (log : Log) (p : ℕ) (r : Reading) → Stands s log → IsNew log → IsPosition log p → Shows format_limits (image_at log p) s.name r → IsDatasetOf s r
  pub shown : (s : Session) (log : Log) (limits : Limits) (p : ℕ) (r : Reading) → Stands s log → IsNew log → chunk_limit s ≤ limit_of limits s.dataset.layout.index → IsPosition log p
      → Shows format_limits (image_at log p) s.name r → Shows limits (image_at log p) s.name r
  pub within : (s : Session) (log : Log) (limits : Limits) (p : ℕ) (r : Reading) → Stands s log → IsNew log → chunk_limit s ≤ limit_of limits s.dataset.layout.index → IsPosition log p
      → Shows format_limits (image_at log p) s.name r → needed r.dataset ≤ limit_of limits r.dataset.layout.index
  pub few : (s : Session) (log : Log) (p : ℕ) (r : Reading) → Stands s log → IsNew log → IsPosition log p → Shows format_limits (image_at log p) s.name r → needed r.dataset ≤ chunk_limit s
  pub addressed : (s : Session) (log : Log) (p : ℕ) (r : Reading) → Stands s log → IsNew log → IsPosition log p → Shows format_limits (image_at log p) s.name r
      → (k : ℕ) → k < needed r.dataset → get_or r.table k undefined ≢ undefined
  pub root_header : (s : Session) (log : Log) (p : ℕ) → Stands s log → IsNew log → IsPosition log p → (v : Visit) × (visits (image_at log p) (root_header (root_address (image_at log p))) ≡ v ∷ [])
  pub dataset_header : (s : Session) (log : Log) (p : ℕ) (r : Reading) → Stands s log → IsNew log → IsPosition log p → Shows format_limits (image_at log p) s.name r → continuation_blocks (image_at log p) r ≡ []
  pub fits : (s : Session) (log : Log) (p : ℕ) → Stands s log → IsNew log → IsPosition log p → length (image_at log p) ≤ s.places.limit
  pub own : (s : Session) (log : Log) → Stands s log → IsNew log → IsOwn s.index
  pub named : (s : Session) (log : Log) → Stands s log → IsNew log → IsNamed s.dataset
  pub numbers : (s : Session) (log : Log) → Stands s log → IsNew log → s.stopped ≡ false → s.pending ≡ [] → s.waits ≡ 0 → (v : Store) → s.index ≡ an_array v → SaysNumbers s v (image log.start (hist log.events))

-- an image with room for a session has room for it after the oldest piece was written
abbrev pub RoomStays : Type 0
RoomStays = (s t : Session) (w : Write) (ws : List Write) (v u : ImageView) → s.pending ≡ w ∷ ws → HasRoomFor s v → AfterPiece s ws t → Wrote (w ∷ []) v u → HasRoomFor t u
