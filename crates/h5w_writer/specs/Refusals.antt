-- Why a session's calls are refused.
use Rattle.std.specs.Prelude.{◌≡◌, ◌⊎◌, ℕ, ◌/◌, ◌<◌, List, length, ℤ, nat_lt, if◌then◌else◌, Option, Some, None}
use Rattle.h5w_model.specs.Datasets.{Described}
use Rattle.h5w_model.specs.Lawful.{first_outside}
use Rattle.h5w_model.specs.Arrays.{eahd_len, eaib_len}
use Rattle.h5w_model.specs.Trees.{bthd_len}
use Rattle.h5w_model.specs.Numbers.{undefined}
use Rattle.h5w_model.specs.declared.cell.IndexKind.{IndexKind}
use Rattle.h5w_model.specs.declared.cell.IndexKind.TheVariants.{Array, Tree}
use Rattle.h5w_model.specs.declared.cell.Key.{Key}
use Rattle.h5w_space.specs.Space.{Space, extent}
use Rattle.h5w_space.specs.declared.Full.{Full}
use Rattle.h5w_cache.specs.Plans.{IsRefused, Took}
use Rattle.h5w_cache.specs.declared.plan.PlanError.{PlanError}
use Rattle.h5w_cache.specs.declared.plan.PlanError.TheVariants as plan
use Rattle.h5w_image.specs.declared.fault.ImageError.{ImageError}
use Rattle.h5w_image.specs.declared.fault.ImageError.TheVariants as image
use Rattle.h5w_chunks.specs.Shares.{touched}
use Rattle.h5w_chunks.specs.declared.grid.ChunkPlace.{ChunkPlace}
use Rattle.h5w_bt_index.specs.declared.error.InsertError.{InsertError}
use Rattle.h5w_bt_index.specs.declared.error.InsertError.TheVariants as inserts
use Rattle.h5w_index.specs.Views.{IndexView, address_in, kind_of}
use Rattle.h5w_index.specs.Marks.{IsRaised}
use Rattle.h5w_index.specs.Full.{IsFullPart}
use Rattle.h5w_index.specs.Naming.{AreNamed}
use Rattle.h5w_index.specs.Placing.{next_key}
use Rattle.h5w_index.specs.Steps.{IsDeep}
use Rattle.h5w_writer.specs.Sessions.{IsRoomy, IsUnmade, IsWhole, Session, chunk_limit, chunks_with, rows_of}
use Rattle.h5w_writer.specs.Starts.{IsStartedAt}
use Rattle.h5w_writer.specs.declared.refusal.AppendError.{AppendError}
use Rattle.h5w_writer.specs.declared.refusal.AppendError.TheVariants as appends
use Rattle.h5w_writer.specs.declared.refusal.FlushError.{FlushError}
use Rattle.h5w_writer.specs.declared.refusal.FlushError.TheVariants as flushes
use Rattle.h5w_writer.specs.declared.refusal.CloseError.{CloseError}
use Rattle.h5w_writer.specs.declared.refusal.CloseError.TheVariants as closes

-- the needed chunks are past the limit
abbrev pub chunks_refusal : Session → ℕ → Option AppendError
chunks_refusal s more = if nat_lt (chunk_limit s) (chunks_with s more) then Some (appends.Chunks (chunks_with s more) (chunk_limit s)) else None

-- the first of these that applies: the session was stopped, pieces are pending, a value is outside the type, the rows need too many chunks
abbrev pub append_refusal : Session → List ℤ → Option AppendError
append_refusal s values =
    if s.stopped then Some appends.Stopped
    else if nat_lt 0 (length s.pending) then Some (appends.Busy (length s.pending))
    else elim (first_outside s.dataset.int_type 0 values) [
      | Some x ↦ Some (appends.OutOfRange x.0 x.1)
      | None ↦ chunks_refusal s (length values / s.dataset.shape.cols)
    ]

-- the session was stopped, or pieces are pending
abbrev pub close_refusal : Session → Option CloseError
close_refusal s =
    if s.stopped then Some closes.Stopped
    else if nat_lt 0 (length s.pending) then Some (closes.Busy (length s.pending))
    else None

-- what is answered where the image made no room
abbrev pub append_fault : ImageError → AppendError
append_fault image.Failed = appends.Failed
append_fault image.OutOfMemory = appends.OutOfMemory

-- ---- A flush

-- the session was stopped, or pieces are pending
abbrev pub flush_refusal : Session → Option FlushError
flush_refusal s =
    if s.stopped then Some flushes.Stopped
    else if nat_lt 0 (length s.pending) then Some (flushes.Busy (length s.pending))
    else None

-- the file has no place
abbrev pub IsSpace : FlushError → Type 0
IsSpace e = (full : Full) × (e ≡ flushes.Space full)

-- there is no place for an array's index block, or else none for its header, where the layout names none
pub data IsArrayUnplaced (address : ℕ) (s : Space) (full : Full) : Type 0 where
  no_block : IsRefused s eaib_len full → IsArrayUnplaced address s full
  no_header : (block : ℕ) (a : Space) → address ≡ undefined → Took s a (extent block eaib_len) → IsRaised s a eaib_len → IsRefused a eahd_len full → IsArrayUnplaced address s full

-- there is no place for the blocks in place of an index that is made: of a tree it is the header's
abbrev pub IsUnplaced : IndexKind → ℕ → Space → Full → Type 0
IsUnplaced Array address s full = IsArrayUnplaced address s full
IsUnplaced Tree address s full = IsRefused s bthd_len full

-- over the index that is made there is none for the first new chunk, or else for the first block in turn
pub record IsUnfilled (s : Session) (full : Full) : Type 0 where
  pub at : ℕ
  pub first : Space
  pub made : IndexView
  pub kind : s.dataset.layout.index ≡ kind_of made
  pub start : IsStartedAt s.dataset.layout.address s.places at made first
  pub none : IsFullPart s.dataset (rows_of s) made s.chunks first full

-- the file lacks its index, or its index block
abbrev pub IsStartFull : Session → Full → Type 0
IsStartFull s full = IsUnplaced s.dataset.layout.index s.dataset.layout.address s.places full ⊎ IsUnfilled s full

-- so it is for the rows that wait
abbrev pub IsFullFor : Session → Full → Type 0
IsFullFor s full = (IsWhole s × IsFullPart s.dataset (rows_of s) s.index s.chunks s.places full) ⊎ (IsUnmade s × IsStartFull s full)

-- Behind chunks that have their places, the next has none yet, and the index as it is then, with places held for those before it, has no
-- room for its key. So it is in no index that has room for each chunk that the dataset can have.
pub record IsDeepPart (d : Described) (to : ℕ) (v : IndexView) : Type 0 where
  pub chunks : List ChunkPlace
  pub added : List Key
  pub w : IndexView
  pub named : AreNamed d to v chunks added w
  pub inside : length chunks < touched d d.shape.rows to
  pub absent : address_in v (next_key d chunks) ≡ undefined
  pub deep : IsDeep w (next_key d chunks)
  pub cramped : IsRoomy d v → ⊥

-- So it is for the rows that wait: in a tree of depth 3 that is there each node on the way to the first new chunk that has no record is full.
abbrev pub IsDeepFor : Session → Type 0
IsDeepFor s = IsWhole s × IsDeepPart s.dataset (rows_of s) s.index

-- what is answered where the image made no room, where a chunk's key has none in the index, and where the index has no plan
abbrev pub flush_fault : ImageError → FlushError
flush_fault image.Failed = flushes.Failed
flush_fault image.OutOfMemory = flushes.OutOfMemory

abbrev pub insert_fault : InsertError → FlushError
insert_fault inserts.Deep = flushes.Deep
insert_fault inserts.OutOfMemory = flushes.OutOfMemory

abbrev pub plan_fault : PlanError → FlushError
plan_fault (plan.Full full) = flushes.Space full
plan_fault plan.OutOfMemory = flushes.OutOfMemory
