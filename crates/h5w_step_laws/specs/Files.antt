-- What the write of a commit makes of a file: the same dataset with other rows, and with the index address where one is given.
use Rattle.std.specs.Prelude.{◌≡◌, ℕ, ◌^◌, ◌<◌, ◌≤◌, true, false, List, ◌∷◌, length, nat_lt, Option, Some, None, IsSome, IsOk, Ok}
use Rattle.h5w_model.specs.Numbers.{range, undefined}
use Rattle.h5w_model.specs.Images.{apply}
use Rattle.h5w_model.specs.Programs.{eval}
use Rattle.h5w_model.specs.Headers.{header_view, messages_at, rows_in_header, index_in_header, with_rows_bytes}
use Rattle.h5w_model.specs.Datasets.{FoundMessage, HeaderFields, Described, dataset_messages, first_of, layout_kind}
use Rattle.h5w_model.specs.Tables.{Limits, limit_of, needed, format_limits}
use Rattle.h5w_model.specs.Findings.{Used, checked_dataset}
use Rattle.h5w_model.specs.Prefixed.{SameDescribed, SameHeader}
use Rattle.h5w_model.specs.declared.root.Super.{Super}
use Rattle.h5w_model.specs.declared.piece.Write.{Write}
use Rattle.h5w_step_laws.specs.Ranges.{MissesBlocks, Disjoint, block_at}
use Rattle.h5w_step_laws.specs.Needed.{AreFew}
use Rattle.h5w_step_laws.specs.Moments.{Moment, Represents}
use Rattle.h5w_step_laws.specs.Steps.{InChunk0}

-- chunk 0 of the dataset header at a place: what counts of a look at it
abbrev pub chunk_0 : List ℕ → ℕ → List ℕ
chunk_0 img place = header_view (range img place 512)

-- the write of a commit
abbrev pub commit_at : List ℕ → ℕ → ℕ → Option ℕ → Write
commit_at img place rows index = record { at = place; piece = with_rows_bytes (chunk_0 img place) rows index }

-- the dataset with other rows
abbrev pub with_rows : ℕ → Described → Described
with_rows rows d = record d { shape = record (d.shape) { rows = rows } }

-- the dataset with another index address
abbrev pub with_index : ℕ → Described → Described
with_index index d = record d { layout = record (d.layout) { address = index } }

-- The first layout message of the header stands in chunk 0, and not in a continuation block. Of a layout elsewhere the index
-- address cannot be written with the rows.
abbrev pub LayoutInChunk0 : List ℕ → ℕ → Type 0
LayoutInChunk0 img place = (h : HeaderFields) (y : FoundMessage) → eval img (dataset_messages place (chunk_0 img place)) ≡ Ok h → first_of layout_kind h.messages ≡ Some y → y.in_chunk_0 ≡ true

-- ---- Laws

-- Chunk 0 of each dataset header that is read has a place of the rows, and one of the index address where the first layout
-- stands in chunk 0.
pub record IsWritable (img : List ℕ) (place : ℕ) : Type 0 where
  pub read : IsOk (messages_at (chunk_0 img place))
  pub rows : IsSome (rows_in_header (chunk_0 img place))
  pub index : LayoutInChunk0 img place → IsSome (index_in_header (chunk_0 img place))

abbrev pub HeaderWritable : Type 0
HeaderWritable = (img : List ℕ) (limits : Limits) (s : Super) (place : ℕ) (d : Described) (us : List Used) → eval img (checked_dataset limits s place) ≡ Ok (d, us) → IsWritable img place

-- A write that misses the header's ranges leaves its layout in chunk 0.
abbrev pub LayoutMissed : Type 0
LayoutMissed = (w : Write) (img : List ℕ) (limits : Limits) (s : Super) (place : ℕ) (d : Described) (us : List Used) → eval img (checked_dataset limits s place) ≡ Ok (d, us) → s.end ≤ length img
    → MissesBlocks w us → LayoutInChunk0 img place → LayoutInChunk0 (apply w img) place

-- The header after the write of a commit, which is one piece and lies in chunk 0: it is read as another dataset with the same
-- ranges, and chunk 0 is what was written.
pub record IsWritten (img : List ℕ) (limits : Limits) (s : Super) (place : ℕ) (us : List Used) (w : Write) (old new : Described) : Type 0 where
  pub continued : List Used
  pub ranges : us ≡ block_at place (length w.piece) ∷ continued
  pub some : 1 ≤ length w.piece
  pub short : length w.piece ≤ 512
  pub header : eval (apply w img) (checked_dataset limits s place) ≡ Ok (new, us)
  pub now : chunk_0 (apply w img) place ≡ w.piece
  pub same : SameHeader (chunk_0 img place) (chunk_0 (apply w img) place) old.layout.address
  pub described : SameDescribed old new
  pub layout : LayoutInChunk0 img place → LayoutInChunk0 (apply w img) place

-- other rows, whose needed chunks are within the limit
abbrev pub RowsCommitted : Type 0
RowsCommitted = (img : List ℕ) (limits : Limits) (s : Super) (place : ℕ) (d : Described) (us : List Used) (rows : ℕ) → eval img (checked_dataset limits s place) ≡ Ok (d, us) → s.end ≤ length img
    → Disjoint us → rows < 2 ^ 64 → nat_lt (limit_of limits d.layout.index) (needed (with_rows rows d)) ≡ false
    → IsWritten img limits s place us (commit_at img place rows None) d (with_rows rows d)

-- other rows and the index address, which was undefined
abbrev pub IndexCommitted : Type 0
IndexCommitted = (img : List ℕ) (limits : Limits) (s : Super) (place : ℕ) (d : Described) (us : List Used) (rows index : ℕ) → eval img (checked_dataset limits s place) ≡ Ok (d, us) → s.end ≤ length img
    → Disjoint us → d.layout.address ≡ undefined → LayoutInChunk0 img place → rows < 2 ^ 64 → index < 2 ^ 64
    → nat_lt (limit_of limits d.layout.index) (needed (with_index index (with_rows rows d))) ≡ false
    → IsWritten img limits s place us (commit_at img place rows (Some index)) d (with_index index (with_rows rows d))

-- The same of a file at a moment: what a writer shows of the header before a commit.
pub record HeaderCommits (img : List ℕ) (m : Moment) (w : Write) (d : Described) : Type 0 where
  pub inside : InChunk0 m w
  pub some : 1 ≤ length w.piece
  pub short : length w.piece ≤ 512
  pub header : eval (apply w img) (checked_dataset format_limits m.super m.place) ≡ Ok (d, m.header)
  pub now : chunk_0 (apply w img) m.place ≡ w.piece
  pub chunk_0 : SameHeader (header_view (range img m.place 512)) (header_view (range (apply w img) m.place 512)) m.dataset.layout.address
  pub described : SameDescribed m.dataset d
  pub layout : LayoutInChunk0 img m.place → LayoutInChunk0 (apply w img) m.place

abbrev pub GrowingHeader : Type 0
GrowingHeader = (img name : List ℕ) (m : Moment) (rows : ℕ) → Represents img name m → rows < 2 ^ 64 → AreFew (with_rows rows m.dataset)
    → HeaderCommits img m (commit_at img m.place rows None) (with_rows rows m.dataset)

abbrev pub StartingHeader : Type 0
StartingHeader = (img name : List ℕ) (m : Moment) (rows index : ℕ) → Represents img name m → m.dataset.layout.address ≡ undefined → LayoutInChunk0 img m.place → rows < 2 ^ 64 → index < 2 ^ 64
    → AreFew (with_index index (with_rows rows m.dataset)) → HeaderCommits img m (commit_at img m.place rows (Some index)) (with_index index (with_rows rows m.dataset))
