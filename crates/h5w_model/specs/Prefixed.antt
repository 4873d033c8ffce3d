-- What holds of the image at every position of a log: it is valid and reads as the flushed rows, and what readers
-- rest on stays from one position to a later one.
use Rattle.std.specs.Prelude.{◌≡◌, ◌≢◌, ◌⊎◌, ℕ, ◌+◌, ◌<◌, ◌≤◌, List, [], ◌∷◌, length, take, get_or, slice_get, Option, Some, None, Ok, Err}
use Rattle.h5w_model.specs.Numbers.{range, undefined}
use Rattle.h5w_model.specs.Images.{image, Misses}
use Rattle.h5w_model.specs.Programs.{Visit, eval, visits, Same}
use Rattle.h5w_model.specs.Superblock.{super_fields}
use Rattle.h5w_model.specs.Headers.{header_view, rows_in_header, index_in_header}
use Rattle.h5w_model.specs.Arrays.{eahd_at, eahd_len}
use Rattle.h5w_model.specs.Logs.{Log, Happening, hist, shown, flushed, flushed_rows, flushed_at, first_rows}
use Rattle.h5w_model.specs.Datasets.{Described, root_header, dataset_from}
use Rattle.h5w_model.specs.Tables.{Reading, Shows, Reads, InPlace, in_place, address_behind, format_limits, cell}
use Rattle.h5w_model.specs.Findings.{Summary, Valid}
use Rattle.h5w_model.specs.declared.cell.Key.{Key}
use Rattle.h5w_model.specs.declared.cell.IndexKind.{IndexKind}
use Rattle.h5w_model.specs.declared.cell.IndexKind.TheVariants.{Array, Tree}
use Rattle.h5w_model.specs.declared.piece.Write.{Write}

-- the image at position p: after p pieces
abbrev pub image_at : Log → ℕ → List ℕ
image_at log p = image log.start (take p (hist log.events))

-- a position at which a reader finds a file
pub record IsPosition (log : Log) (p : ℕ) : Type 0 where
  pub begun : log.first ≤ p
  pub reached : p ≤ length (hist log.events)

-- the image at position p is valid, and reads as the rows that are flushed there
pub record PrefixedAt (name : List ℕ) (log : Log) (p : ℕ) : Type 0 where
  pub summary : Summary
  pub valid : Valid (image_at log p) name summary
  pub reads : Reads (image_at log p) name (flushed_at log p) log.columns (first_rows log (flushed_at log p))

-- at every position
abbrev pub Prefixed : List ℕ → Log → Type 0
Prefixed name log = (p : ℕ) → IsPosition log p → PrefixedAt name log p

-- the image now is valid, and reads as the rows that are flushed now
pub record ReadsNow (name : List ℕ) (log : Log) : Type 0 where
  pub summary : Summary
  pub valid : Valid (image log.start (hist log.events)) name summary
  pub reads : Reads (image log.start (hist log.events)) name (flushed_rows log) log.columns (flushed log)

-- after each event, once the first superblock is there
abbrev pub EachReads : List ℕ → Log → List Happening → Type 0
EachReads name log [] = log.first ≤ 0 → ReadsNow name (record log { events = [] })
EachReads name log (e ∷ es) = (log.first ≤ shown (e ∷ es) → ReadsNow name (record log { events = e ∷ es })) × EachReads name log es

abbrev pub PrefixedEach : List ℕ → Log → Type 0
PrefixedEach name log = EachReads name log log.events

-- ---- What stays

-- where the superblock says that the root header stands
abbrev pub root_address : List ℕ → ℕ
root_address img = (super_fields (range img 0 48)).root

-- the chunks that an index can name
abbrev pub IsKey : IndexKind → Key → Type 0
IsKey Array key = (key.i < format_limits.array) × (key.j ≡ 0)
IsKey Tree key = Unit {0}

-- an address that was defined is the same
abbrev pub StaysDefined : ℕ → ℕ → Type 0
StaysDefined old new = old ≢ undefined → new ≡ old

-- the array's header at an address names this index block
abbrev pub NamesBlock : List ℕ → ℕ → ℕ → Type 0
NamesBlock img address b = elim (eahd_at (range img address eahd_len) address) [ Ok h ↦ h.block ≡ b | Err f ↦ b ≡ undefined ]

-- what a dataset's messages say, but for its rows and an index address that was undefined
pub record SameDescribed (old new : Described) : Type 0 where
  pub rows_alone : new ≡ record old { shape = record (old.shape) { rows = new.shape.rows }; layout = record (old.layout) { address = new.layout.address } }
  pub address : StaysDefined old.layout.address new.layout.address

-- byte k is outside the 8 bytes at a place, where there is such a place
abbrev pub IsOutside : Option ℕ → ℕ → Type 0
IsOutside None k = Unit {0}
IsOutside (Some place) k = (k < place) ⊎ (place + 8 ≤ k)

-- What counts of a dataset header (its chunk 0) at a later moment: the same bytes but for the size of dimension 0, an index
-- address that was undefined, and the sum behind them.
pub record SameHeader (old new : List ℕ) (address : ℕ) : Type 0 where
  pub size : length new ≡ length old
  pub rows_place : rows_in_header new ≡ rows_in_header old
  pub index_place : index_in_header new ≡ index_in_header old
  pub bytes : (k : ℕ) → k + 4 < length old → IsOutside (rows_in_header old) k → (address ≢ undefined) ⊎ IsOutside (index_in_header old) k
      → get_or new k 0 ≡ get_or old k 0

-- each block behind those in place, for every key, has the same bytes
abbrev pub SameBehind : List ℕ → Reading → List ℕ → Type 0
SameBehind old r new =
    (p : InPlace) (key : Key) → eval old (in_place r.dataset) ≡ Ok p → IsKey r.dataset.layout.index key → Same old new (visits old (address_behind p key))

-- the continuation blocks of the dataset header
abbrev pub continuation_blocks : List ℕ → Reading → List Visit
continuation_blocks img r = visits img (dataset_from r.place (header_view (range img r.place 512)))

-- what stays from one position to a later one, whatever happens between them
pub record Stays (old : List ℕ) (r : Reading) (new : List ℕ) (s : Reading) : Type 0 where
  pub root : root_address new ≡ root_address old
  pub root_header : Same old new (visits old (root_header (root_address old)))
  pub place : s.place ≡ r.place
  -- the header names the same continuation blocks, and they have the same bytes
  pub named : continuation_blocks new s ≡ continuation_blocks old r
  pub continuations : Same old new (continuation_blocks old r)
  pub described : SameDescribed r.dataset s.dataset
  -- of chunk 0 only the rows, an index address that was undefined, and the sum change
  pub chunk_0 : SameHeader (header_view (range old r.place 512)) (header_view (range new r.place 512)) r.dataset.layout.address
  pub rows : r.dataset.shape.rows ≤ s.dataset.shape.rows
  -- each commit raises the rows
  pub header : r.dataset.shape.rows ≡ s.dataset.shape.rows → header_view (range new r.place 512) ≡ header_view (range old r.place 512)
  pub index_block : (a b : ℕ) → r.dataset.layout.index ≡ Array → r.dataset.layout.address ≢ undefined
      → NamesBlock old r.dataset.layout.address a → NamesBlock new r.dataset.layout.address b → StaysDefined a b
  pub addresses : (k : ℕ) → k < length r.table → StaysDefined (get_or r.table k undefined) (get_or s.table k undefined)
  pub cells : (row column : ℕ) → row < r.dataset.shape.rows → column < r.dataset.shape.cols → cell new s row column ≡ cell old r row column

-- and while the rows are the same, each block behind those in place keeps its bytes
pub record Keeps (old : List ℕ) (r : Reading) (new : List ℕ) (s : Reading) : Type 0 where
  pub stays : Stays old r new s
  pub behind : r.dataset.shape.rows ≡ s.dataset.shape.rows → SameBehind old r new

-- from each position to each later one
abbrev pub Held : List ℕ → Log → Type 0
Held name log = (i j : ℕ) (r s : Reading) → IsPosition log i → IsPosition log j → i ≤ j
    → Shows format_limits (image_at log i) name r → Shows format_limits (image_at log j) name s
    → Keeps (image_at log i) r (image_at log j) s

-- a write meets no byte of these ranges
abbrev pub MissesAll : Write → List Visit → Type 0
MissesAll w [] = Unit {0}
MissesAll w (v ∷ vs) = Misses w v.place v.len × MissesAll w vs

-- a write meets no byte of a block that the blocks in place of this image reach, for every key
abbrev pub MissesBehind : Write → List ℕ → Reading → Type 0
MissesBehind w img r =
    (p : InPlace) (key : Key) → eval img (in_place r.dataset) ≡ Ok p → IsKey r.dataset.layout.index key → MissesAll w (visits img (address_behind p key))

-- One piece, from position k to the next: what stays, and that the piece meets no byte of a block that was reached
-- behind the blocks in place at an earlier position with as many rows as now.
pub record StillAt (name : List ℕ) (log : Log) (k : ℕ) : Type 0 where
  pub steps : (r s : Reading) → Shows format_limits (image_at log k) name r → Shows format_limits (image_at log (k + 1)) name s
      → Stays (image_at log k) r (image_at log (k + 1)) s
  pub misses : (w : Write) (p : ℕ) (r s : Reading) → slice_get (hist log.events) k ≡ Some w → log.first ≤ p → p ≤ k
      → Shows format_limits (image_at log p) name r → Shows format_limits (image_at log k) name s
      → r.dataset.shape.rows ≡ s.dataset.shape.rows → MissesBehind w (image_at log p) r

abbrev pub Still : List ℕ → Log → Type 0
Still name log = (k : ℕ) → log.first ≤ k → k < length (hist log.events) → StillAt name log k
