-- A session: what its values are, and what each call makes of it.
use Rattle.std.specs.Prelude.{◌≡◌, ◌≢◌, ◌⊎◌, ◌==◌, ◌^◌, ℕ, ◌+◌, ◌-◌, ◌*◌, ◌/◌, ◌%◌, ◌<◌, ◌≤◌, Bool, true, false, List, [], ◌∷◌, ◌++◌, length, ℤ, Option, None, Some, Ok, find, slice_get}
use Rattle.h5w_model.specs.Images.{AllSized}
use Rattle.h5w_model.specs.Superblock.{super_bytes}
use Rattle.h5w_model.specs.Arrays.{eahd_len}
use Rattle.h5w_model.specs.Logs.{Cutting, div_up}
use Rattle.h5w_model.specs.Datasets.{Described, dataspace_kind, layout_kind}
use Rattle.h5w_model.specs.Tables.{format_limits, keys_across, limit_of, needed}
use Rattle.h5w_model.specs.Numbers.{undefined}
use Rattle.h5w_model.specs.Findings.{the_superblock}
use Rattle.h5w_model.specs.Headers.{index_address_place, messages_at}
use Rattle.h5w_model.specs.declared.cell.Key.{Key}
use Rattle.h5w_model.specs.declared.message.Msg.{Msg}
use Rattle.h5w_model.specs.declared.root.Super.{Super}
use Rattle.h5w_model.specs.declared.piece.Write.{Write}
use Rattle.h5w_step_laws.specs.Files.{with_index}
use Rattle.h5w_space.specs.Space.{Commits, IsLive, Space}
use Rattle.h5w_step_laws.specs.Ranges.{AllEndBy as RangesEndBy}
use Rattle.h5w_chunks.specs.Grids.{cells_of, chunk_len}
use Rattle.h5w_chunks.specs.Shares.{first_line, touched}
use Rattle.h5w_chunks.specs.declared.grid.ChunkPlace.{ChunkPlace}
use Rattle.h5w_flush_laws.specs.EarlyRows.{IsEarlyPlace}
use Rattle.h5w_flush_laws.specs.Spaces.{extent_of}
use Rattle.h5w_index.specs.Views.{IndexView, IsReached, IsSound, address_in, fixed_of, header_place, kind_of}
use Rattle.h5w_index.specs.Blocks.{has_no_block}
use Rattle.h5w_index.specs.Placing.{AreInside, Fits}
use Rattle.h5w_index.specs.Depths.{AreWithin}

-- The dataset's name; the superblock; the dataset header's place and its chunk 0; the dataset; the places of the file: all as they
-- are once all pending pieces became visible. The rows that the file has until the last of a flush's does; how many rows no flush has
-- planned, and the cells of those of them that were not written early; the pending pieces, the oldest first; whether the session was
-- stopped, and whether what is retired stays so. The most bytes that may wait unwritten after an append; how many of the rows that no flush
-- has planned, the first of them, were written early, and the places of the chunks that these go into, in the order of their keys; whether
-- what is pending is a flush. Last the index of chunks, of either kind, which names no chunk that was written early.
pub record Session : Type 0 where
  pub name : List ℕ
  pub root : Super
  pub place : ℕ
  pub header : List ℕ
  pub dataset : Described
  pub places : Space
  pub committed : ℕ
  pub waiting : List ℕ
  pub waits : ℕ
  pub pending : List Write
  pub stopped : Bool
  pub keeps : Bool
  pub budget : ℕ
  pub early : ℕ
  pub chunks : List ChunkPlace
  pub flushing : Bool
  pub index : IndexView

-- the rows appended in all
abbrev pub rows_of : Session → ℕ
rows_of s = s.dataset.shape.rows + s.waits

-- the first row whose cells wait
abbrev pub next_row : Session → ℕ
next_row s = s.dataset.shape.rows + s.early

-- the dataset with so many rows
abbrev pub with_rows : ℕ → Described → Described
with_rows rows d = record d { shape = record (d.shape) { rows = rows } }

-- how its rows are cut into chunks
abbrev pub cutting_of : Session → Cutting
cutting_of s = record {
  chunk_rows = s.dataset.layout.chunk_rows;
  chunk_columns = s.dataset.layout.chunk_cols;
  columns = s.dataset.shape.cols;
  value_size = s.dataset.int_type.size;
}

-- the chunks that the rows need with so many more
abbrev pub chunks_with : Session → ℕ → ℕ
chunks_with s more = needed (with_rows (rows_of s + more) s.dataset)

-- the most lines of keys that a dataset's index can have
abbrev pub most_lines : Described → ℕ
most_lines d = limit_of format_limits d.layout.index / keys_across d

-- the index has room for each chunk that the dataset can have: places are held in it for such chunks alone
abbrev pub IsRoomy : Described → IndexView → Type 0
IsRoomy d v = AreWithin (most_lines d) (keys_across d) v

-- the most chunks of the dataset's index
abbrev pub chunk_limit : Session → ℕ
chunk_limit s = limit_of format_limits s.dataset.layout.index

-- these values are rows of the dataset
abbrev pub AreRows : Session → List ℤ → Type 0
AreRows s values = (n : ℕ) × (length values ≡ n * s.dataset.shape.cols)

-- how many bytes the cells of a row have
abbrev pub row_bytes : Described → ℕ
row_bytes d = d.shape.cols * d.int_type.size

-- chunk 0 of a dataset header in which the rows can be written again
pub record IsWritable (b : List ℕ) : Type 0 where
  pub some : 1 ≤ length b
  pub list : List Msg
  pub space : Msg
  pub read : messages_at b ≡ Ok list
  pub first : find (λ (m : Msg). m.kind == dataspace_kind) list ≡ Some space
  pub long : 12 ≤ length space.body

-- an index address can be written in chunk 0 of a dataset header
pub record HasAddress (b : List ℕ) : Type 0 where
  pub list : List Msg
  pub layout : Msg
  pub read : messages_at b ≡ Ok list
  pub first : find (λ (m : Msg). m.kind == layout_kind) list ≡ Some layout
  pub room : index_address_place layout.body + 8 ≤ length layout.body

-- the dataset's layout names its index
abbrev pub IsNamed : Described → Type 0
IsNamed d = d.layout.address ≢ undefined

-- the index is there: the layout names it, and it is no array that lacks its index block
pub record IsWhole (s : Session) : Type 0 where
  pub named : IsNamed s.dataset
  pub made : has_no_block s.index ≡ false

-- something of it is not: the layout names none, or it is an array that lacks its index block
abbrev pub IsUnmade : Session → Type 0
IsUnmade s = (s.dataset.layout.address ≡ undefined) ⊎ (has_no_block s.index ≡ true)

-- how many bands of rows the chunks of the rows have
abbrev pub bands_of : Session → ℕ
bands_of s = div_up (rows_of s) s.dataset.layout.chunk_rows

-- readers look for each chunk that has an address and that the planned rows need
abbrev pub AreReached : Session → Type 0
AreReached s = (key : Key) → key.i < first_line s.dataset (div_up s.dataset.shape.rows s.dataset.layout.chunk_rows) → address_in s.index key ≢ undefined → IsReached s.index key

-- what holds of every session
pub record IsSession (s : Session) : Type 0 where
  pub some_columns : 1 ≤ s.dataset.shape.cols
  pub cells : length s.waiting ≡ (s.waits - s.early) * row_bytes s.dataset
  pub few : needed (with_rows (rows_of s) s.dataset) ≤ chunk_limit s
  pub version : s.root.version ≡ 3
  pub begun : 48 ≤ s.places.end
  -- the index is sound, of the dataset's kind, and of chunks that stand as the dataset's do
  pub kind : s.dataset.layout.index ≡ kind_of s.index
  pub sound : IsSound s.index
  pub fits : Fits s.dataset s.index
  pub header : IsWritable s.header
  -- where the layout names no index yet its address can be written with the rows
  pub addressed : s.dataset.layout.address ≡ undefined → HasAddress s.header
  pub header_ends : s.place + length s.header ≤ s.places.end
  pub small : s.places.end < 2 ^ 64
  pub limit : s.places.limit ≤ 2 ^ 40
  -- the chunks that rows may still go into stand in the file, and so do the blocks in place, as far as they are there
  pub inside : AreInside s.dataset s.places.end s.index
  pub tops : IsWhole s → RangesEndBy s.places.end (fixed_of s.index)
  pub head : IsNamed s.dataset → has_no_block s.index ≡ true → s.dataset.layout.address + eahd_len ≤ s.places.end
  -- an index that is not there names no chunk, and where it is not nothing was let go at the superblock's place
  pub blank : IsUnmade s → (key : Key) → address_in s.index key ≡ undefined
  pub live : IsUnmade s → IsLive s.places (extent_of the_superblock)
  -- each chunk that the rows written early go into has its place, and no row waits where a flush is pending
  pub early : s.early ≤ s.waits
  pub chunks : length s.chunks ≡ touched s.dataset s.dataset.shape.rows (next_row s)
  pub placed : (k : ℕ) (p : ChunkPlace) → slice_get s.chunks k ≡ Some p → IsEarlyPlace s.dataset (λ key. address_in s.index key) s.dataset.shape.rows k p
  pub ends : (k : ℕ) (p : ChunkPlace) → slice_get s.chunks k ≡ Some p → p.address + chunk_len s.dataset ≤ s.places.end
  pub flushing : s.flushing ≡ true → s.waits ≡ 0
  pub busy : s.flushing ≡ true → s.pending ≢ []
  pub budget_low : 1024 ≤ s.budget
  pub budget_high : s.budget ≤ 2 ^ 30

-- each write ends by a place
abbrev pub AllEndBy : ℕ → List Write → Type 0
AllEndBy end [] = Unit {0}
AllEndBy end (w ∷ ws) = (w.at + length w.piece ≤ end) × AllEndBy end ws

-- pieces that end by a place
pub record ArePieces (end : ℕ) (ws : List Write) : Type 0 where
  pub sized : AllSized ws
  pub within : AllEndBy end ws

-- ---- What calls make of a session

-- with some more values that wait
abbrev pub with_values : Session → List ℤ → Session
with_values s values = record s { waiting = s.waiting ++ cells_of s.dataset values; waits = s.waits + length values / s.dataset.shape.cols }

-- Values are appended, of which some rows may be written early. Nothing else changes.
pub record AddsValues (old : Session) (values : List ℤ) (new : Session) : Type 0 where
  pub session : new ≡ record (with_values old values) { early = new.early; waiting = new.waiting; chunks = new.chunks; places = new.places; pending = new.pending }
  pub limit : new.places.limit ≡ old.places.limit
  pub rises : old.places.end ≤ new.places.end

-- what was retired is free, or where it stays out of use forgotten: neither free nor retired
abbrev pub Freed : Bool → Space → Space → Type 0
Freed true s t = t ≡ record s { retired = [] }
Freed false s t = Commits s t

-- all pieces became visible: those of a flush bring the rows, and free or forget what was retired
abbrev pub Settles : Bool → Session → Session → Type 0
Settles true s t = Freed s.keeps s.places t.places × (t ≡ record s { places = t.places; committed = s.dataset.shape.rows; pending = []; flushing = false })
Settles false s t = t ≡ record s { pending = [] }

-- the session once its oldest piece became visible, with these left
abbrev pub AfterPiece : Session → List Write → Session → Type 0
AfterPiece s [] t = Settles s.flushing s t
AfterPiece s (w ∷ ws) t = t ≡ record s { pending = w ∷ ws }

-- the session once it was stopped: what was pending is dropped
abbrev pub stopped_of : Session → Session
stopped_of s = record s { pending = []; stopped = true; flushing = false }

-- flags without bit 0, open for writing, and bit 2, open for SWMR writing
abbrev pub cleared : ℕ → ℕ
cleared flags = flags - flags % 2 - flags / 4 % 2 * 4

-- the superblock of a closed session
abbrev pub closed_root : Session → Super
closed_root s = record (s.root) { flags = cleared s.root.flags }

-- the session once it was closed: the superblock is pending, and rows that wait will never be written
abbrev pub closed_of : Session → Session
closed_of s = record s {
  root = closed_root s;
  pending = record { at = 0; piece = super_bytes (closed_root s) } ∷ [];
  stopped = true;
}

-- The session after a flush has all rows: none waits, and nothing but the places, the superblock's end, the header, the index, the
-- pieces and an index address that the layout did not name is another. Where rows waited the layout names the index; one that was not
-- named before stands at the address that it has now.
pub record TakesRows (old new : Session) : Type 0 where
  pub name : new.name ≡ old.name
  pub root : new.root ≡ record (old.root) { end = new.root.end }
  pub place : new.place ≡ old.place
  pub dataset : new.dataset ≡ with_index new.dataset.layout.address (with_rows (rows_of old) old.dataset)
  pub address : IsNamed old.dataset → new.dataset.layout.address ≡ old.dataset.layout.address
  pub named : 0 < old.waits → IsNamed new.dataset
  pub made : 0 < old.waits → old.dataset.layout.address ≡ undefined → new.dataset.layout.address ≡ header_place new.index
  pub waiting : new.waiting ≡ []
  pub waits : new.waits ≡ 0
  pub committed : new.committed ≡ old.committed
  pub stopped : new.stopped ≡ old.stopped
  pub keeps : new.keeps ≡ old.keeps
  pub limit : new.places.limit ≡ old.places.limit
  pub rises : old.places.end ≤ new.places.end
  pub budget : new.budget ≡ old.budget
  pub early : new.early ≡ 0
  pub chunks : new.chunks ≡ []
  pub flushing : 0 < old.waits → new.flushing ≡ true
  pub still : old.waits ≡ 0 → new.flushing ≡ old.flushing
