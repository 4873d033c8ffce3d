-- The ranges of a file that is opened, and the first of them that is refused.
use Rattle.std.specs.Prelude.{ℕ, zero, suc, ◌+◌, ◌-◌, ◌/◌, ◌^◌, ◌<◌, ◌≤◌, List, [], ◌∷◌, ◌++◌, take, find, nat_lt, Option, Some, None, option_map, Result, Ok, Err, Bool, ◌==◌, if◌then◌else◌}
use Rattle.std.specs.Option.{option_or}
use Rattle.h5w_model.specs.Arrays.{eahd_len}
use Rattle.h5w_model.specs.Trees.{bthd_len}
use Rattle.h5w_model.specs.declared.cell.Key.{Key}
use Rattle.h5w_model.specs.Datasets.{Described}
use Rattle.h5w_model.specs.Tables.{format_limits, limit_of, needed}
use Rattle.h5w_model.specs.Findings.{chunk_bytes}
use Rattle.h5w_model.specs.declared.cell.IndexKind.{IndexKind}
use Rattle.h5w_model.specs.declared.cell.IndexKind.TheVariants.{Array, Tree}
use Rattle.h5w_model.specs.declared.refusal.BlockFault.TheVariants.{Cut}
use Rattle.h5w_model.specs.declared.refusal.ReadError.TheVariants.{Damaged}
use Rattle.h5w_space.specs.Space.{extent}
use Rattle.h5w_space.specs.declared.Extent.{Extent}
use Rattle.h5w_cache.specs.Stores.{Store}
use Rattle.h5w_chunks.specs.Shares.{first_line}
use Rattle.h5w_array_laws.specs.ArrayStores.{map_of}
use Rattle.h5w_ea_index.specs.Ranges.{block_ranges}
use Rattle.h5w_bt.specs.declared.records.Record.{Record}
use Rattle.h5w_bt_index.specs.Index.{records}
use Rattle.h5w_bt_open.specs.Needed.{ranges_from}
use Rattle.h5w_index.specs.Views.{IndexView, an_array, a_tree}
use Rattle.h5w_opening.specs.Openings.{Opened, refused_dataset}
use Rattle.h5w_opening.specs.declared.error.OpenError.{OpenError}
use Rattle.h5w_opening.specs.declared.error.OpenError.TheVariants.{Read, Finding}
use Rattle.h5w_writer_open.specs.declared.index.NoIndex.{NoIndex}
use Rattle.h5w_writer_open.specs.declared.index.NoIndex.TheVariants.{Unnamed, Empty, WrongTotals, Unordered}
use Rattle.h5w_model.specs.Numbers.{undefined}
use Rattle.h5w_space.specs.Ranges.{range_at}

-- its rows need no more chunks than are read
abbrev pub HasFewChunks : Described → Type 0
HasFewChunks d = needed d ≤ limit_of format_limits d.layout.index

-- the band of the last committed row, 0 where there is none
abbrev pub first_open : Described → ℕ
first_open d = (d.shape.rows - 1) / d.layout.chunk_rows

-- the first line of keys of this band
abbrev pub first_open_line : Described → ℕ
first_open_line d = first_line d (first_open d)

-- the first key of this band
abbrev pub first_key : Described → Key
first_key d = record { i = first_open_line d; j = 0 }

-- ---- The ranges, in the order in which they are tried

-- those of so many chunks of an array from a number on, each of so many bytes, where it has an address
abbrev pub chunks_from : Store → ℕ → ℕ → ℕ → List Extent
chunks_from v len i zero = []
chunks_from v len i (suc n) = range_at (map_of v i) len ++ chunks_from v len (i + 1) n

-- those of a tree's chunks of a line of keys and later, by rising key
abbrev pub chunks_behind : ℕ → ℕ → List Record → List Extent
chunks_behind len line [] = []
chunks_behind len line (r ∷ rs) = (if nat_lt r.key.i line then [] else range_at r.address len) ++ chunks_behind len line rs

-- the chunks of the last committed band and later
abbrev pub chunks_in : Described → IndexView → List Extent
chunks_in d (an_array v) = chunks_from v (chunk_bytes d) (first_open_line d) (format_limits.array - first_open_line d)
chunks_in d (a_tree place v) = chunks_behind (chunk_bytes d) (first_open_line d) (records v)

abbrev pub open_chunks : Described → Result IndexView NoIndex → List Extent
open_chunks d (Ok v) = chunks_in d v
open_chunks d (Err why) = []

-- how many bytes the header of an index has
abbrev pub header_len : IndexKind → ℕ
header_len Array = eahd_len
header_len Tree = bthd_len

-- the header of an index of which nothing more is there, or to which no rows are appended; of a file whose layout names no index, the superblock
abbrev pub header_alone : IndexKind → ℕ → List Extent
header_alone kind address = if address == undefined then extent 0 48 ∷ [] else extent address (header_len kind) ∷ []

-- the index's blocks on the way to a chunk of the last committed band or later, in the order of the looks, each of so many bytes as were
-- looked at; a tree's behind the superblock, since its header is shorter than that
abbrev pub blocks_in : Described → IndexView → List Extent
blocks_in d (an_array v) = block_ranges (first_open_line d) v
blocks_in d (a_tree place v) = extent 0 48 ∷ extent place bthd_len ∷ ranges_from (first_key d) v

abbrev pub open_blocks : Described → Result IndexView NoIndex → List Extent
open_blocks d (Ok v) = blocks_in d v
open_blocks d (Err why) = header_alone d.layout.index d.layout.address

-- chunk 0 of the dataset header
abbrev pub chunk_0_range : Opened → Extent
chunk_0_range o = extent o.place o.header.len

-- ---- Refusals

-- the first range that ends behind a place
abbrev pub first_past : ℕ → List Extent → Option Extent
first_past end rs = find (λ r. nat_lt end (r.at + r.size)) rs

-- a range is cut at an end
abbrev pub cut_at : ℕ → Extent → OpenError
cut_at end r = Read (Damaged r.at (Cut r.size (end - r.at)))

-- The first of chunk 0 and the blocks in place (an array's header and its index block, or the superblock and a tree's header), and then of
-- the chunks, that ends at 2^64 or later: nothing of it is there. Else the first of all ranges that ends behind the end-of-file address.
abbrev pub refused_ranges : ℕ → List Extent → List Extent → Option OpenError
refused_ranges end blocks chunks =
    option_or (option_map (cut_at 0) (first_past (2 ^ 64 - 1) (take 3 blocks ++ chunks))) (option_map (cut_at end) (first_past end (blocks ++ chunks)))

-- of what was found
abbrev pub ranges_refused : Opened → Result IndexView NoIndex → Option OpenError
ranges_refused o a = refused_ranges o.root.end (chunk_0_range o ∷ open_blocks o.header.dataset a) (open_chunks o.header.dataset a)

-- the layout does not name the index yet: the first flush makes it
abbrev pub is_starting : Described → Bool
is_starting d = d.layout.address == undefined

-- Why there is no index to which rows are appended, where none will be made. What a check finds of a tree is told by the place of its header.
abbrev pub refused_index : Described → Result IndexView NoIndex → Option OpenError
refused_index d (Ok v) = None
refused_index d (Err Unnamed) = None
refused_index d (Err Empty) = None
refused_index d (Err WrongTotals) = Some (Finding 15 d.layout.address)
refused_index d (Err Unordered) = Some (Finding 16 d.layout.address)

-- the header of an array that names no index block ends before 2^64
abbrev pub IsNear : Described → Result IndexView NoIndex → Type 0
IsNear d (Err Empty) = d.layout.address + eahd_len < 2 ^ 64
IsNear d a = Unit {0}

-- why rows are not appended to a file with this index: tried once the index was read
abbrev pub refused_open : Opened → Result IndexView NoIndex → Option OpenError
refused_open o a = option_or (ranges_refused o a) (option_or (refused_dataset o) (refused_index o.header.dataset a))
