-- Where all of a packed file stands, and what is written there.
use Rattle.std.specs.Prelude.{◌≡◌, ◌⊎◌, ◌↔◌, IsTrue, Bool, ℕ, ◌+◌, ◌*◌, ◌%◌, ◌<◌, ◌≤◌, ◌^◌, List, [], ◌∷◌, ◌++◌, flat_map, length, map, ◌==◌, if◌then◌else◌}
use Rattle.std.specs.List.{AllByRecursion}
use Rattle.h5w_model.specs.Numbers.{undefined}
use Rattle.h5w_model.specs.Arrays.{eahd_len, eaib_len}
use Rattle.h5w_model.specs.Trees.{bthd_len}
use Rattle.h5w_model.specs.Datasets.{Described}
use Rattle.h5w_model.specs.Images.{pieces}
use Rattle.h5w_model.specs.Messages.{fill_bytes, index_bytes, int_type_bytes, layout_width, shape_bytes}
use Rattle.h5w_model.specs.Superblock.{super_bytes}
use Rattle.h5w_model.specs.Tables.{bands, index_key, keys_across, needed}
use Rattle.h5w_model.specs.Tiles.{TileFields}
use Rattle.h5w_model.specs.declared.cell.IndexKind.{IndexKind}
use Rattle.h5w_model.specs.declared.cell.IndexKind.TheVariants.{Array, Tree}
use Rattle.h5w_model.specs.declared.piece.Write.{Write}
use Rattle.h5w_space.specs.Space.{Space}
use Rattle.h5w_space.specs.declared.Full.{Full}
use Rattle.h5w_cache.specs.declared.moves.Move.{Move}
use Rattle.h5w_model.specs.Findings.{chunk_bytes}
use Rattle.h5w_step_laws.specs.Spelled.{spelled_header}
use Rattle.h5w_flush_laws.specs.Parts.{block_writes}
use Rattle.h5w_index.specs.Depths.{AreWithin}
use Rattle.h5w_index.specs.Views.{IndexView, IsClean, IsSound, TakesKey, kind_of}
use Rattle.h5w_index.specs.Steps.{HasNoPlace, IsPlan}
use Rattle.h5w_creation.specs.Made.{IsNewIndex}
use Rattle.h5w_creation_laws.specs.CreatedFiles.{index_len}
use Rattle.h5w_several_creation_laws.specs.Links.{linking_header_len}
use Rattle.h5w_chunks.specs.Grids.{dataset_of}
use Rattle.h5w_packing_laws.specs.Growing.{AreNamed, named_from}
use Rattle.h5w_packing_laws.specs.Packing.{ArePacked, BehindsFrom, FrontsFrom, IsLaidOut, IsPackedSet, PackedSet, packed_super, root_bytes}
use Rattle.h5w_packing.specs.Jobs.{PackingView, all_jobs}
use Rattle.h5w_packing.specs.declared.job.Copied.{Copied}
use Rattle.h5w_packing.specs.declared.source.Source.{Source}

-- the same dataset, whose index stands elsewhere
pub record SameDataset (d e : Described) : Type 0 where
  pub shape : e.shape ≡ d.shape
  pub int_type : e.int_type ≡ d.int_type
  pub fill : e.fill ≡ d.fill
  pub layout : e.layout ≡ record (d.layout) { address = e.layout.address; place = e.layout.place }

-- ---- The chunks, one behind the other, in the order of a table

-- their new places, by their numbers
abbrev pub packed_table : ℕ → ℕ → List ℕ → List ℕ
packed_table bytes at [] = []
packed_table bytes at (a ∷ rest) = if a == undefined then undefined ∷ packed_table bytes at rest else at ∷ packed_table bytes (at + bytes) rest

-- each of those that are there, with its old place and its new one
abbrev pub copied_from : ℕ → ℕ → List ℕ → List Copied
copied_from bytes at [] = []
copied_from bytes at (a ∷ rest) = if a == undefined then copied_from bytes at rest else record { from = a; to = at; len = bytes } ∷ copied_from bytes (at + bytes) rest

-- where they end
abbrev pub chunks_end : ℕ → ℕ → List ℕ → ℕ
chunks_end bytes at [] = at
chunks_end bytes at (a ∷ rest) = if a == undefined then chunks_end bytes at rest else chunks_end bytes (at + bytes) rest

-- ---- The ranges

abbrev pub tile : ℕ → ℕ → ℕ → TileFields
tile at n k = record { place = at; len = n; kind = k }

-- those of an index's blocks in place
abbrev pub index_tiles : IndexKind → ℕ → ℕ → List TileFields
index_tiles Array at block = tile at eahd_len 3 ∷ tile block eaib_len 4 ∷ []
index_tiles Tree at block = tile at bthd_len 3 ∷ []

-- those of superblock and root header, which has so many bytes
abbrev pub head_tiles : ℕ → List TileFields
head_tiles root = tile 0 48 0 ∷ tile 48 root 1 ∷ []

-- those of a dataset header of so many bytes, and of the index's blocks in place
abbrev pub front_tiles : ℕ → Described → ℕ → ℕ → List TileFields
front_tiles header d place block = tile place header 2 ∷ index_tiles d.layout.index d.layout.address block

abbrev pub chunk_tiles : List Copied → List TileFields
chunk_tiles [] = []
chunk_tiles (c ∷ cs) = tile c.to c.len 8 ∷ chunk_tiles cs

-- a block of an array is a secondary block or a data block, by its number; one of a tree is a node
abbrev pub block_kind : IndexKind → ℕ → ℕ
block_kind Array number = if number % 65 == 64 then 5 else 6
block_kind Tree number = 7

abbrev pub move_tiles : IndexKind → List Move → List TileFields
move_tiles kind [] = []
move_tiles kind (m ∷ ms) = if m.in_place then move_tiles kind ms else tile m.new m.len (block_kind kind m.number) ∷ move_tiles kind ms

-- the places before the first chunk's
abbrev pub first_space : ℕ → ℕ → Space
first_space first limit = record { end = first; limit = limit; free = []; retired = []; spare = 0 }

-- ---- A dataset

-- what is wanted in the new file: a dataset of the source, by its name there, with the addresses of its chunks by their numbers
pub record Wanted : Type 0 where
  pub name : List ℕ
  pub dataset : Described
  pub table : List ℕ

abbrev pub wanted_of : Source → Wanted
wanted_of s = record { name = s.name; dataset = dataset_of s.grid; table = s.table.items }

abbrev pub wanted_names : List Wanted → List (List ℕ)
wanted_names ws = map (λ (w : Wanted). w.name) ws

-- how many bytes its header has, whatever the address in it is, and with it the index's blocks in place
abbrev pub header_size : Described → ℕ
header_size d =
    27 + (length (shape_bytes d.shape) + (length (int_type_bytes d.int_type) + (length (fill_bytes d.fill)
    + (5 + (d.shape.rank + 1) * layout_width d.layout.chunk_rows d.layout.chunk_cols d.int_type.size + length (index_bytes d.layout.index) + 8))))

abbrev pub front_size : Described → ℕ
front_size d = header_size d + index_len d.layout.index

abbrev pub fronts_size : List Wanted → ℕ
fronts_size [] = 0
fronts_size (w ∷ ws) = front_size w.dataset + fronts_size ws

-- where the first dataset header stands, and where all blocks in place end
abbrev pub first_place : List Wanted → ℕ
first_place ws = 48 + linking_header_len (wanted_names ws)

abbrev pub fronts_end : List Wanted → ℕ
fronts_end ws = first_place ws + fronts_size ws

-- A dataset with all that is planned of it.
pub record PlannedSet : Type 0 where
  pub source : Wanted
  pub set : PackedSet

abbrev pub sets_of : List PlannedSet → List PackedSet
sets_of xs = map (λ (x : PlannedSet). x.set) xs

abbrev pub sources_of : List PlannedSet → List Wanted
sources_of xs = map (λ (x : PlannedSet). x.source) xs

-- It is the source's dataset under its name, its chunks stand in the order of their numbers, and all of it ends by the limit.
pub record IsPlannedSet (limit : ℕ) (x : PlannedSet) : Type 0 where
  pub named : x.set.name ≡ x.source.name
  pub same : SameDataset x.source.dataset x.set.dataset
  pub packed : IsPackedSet x.set
  pub first : x.set.first ≡ first_space x.set.first.end limit
  pub table : x.set.table ≡ packed_table (chunk_bytes x.source.dataset) x.set.first.end x.source.table
  -- where its chunks end
  pub placed : packed.packing.s.end ≡ chunks_end (chunk_bytes x.source.dataset) x.set.first.end x.source.table
  pub within : x.set.last.end ≤ limit

-- its chunks, from their old places to the new ones
abbrev pub set_chunks : PlannedSet → List Copied
set_chunks x = copied_from (chunk_bytes x.source.dataset) x.set.first.end x.source.table

-- the ranges of its header and its index's blocks in place, and those of its chunks and of the other blocks
abbrev pub set_front_tiles : PlannedSet → List TileFields
set_front_tiles x = front_tiles (length (spelled_header x.set.dataset)) x.set.dataset x.set.place x.set.block

abbrev pub set_tiles : PlannedSet → List TileFields
set_tiles x = chunk_tiles (set_chunks x) ++ move_tiles x.set.dataset.layout.index x.set.moves

-- ---- The whole file

-- the dataset header, as it is written
abbrev pub header_write : PlannedSet → Write
header_write x = record { at = x.set.place; piece = spelled_header x.set.dataset }

-- the dataset headers, the root header, and last the superblock
abbrev pub head_writes : List PlannedSet → ℕ → List Write
head_writes xs end = map header_write xs ++ (pieces 48 (root_bytes (sets_of xs)) ++ record { at = 0; piece = super_bytes (packed_super end) } ∷ [])

-- all that is written behind the chunks: the blocks of each index at new places, those in place, and the headers
abbrev pub planned_writes : List PlannedSet → ℕ → List Write
planned_writes xs end =
    flat_map (λ (x : PlannedSet). block_writes x.set.copies) xs ++ (flat_map (λ (x : PlannedSet). x.set.tops) xs ++ head_writes xs end)

-- All of the plan for these datasets.
pub record IsPlanned (ws : List Wanted) (limit : ℕ) (p : PackingView) : Type 0 where
  pub sets : List PlannedSet
  pub are : sources_of sets ≡ ws
  pub each : AllByRecursion (IsPlannedSet limit) sets
  pub end : ℕ
  pub packed : ArePacked (sets_of sets) (fronts_end ws) end
  -- all that is copied and written
  pub jobs : p.left ≡ all_jobs (flat_map set_chunks sets) (planned_writes sets end)
  pub ranges : p.ranges ≡ head_tiles (linking_header_len (wanted_names ws)) ++ (flat_map set_front_tiles sets ++ flat_map set_tiles sets)
  pub ends : p.end ≡ end
  pub within : end ≤ limit
  pub small : limit ≤ 2 ^ 40

-- ---- Why there is no plan

-- The next place of so many bytes would end past the limit.
pub record IsNextOut (bytes : ℕ) (s : Space) (full : Full) : Type 0 where
  pub is : full ≡ record { at = s.end; size = bytes; limit = s.limit }
  pub out : s.limit < s.end + bytes

-- Behind some chunks that have their places the next has none: it would end past the limit.
pub record IsChunkOut (bytes at limit : ℕ) (table : List ℕ) (full : Full) : Type 0 where
  pub before : ℕ
  pub inside : before < length (copied_from bytes at table)
  pub is : full ≡ record { at = at + before * bytes; size = bytes; limit = limit }
  pub out : limit < full.at + full.size

-- All chunks have their places, and the first block of the index in turn has none.
pub record IsBlockOut (d : Described) (block at limit : ℕ) (table : List ℕ) (full : Full) : Type 0 where
  pub new : IndexView
  pub made : IsNewIndex d.layout.index d.layout.address block new
  pub named : IndexView
  pub names : AreNamed new (named_from d 0 (packed_table (chunk_bytes d) at table)) named
  pub refused : HasNoPlace named (first_space (chunks_end (chunk_bytes d) at table) limit) full

-- A dataset whose header stands at a place, and whose first chunk would stand at another: the first of its ranges behind the blocks in place
-- that would end past the limit.
pub record IsSetOut (w : Wanted) (limit place at : ℕ) (full : Full) : Type 0 where
  pub dataset : Described
  pub block : ℕ
  pub top : ℕ
  pub same : SameDataset w.dataset dataset
  pub laid : IsLaidOut dataset place block top
  pub which : IsChunkOut (chunk_bytes w.dataset) at limit w.table full ⊎ IsBlockOut dataset block at limit w.table full

-- The first range by its place that would end past the limit, of a file of these datasets: those before it have their places.
pub record IsOut (ws : List Wanted) (limit : ℕ) (full : Full) : Type 0 where
  pub before : List PlannedSet
  pub next : Wanted
  pub behind : List Wanted
  pub are : sources_of before ++ next ∷ behind ≡ ws
  pub each : AllByRecursion (IsPlannedSet limit) before
  pub place : ℕ
  pub at : ℕ
  pub fronts : FrontsFrom (first_place ws) (sets_of before) place
  pub behinds : BehindsFrom (fronts_end ws) (sets_of before) at
  pub out : IsSetOut next limit place at full

-- how many lines of keys the needed chunks have
abbrev pub key_lines : Described → ℕ
key_lines d = elim d.layout.index [ Array ↦ needed d | Tree ↦ bands d ]

-- It is of the dataset's kind, and has no chunk but needed ones.
pub record IsOfKind (d : Described) (v : IndexView) : Type 0 where
  pub kind : d.layout.index ≡ kind_of v
  pub within : AreWithin (key_lines d) (keys_across d) v

-- it can have each needed chunk
abbrev pub TakesAll : Described → IndexView → Type 0
TakesAll d v = (n : ℕ) → n < needed d → TakesKey v (index_key d n)

-- ---- The places of an index's chunks and blocks

-- The chunks of an index without chunks have their places from an end on, the index names them, and its blocks are planned behind them.
pub record IsSettled (d : Described) (table : List ℕ) (s : Space) (u : IndexView) (cs : List Copied) (ms : List Move) (copies fixed : List Write) (clean : Bool) (w : IndexView) (t : Space) : Type 0 where
  pub full : IndexView
  pub sound : IsSound full
  pub named : AreNamed u (named_from d 0 (packed_table (chunk_bytes d) s.end table)) full
  pub between : Space
  pub is : between ≡ record s { end = chunks_end (chunk_bytes d) s.end table }
  pub low : between.end ≤ s.limit
  pub plan : IsPlan full between ms copies fixed w t
  pub when_clean : IsTrue clean ↔ IsClean full
  pub chunks : cs ≡ copied_from (chunk_bytes d) s.end table

-- A chunk has no place, or all have theirs and a block of the index has none.
pub record IsUnplacedBlock (d : Described) (table : List ℕ) (s : Space) (u : IndexView) (full : Full) : Type 0 where
  pub named : IndexView
  pub names : AreNamed u (named_from d 0 (packed_table (chunk_bytes d) s.end table)) named
  pub between : Space
  pub is : between ≡ record s { end = chunks_end (chunk_bytes d) s.end table }
  pub refused : HasNoPlace named between full

abbrev pub IsUnsettled : Described → List ℕ → Space → IndexView → Full → Type 0
IsUnsettled d table s u full = IsChunkOut (chunk_bytes d) s.end s.limit table full ⊎ IsUnplacedBlock d table s u full
