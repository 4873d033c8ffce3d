-- The datasets of a file that is written anew from nothing, with their indexes, and where their blocks stand.
use Rattle.std.specs.Prelude.{◌≡◌, ℕ, ◌+◌, ◌≤◌, List, [], ◌∷◌, ◌++◌, flat_map, length, map}
use Rattle.std.specs.List.{AllByRecursion}
use Rattle.h5w_model.specs.Arrays.{eahd_len, eaib_len}
use Rattle.h5w_model.specs.Trees.{bthd_len}
use Rattle.h5w_model.specs.Headers.{header_bytes}
use Rattle.h5w_model.specs.Datasets.{Described}
use Rattle.h5w_model.specs.Tables.{format_limits, limit_of, needed}
use Rattle.h5w_model.specs.Findings.{Used, chunk_bytes, the_superblock}
use Rattle.h5w_model.specs.declared.cell.IndexKind.{IndexKind}
use Rattle.h5w_model.specs.declared.cell.IndexKind.TheVariants.{Array, Tree}
use Rattle.h5w_model.specs.declared.piece.Write.{Write}
use Rattle.h5w_model.specs.declared.root.Super.{Super}
use Rattle.h5w_step_laws.specs.Ranges.{block_at}
use Rattle.h5w_step_laws.specs.Spelled.{IsSpellable, spelled_header}
use Rattle.h5w_space.specs.Space.{Space}
use Rattle.h5w_cache.specs.declared.moves.Move.{Move}
use Rattle.h5w_array_laws.specs.ArrayPlans.{fresh}
use Rattle.h5w_array_laws.specs.ArrayStores.{chunks_in}
use Rattle.h5w_flush_laws.specs.Parts.{block_writes}
use Rattle.h5w_index.specs.Views.{IndexView, IsClean, IsSound}
use Rattle.h5w_index.specs.Steps.{IsPlan}
use Rattle.h5w_index.specs.Flushes.{AreCopies}
use Rattle.h5w_creation_laws.specs.CreatedFiles.{index_len}
use Rattle.h5w_several_creation_laws.specs.Links.{linking, linking_header_len}
use Rattle.h5w_creation.specs.Made.{IsNewIndex, index_writes}
use Rattle.h5w_packing_laws.specs.Growing.{AreNamed, IsTight, RangesFrom, named_from}

-- The index of a dataset whose chunks have these addresses, made anew, with the places of all its blocks: they began where the blocks in
-- place end, the chunks' come first, then those of the blocks that are planned.
pub record IsPacking (d : Described) (block : ℕ) (table : List ℕ) (first : Space) (ms : List Move) (copies : List (ℕ × List ℕ)) (fixed : List Write) (w : IndexView) (t : Space) : Type 0 where
  pub listed : length table ≡ needed d
  pub new : IndexView
  pub made : IsNewIndex d.layout.index d.layout.address block new
  pub sound : IsSound new
  pub full : IndexView
  pub named : AreNamed new (named_from d 0 table) full
  pub tight : IsTight first
  pub s : Space
  pub chunks : RangesFrom first.end (chunks_in (chunk_bytes d) table) s.end
  pub none_free : IsTight s
  pub plan : IsPlan full s ms (block_writes copies) fixed w t
  pub copied : AreCopies full ms copies

-- The blocks in place, as they are written: where nothing changed they are those of a new index, else those of the plan.
pub record AreInPlace (full : IndexView) (kind : IndexKind) (at block : ℕ) (fixed ws : List Write) : Type 0 where
  pub clean : IsClean full → ws ≡ index_writes kind at block
  pub changed : (IsClean full → ⊥) → ws ≡ fixed

-- Where the blocks in place of a dataset of such a file stand: its header, the header of its index, whose address is in it, and an array's
-- index block; and where they end.
pub record IsLaidOut (d : Described) (place index_block top : ℕ) : Type 0 where
  pub spellable : IsSpellable d
  pub behind : 48 ≤ place
  pub index : d.layout.address ≡ place + length (spelled_header d)
  pub block : index_block ≡ d.layout.address + eahd_len
  pub end : top ≡ d.layout.address + index_len d.layout.index
  pub small : top ≤ 8192
  pub few : needed d ≤ limit_of format_limits d.layout.index

-- ---- A dataset

-- the ranges of an index's blocks in place
abbrev pub tops_of : IndexKind → ℕ → ℕ → List Used
tops_of Array at block = block_at at eahd_len ∷ block_at block eaib_len ∷ []
tops_of Tree at block = block_at at bthd_len ∷ []

-- A dataset of such a file, with all that is planned of it: its name; what its header says; where the header and an array's index block
-- stand, and where its blocks in place end; the chunks' addresses by their numbers; the plan of its index, and the places before its first
-- chunk and behind its last block.
pub record PackedSet : Type 0 where
  pub name : List ℕ
  pub dataset : Described
  pub place : ℕ
  pub block : ℕ
  pub top : ℕ
  pub table : List ℕ
  pub first : Space
  pub moves : List Move
  pub copies : List (ℕ × List ℕ)
  pub fixed : List Write
  pub tops : List Write
  pub index : IndexView
  pub last : Space

-- All is as it is planned: its chunks stand behind all blocks in place.
pub record IsPackedSet (x : PackedSet) : Type 0 where
  pub laid : IsLaidOut x.dataset x.place x.block x.top
  pub above : x.top ≤ x.first.end
  pub packing : IsPacking x.dataset x.block x.table x.first x.moves x.copies x.fixed x.index x.last
  pub which : AreInPlace packing.full x.dataset.layout.index x.dataset.layout.address x.block x.fixed x.tops

-- the ranges of its header and of its index's blocks in place
abbrev pub front_ranges : PackedSet → List Used
front_ranges x = block_at x.place (length (spelled_header x.dataset)) ∷ tops_of x.dataset.layout.index x.dataset.layout.address x.block

-- those of its chunks, and then of the other blocks of its index
abbrev pub behind_ranges : PackedSet → List Used
behind_ranges x = chunks_in (chunk_bytes x.dataset) x.table ++ fresh x.moves

-- ---- The whole file

-- datasets stand one after another, by their blocks in place
abbrev pub FrontsFrom : ℕ → List PackedSet → ℕ → Type 0
FrontsFrom at [] top = at ≡ top
FrontsFrom at (x ∷ xs) top = (x.place ≡ at) × FrontsFrom x.top xs top

-- and by their chunks and other blocks
abbrev pub BehindsFrom : ℕ → List PackedSet → ℕ → Type 0
BehindsFrom at [] end = at ≡ end
BehindsFrom at (x ∷ xs) end = (x.first.end ≡ at) × BehindsFrom x.last.end xs end

abbrev pub set_names : List PackedSet → List (List ℕ)
set_names xs = map (λ (x : PackedSet). x.name) xs

abbrev pub set_links : List PackedSet → List (List ℕ × ℕ)
set_links xs = map (λ (x : PackedSet). (x.name, x.place)) xs

-- 1 to 8 datasets: behind the root header all blocks in place stand, and behind these all chunks and other blocks
pub record ArePacked (xs : List PackedSet) (top end : ℕ) : Type 0 where
  pub some : 1 ≤ length xs
  pub few : length xs ≤ 8
  pub named : AllByRecursion (λ (x : PackedSet). length x.name ≤ 255) xs
  pub fronts : FrontsFrom (48 + linking_header_len (set_names xs)) xs top
  pub behinds : BehindsFrom top xs end

-- nobody writes the file
abbrev pub packed_super : ℕ → Super
packed_super end = record { version = 3; flags = 0; end = end; root = 48 }

abbrev pub root_bytes : List PackedSet → List ℕ
root_bytes xs = header_bytes (linking (set_links xs))

abbrev pub root_range : List PackedSet → Used
root_range xs = block_at 48 (linking_header_len (set_names xs))

-- the dataset header
abbrev pub header_block : PackedSet → ℕ × List ℕ
header_block x = (x.place, spelled_header x.dataset)

-- all its ranges: superblock, root header, the headers and blocks in place of all datasets, and then the chunks and other blocks of each
abbrev pub packed_ranges : List PackedSet → List Used
packed_ranges xs = the_superblock ∷ root_range xs ∷ (flat_map front_ranges xs ++ flat_map behind_ranges xs)
