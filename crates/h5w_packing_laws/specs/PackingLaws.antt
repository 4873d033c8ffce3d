-- The laws of a file that is written anew.
use Rattle.std.specs.Prelude.{◌≡◌, ℕ, ◌*◌, ◌/◌, ◌%◌, ◌<◌, ◌≤◌, ◌^◌, List, [], ◌∷◌, ◌++◌, flat_map, get_or, length, slice_get, ℤ}
use Rattle.std.specs.List.{All, AllByRecursion}
use Rattle.h5w_model.specs.Numbers.{undefined}
use Rattle.h5w_model.specs.Images.{At, Holds}
use Rattle.h5w_model.specs.Superblock.{super_bytes}
use Rattle.h5w_model.specs.Datasets.{Described}
use Rattle.h5w_model.specs.Tables.{cell, index_key, needed}
use Rattle.h5w_model.specs.Findings.{AllSummary, AllValid, Used, chunk_bytes, the_superblock}
use Rattle.h5w_model.specs.declared.piece.Write.{Write}
use Rattle.h5w_step_laws.specs.Ranges.{AllAmong, AllSome, block_at}
use Rattle.h5w_step_laws.specs.Spelled.{spelled_header}
use Rattle.h5w_space.specs.Space.{Space}
use Rattle.h5w_cache.specs.declared.moves.Move.{Move}
use Rattle.h5w_step_laws.specs.Moments.{Moment, Represents, all_used}
use Rattle.h5w_array_laws.specs.Among.{AreAmong}
use Rattle.h5w_array_laws.specs.ArrayPlans.{fresh}
use Rattle.h5w_array_laws.specs.ArrayStores.{chunks_in}
use Rattle.h5w_flush_laws.specs.Parts.{block_ranges}
use Rattle.h5w_tree_index_laws.specs.TreeImages.{AreSame}
use Rattle.h5w_index.specs.Views.{IndexView, IsClean, IsSound, StandsOn, address_in, behind_of, fixed_of, header_place, kind_of}
use Rattle.h5w_several_creation_laws.specs.SeveralFiles.{AllNamed}
use Rattle.h5w_packing_laws.specs.Growing.{IsPiece, RangesFrom, own_blocks}
use Rattle.h5w_packing_laws.specs.Packing.{AreInPlace, ArePacked, IsLaidOut, IsPackedSet, IsPacking, PackedSet, behind_ranges, packed_ranges, packed_super, root_bytes, root_range, set_names, tops_of}
use Rattle.h5w_packing_laws.specs.Standing.{IndexOf}

-- The blocks of the plan stand one after another: those that its copies write.
pub record TightPlan (s : Space) (ms : List Move) (copies : List (ℕ × List ℕ)) (t : Space) : Type 0 where
  pub ranges : RangesFrom s.end (fresh ms) t.end
  pub blocks : block_ranges copies ≡ fresh ms

abbrev pub PackedTiles : Type 0
PackedTiles = (d : Described) (block : ℕ) (table : List ℕ) (first : Space) (ms : List Move) (copies : List (ℕ × List ℕ)) (fixed : List Write) (w : IndexView) (t : Space)
    → (x : IsPacking d block table first ms copies fixed w t) → TightPlan x.s ms copies t

-- What is known of the index that is made, whatever the image: it is sound and clean, of the dataset's kind and at the place that the
-- dataset names; each needed chunk has the address that the table has; its ranges are those of the chunks and of the blocks that are
-- planned, none of them more often.
pub record IndexMade (d : Described) (block : ℕ) (table : List ℕ) (ms : List Move) (w : IndexView) : Type 0 where
  pub sound : IsSound w
  pub clean : IsClean w
  pub kind : d.layout.index ≡ kind_of w
  pub place : d.layout.address ≡ header_place w
  pub fixed : fixed_of w ≡ tops_of d.layout.index d.layout.address block
  pub map : (n : ℕ) → n < needed d → address_in w (index_key d n) ≡ get_or table n undefined
  pub behind : AreAmong (behind_of (chunk_bytes d) w) (chunks_in (chunk_bytes d) table ++ fresh ms)

abbrev pub PackedMade : Type 0
PackedMade = (d : Described) (place block top : ℕ) (table : List ℕ) (first : Space) (ms : List Move) (copies : List (ℕ × List ℕ)) (fixed : List Write) (w : IndexView) (t : Space)
    → IsLaidOut d place block top → top ≤ first.end → IsPacking d block table first ms copies fixed w t → IndexMade d block table ms w

-- On an image on which its blocks stand, those in place as they are written, it stands, and it is the dataset's index, where the file does not
-- end before its blocks.
pub record IndexThere (to : List ℕ) (end : ℕ) (d : Described) (w : IndexView) : Type 0 where
  pub stands : StandsOn w to
  pub is : IndexOf to end d w

abbrev pub PackedIndex : Type 0
PackedIndex = (d : Described) (place block top : ℕ) (table : List ℕ) (first : Space) (ms : List Move) (copies : List (ℕ × List ℕ)) (fixed tops : List Write) (w : IndexView) (t : Space) (to : List ℕ) (end : ℕ)
    → IsLaidOut d place block top → top ≤ first.end → (x : IsPacking d block table first ms copies fixed w t) → AreInPlace x.full d.layout.index d.layout.address block fixed tops → Holds to copies → Holds to (own_blocks tops)
    → t.end ≤ end → IndexThere to end d w

-- The blocks in place of a dataset's index are written as pieces, each within its range and none more often; where there is no chunk and no
-- block behind them, all of them are.
pub record TopsWritten (x : PackedSet) : Type 0 where
  pub part : AreAmong (block_ranges (own_blocks x.tops)) (tops_of x.dataset.layout.index x.dataset.layout.address x.block)
  pub pieces : All IsPiece x.tops
  pub whole : behind_ranges x ≡ [] → AllAmong (tops_of x.dataset.layout.index x.dataset.layout.address x.block) (block_ranges (own_blocks x.tops))

-- What all blocks are: their ranges follow one another from the file's first byte to the end, and none is empty.
pub record BlocksWritten (xs : List PackedSet) (end : ℕ) : Type 0 where
  pub from : RangesFrom 0 (packed_ranges xs) end
  pub some : AllSome (packed_ranges xs)
  pub tops : AllByRecursion TopsWritten xs

abbrev pub PackedBlocks : Type 0
PackedBlocks = (xs : List PackedSet) (top end : ℕ) → AllByRecursion IsPackedSet xs → ArePacked xs top end → BlocksWritten xs end

-- The file of one of its datasets: no one writes it, it ends with the last block, and it has these values.
abbrev pub packed_moment : List PackedSet → PackedSet → ℕ → List ℤ → Moment
packed_moment xs x end values = record {
  super = packed_super end;
  place = x.place;
  dataset = x.dataset;
  root = root_range xs ∷ [];
  header = block_at x.place (length (spelled_header x.dataset)) ∷ [];
  fixed = fixed_of x.index;
  behind = behind_of (chunk_bytes x.dataset) x.index;
  table = x.table;
  values = values;
}

-- the cells of all rows, one after another, have these values
abbrev pub AreCells : List ℕ → ℕ → Described → List ℕ → List ℤ → Type 0
AreCells to place d table values =
    (k : ℕ) → k < length values → cell to (record { place = place; dataset = d; table = table }) (k / d.shape.cols) (k % d.shape.cols) ≡ slice_get values k

-- by the name of a dataset the image is its file, whatever its values are
pub record IsPackedOne (to : List ℕ) (xs : List PackedSet) (end : ℕ) (x : PackedSet) : Type 0 where
  pub represents : (values : List ℤ) → length values ≡ x.dataset.shape.rows * x.dataset.shape.cols → AreCells to x.place x.dataset x.table values → Represents to x.name (packed_moment xs x end values)

-- the ranges that a check finds of a dataset, and of all of them
abbrev pub set_used : PackedSet → List Used
set_used x = block_at x.place (length (spelled_header x.dataset)) ∷ (fixed_of x.index ++ behind_of (chunk_bytes x.dataset) x.index)

abbrev pub file_used : List PackedSet → List Used
file_used xs = the_superblock ∷ root_range xs ∷ flat_map set_used xs

-- The image is the file: what it uses is all its ranges, each once, and no finding applies to all its names together; no byte is lost.
pub record IsPackedFile (to : List ℕ) (xs : List PackedSet) (end : ℕ) : Type 0 where
  pub each : AllByRecursion (IsPackedOne to xs end) xs
  pub used : AreSame (packed_ranges xs) (file_used xs)
  pub summary : AllSummary
  pub valid : AllValid to (set_names xs) summary
  pub whole : summary.lost ≡ 0

-- what is written of a dataset stands
pub record SetHolds (to : List ℕ) (x : PackedSet) : Type 0 where
  pub header : At to x.place (spelled_header x.dataset)
  pub copies : Holds to x.copies
  pub tops : Holds to (own_blocks x.tops)

-- So it is where all its blocks stand.
abbrev pub PackedFile : Type 0
PackedFile = (xs : List PackedSet) (top end : ℕ) (to : List ℕ) → AllByRecursion IsPackedSet xs → ArePacked xs top end → AllNamed (set_names xs) → end < 2 ^ 64 → length to ≡ end → AllByRecursion (SetHolds to) xs
    → At to 48 (root_bytes xs) → At to 0 (super_bytes (packed_super end)) → IsPackedFile to xs end
