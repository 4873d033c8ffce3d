-- What a packed file shows, beside the file that it packs, in words of the bytes of both.
use Rattle.std.specs.Prelude.{◌≡◌, ℕ, ◌+◌, ◌<◌, List, length, ℤ, Ok}
use Rattle.std.specs.List.{AllByRecursion}
use Rattle.h5w_model.specs.Numbers.{range}
use Rattle.h5w_model.specs.Superblock.{super_at}
use Rattle.h5w_model.specs.Findings.{AllSummary, AllValid, chunk_bytes}
use Rattle.h5w_model.specs.Relations.{AllPaired}
use Rattle.h5w_model.specs.Tables.{Reading, Reads}
use Rattle.h5w_model.specs.Tiles.{TileFields, Tiled}
use Rattle.h5w_space.specs.declared.Full.{Full}
use Rattle.h5w_packing_laws.specs.Packing.{packed_super}
use Rattle.h5w_packing.specs.Plans.{SameDataset}
use Rattle.h5w_packing.specs.Whole.{AllShow, CopiedChunks}

-- the same dataset, but for the place of its index, with a copy of each chunk that is there
pub record IsCopyOf (img to : List ℕ) (old new : Reading) : Type 0 where
  pub dataset : SameDataset old.dataset new.dataset
  pub chunks : CopiedChunks img to (chunk_bytes old.dataset) old.table new.table

-- the values that a dataset of this name reads as in the one file, it reads as in the other
abbrev pub ReadsAlike : (img to name : List ℕ) → Type 0
ReadsAlike img to name = (rows columns : ℕ) (values : List ℤ) → Reads img name rows columns values → Reads to name rows columns values

-- By each name the new file shows a copy of what the source shows there, and reads as the source. It is valid for all names together, nobody
-- writes it, and no byte of it is lost: these ranges follow one another from its first byte to its last.
pub record ShowsCopies (img : List ℕ) (names : List (List ℕ)) (old : List Reading) (ranges : List TileFields) (to : List ℕ) : Type 0 where
  pub new : List Reading
  pub shows : AllShow to names new
  pub copies : AllPaired (IsCopyOf img to) old new
  pub values : AllByRecursion (ReadsAlike img to) names
  pub super : super_at (range to 0 48) ≡ Ok (packed_super (length to))
  pub summary : AllSummary
  pub valid : AllValid to names summary
  pub whole : summary.lost ≡ 0
  pub tiled : Tiled ranges (length to)

-- the range would end past the limit
pub record EndsPast (limit : ℕ) (full : Full) : Type 0 where
  pub limited : full.limit ≡ limit
  pub past : limit < full.at + full.size
