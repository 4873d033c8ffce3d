-- Ranges of an image that follow one another without a gap, from 0 to its end.
use Rattle.std.specs.Prelude.{◌≡◌, ℕ, List, length, map, flat_map, sum_by, ◌==◌}
use Rattle.std.specs.List.{AllByRecursion}
use Rattle.h5w_model.specs.Numbers.{range}
use Rattle.h5w_model.specs.Images.{Holds}
use Rattle.h5w_model.specs.Findings.{Used}
use Rattle.h5w_model.specs.Relations.{AllPaired}
use Rattle.h5w_model.specs.Tiles.{TileFields, Tiled}
use Rattle.h5w_laws.specs.Ranges.{EndsBy, AllApart}

-- the range as a check tells it, where this kind is that of chunks
abbrev pub used_of : ℕ → TileFields → Used
used_of chunks t = record { place = t.place; len = t.len; chunk = t.kind == chunks }

-- a tile is that of a block, a place and its bytes
abbrev pub IsTileOf : TileFields → ℕ × List ℕ → Type 0
IsTileOf t block = (t.place ≡ block.0) × (t.len ≡ length block.1)

-- The tiles of an image are all of it, and so are the blocks that stand there. Their lengths add up to its end. They do not meet,
-- and end by it.
pub record TileLaws : Type 0 where
  pub image : (img : List ℕ) (ts : List TileFields) → Tiled ts (length img) → img ≡ flat_map (λ (t : TileFields). range img t.place t.len) ts
  pub blocks : (img : List ℕ) (ts : List TileFields) (blocks : List (ℕ × List ℕ)) → Tiled ts (length img) → AllPaired IsTileOf ts blocks → Holds img blocks
      → img ≡ flat_map (λ (b : ℕ × List ℕ). b.1) blocks
  pub sum : (end : ℕ) (ts : List TileFields) → Tiled ts end → sum_by (λ (t : TileFields). t.len) ts ≡ end
  pub apart : (chunks end : ℕ) (ts : List TileFields) → Tiled ts end → AllApart (map (used_of chunks) ts)
  pub within : (chunks end : ℕ) (ts : List TileFields) → Tiled ts end → AllByRecursion (EndsBy end) (map (used_of chunks) ts)
