-- Ranges of a file that follow one another without a gap.
use Rattle.std.specs.Prelude.{◌≡◌, ℕ, ◌+◌, List, [], ◌∷◌}

-- a range of a file, and the kind of block that it is, by a number
pub record TileFields : Type 0 where
  pub place : ℕ
  pub len : ℕ
  pub kind : ℕ

-- The first begins at a place, each next one where the one before ends, and the last ends at the end. Where there is none, the
-- place is the end.
abbrev pub TiledFrom : ℕ → List TileFields → ℕ → Type 0
TiledFrom from [] end = from ≡ end
TiledFrom from (t ∷ ts) end = (t.place ≡ from) × TiledFrom (from + t.len) ts end

-- they cover all from 0 to the end
abbrev pub Tiled : List TileFields → ℕ → Type 0
Tiled ts end = TiledFrom 0 ts end
