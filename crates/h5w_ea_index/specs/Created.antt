-- The store of a new array while it is made.
use Rattle.std.specs.Prelude.{◌≡◌, ◌≢◌, ℕ, ◌+◌, List, [], ◌∷◌, length, Some, None}
use Rattle.h5w_model.specs.Numbers.{undefined}
use Rattle.h5w_cache.specs.Blocks.{BlockView}
use Rattle.h5w_cache.specs.Stores.{Store, block_of, place_of}
use Rattle.h5w_cache.specs.declared.block.Link.{Link}

-- links to these numbers, whose addresses stand from a place on
abbrev pub links_to : ℕ → List ℕ → List Link
links_to place [] = []
links_to place (n ∷ ns) = record { offset = place; child = n } ∷ links_to (place + 8) ns

-- there is room for so many numbers, nothing is kept, and nothing is changed
pub record IsBare (numbers : ℕ) (v : Store) : Type 0 where
  pub count : length v.blocks ≡ numbers
  pub each_place : length v.places ≡ numbers
  pub none : (n : ℕ) → block_of v n ≡ None
  pub unplaced : (n : ℕ) → place_of v n ≡ undefined
  pub changed : v.changed ≡ []

-- a block is kept under a number at a place, clean, and each other number is as it was
pub record Keeps (n : ℕ) (b : BlockView) (p : ℕ) (v w : Store) : Type 0 where
  pub count : length w.blocks ≡ length v.blocks
  pub each_place : length w.places ≡ length v.places
  pub here : block_of w n ≡ Some b
  pub place : place_of w n ≡ p
  pub others : (m : ℕ) → m ≢ n → (block_of w m ≡ block_of v m) × (place_of w m ≡ place_of v m)
  pub changed : w.changed ≡ v.changed
