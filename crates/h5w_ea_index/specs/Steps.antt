-- What a change of an array's store leaves.
use Rattle.std.specs.Prelude.{◌≡◌, ◌⊎◌, ℕ, ◌==◌, true, List, ◌∷◌, if◌then◌else◌, Option, Some, None}
use Rattle.h5w_model.specs.Numbers.{undefined}
use Rattle.h5w_space.specs.Space.{Space}
use Rattle.h5w_cache.specs.Stores.{Store, block_of, place_of, is_changed}
use Rattle.h5w_array_laws.specs.Parts.{Part, index_block, header, holder, number_of, parent}
use Rattle.h5w_cache.specs.StoreLaws.{Standing}
use Rattle.h5w_step_laws.specs.Ranges.{chunk_at}
use Rattle.h5w_array_laws.specs.Among.{AreAmong}
use Rattle.h5w_array_laws.specs.ArrayStores.{IsHeaded, map_of, behind_of}
use Rattle.h5w_array_laws.specs.ArrayImages.{StandsArray}

-- The map and the ranges stay, and so do the places; what stands apart and in an image does; no mark is lost, and no head.
pub record IsHeld (v w : Store) : Type 0 where
  pub map : (i : ℕ) → map_of w i ≡ map_of v i
  pub behind : (bytes : ℕ) → behind_of bytes w ≡ behind_of bytes v
  pub places : (n : ℕ) → place_of w n ≡ place_of v n
  pub standing : (s : Space) → Standing v s → Standing w s
  pub stands : (img : List ℕ) → StandsArray v img → StandsArray w img
  pub marks : (n : ℕ) → is_changed v n ≡ true → is_changed w n ≡ true
  pub headed : IsHeaded v → IsHeaded w

-- The map is another at one chunk number; of ranges there is that chunk's more, and none other; the rest stays as above.
pub record IsSet (i address : ℕ) (v w : Store) : Type 0 where
  pub map : (j : ℕ) → map_of w j ≡ (if j == i then address else map_of v j)
  pub behind : (bytes : ℕ) → AreAmong (behind_of bytes w) (chunk_at address bytes ∷ behind_of bytes v)
  pub places : (n : ℕ) → place_of w n ≡ place_of v n
  pub standing : (s : Space) → Standing v s → Standing w s
  pub stands : (img : List ℕ) → StandsArray v img → StandsArray w img
  pub marks : (n : ℕ) → is_changed v n ≡ true → is_changed w n ≡ true
  pub headed : IsHeaded v → IsHeaded w

-- The map is undefined at one chunk number, and of ranges there is none other; the rest stays as above.
pub record IsUnset (i : ℕ) (v w : Store) : Type 0 where
  pub map : (j : ℕ) → map_of w j ≡ (if j == i then undefined else map_of v j)
  pub behind : (bytes : ℕ) → AreAmong (behind_of bytes w) (behind_of bytes v)
  pub places : (n : ℕ) → place_of w n ≡ place_of v n
  pub standing : (s : Space) → Standing v s → Standing w s
  pub stands : (img : List ℕ) → StandsArray v img → StandsArray w img
  pub marks : (n : ℕ) → is_changed v n ≡ true → is_changed w n ≡ true
  pub headed : IsHeaded v → IsHeaded w

-- an address, where it is defined
abbrev pub found : ℕ → Option ℕ
found a = if a == undefined then None else Some a

-- of the blocks under these numbers alone bytes or mark are others
abbrev pub Touches : (ℕ → Type 0) → Store → Store → Type 0
Touches P v w = (n : ℕ) → (P n → ⊥) → (block_of w n ≡ block_of v n) × (is_changed w n ≡ is_changed v n)

-- the numbers of the blocks on the way to a block: its own, that of the block that names it, index block and header
abbrev pub OnWay : Part → ℕ → Type 0
OnWay k n = (n ≡ number_of k) ⊎ ((n ≡ number_of (parent k)) ⊎ ((n ≡ number_of index_block) ⊎ (n ≡ number_of header)))

-- the numbers of the block that has the slot of a chunk, and of the header
abbrev pub IsSlotOrHeader : ℕ → ℕ → Type 0
IsSlotOrHeader i n = (n ≡ number_of (holder i)) ⊎ (n ≡ number_of header)
