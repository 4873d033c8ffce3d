-- What a plan keeps: blocks that are apart stay apart, what is live or retired is not written over, and what is clean stands
-- in the image.
use Rattle.std.specs.Prelude.{◌≡◌, ℕ, ◌<◌, List, ◌∷◌, ◌++◌, length, ◌⊎◌, IsSome}
use Rattle.std.specs.Option.{option_map}
use Rattle.std.specs.List.{All}
use Rattle.h5w_model.specs.Numbers.{undefined}
use Rattle.h5w_model.specs.Images.{At, AllMiss, image}
use Rattle.h5w_model.specs.declared.piece.Write.{Write}
use Rattle.h5w_space.specs.Space.{Space, IsLive, Apart, extent}
use Rattle.h5w_space.specs.declared.Extent.{Extent}
use Rattle.h5w_cache.specs.Blocks.{spelled}
use Rattle.h5w_cache.specs.Stores.{Store, block_of, place_of, place_in, times}
use Rattle.h5w_cache.specs.Plans.{block_in, bytes_in}
use Rattle.h5w_cache.specs.declared.moves.Move.{Move}

-- a block is kept under the number, and has a place
pub record IsPlaced (v : Store) (n : ℕ) : Type 0 where
  pub kept : IsSome (block_in v.blocks n)
  pub placed : place_in v.places n ≡ undefined → ⊥

-- the range of the block under a number
abbrev pub range_of : Store → ℕ → Extent
range_of v n = extent (place_in v.places n) (length (bytes_in v.blocks n))

-- the blocks that have a place are live, and apart from each other
pub record Standing (v : Store) (s : Space) : Type 0 where
  pub live : (n : ℕ) → IsPlaced v n → IsLive s (range_of v n)
  pub some : (n : ℕ) → IsPlaced v n → 0 < length (bytes_in v.blocks n)
  pub apart : (n k : ℕ) → (n ≡ k → ⊥) → IsPlaced v n → IsPlaced v k → Apart (range_of v n) (range_of v k)

-- the clean blocks stand at their places in the image
abbrev pub AreThere : Store → List ℕ → Type 0
AreThere v img = (n : ℕ) → IsPlaced v n → times n v.changed ≡ 0 → At img (place_in v.places n) (bytes_in v.blocks n)

-- the place that the block has is another than that which it had
abbrev pub IsLeft : Move → Type 0
IsLeft m = (m.old ≡ undefined → ⊥) × (m.old ≡ m.new → ⊥)

-- the range is among the retired
abbrev pub IsRetired : Space → Extent → Type 0
IsRetired s r = (front : List Extent) × (rest : List Extent) × (s.retired ≡ front ++ r ∷ rest)

-- the range was live or retired, and is apart from each block that stayed where it was
pub record IsForeign (s : Space) (ms : List Move) (r : Extent) : Type 0 where
  pub some : 0 < r.size
  pub known : IsLive s r ⊎ IsRetired s r
  pub apart : All (λ (m : Move). m.new ≡ m.old → Apart (extent m.new m.len) r) ms

pub record KeepsStore (v : Store) (s : Space) (ms : List Move) (ws : List Write) (w : Store) (t : Space) : Type 0 where
  -- a clean block stays
  pub others : (n : ℕ) → times n v.changed ≡ 0 → (block_of w n ≡ block_of v n) × (place_of w n ≡ place_of v n)
  -- a changed one differs in the addresses of those that it links to and its sum alone
  pub each : (n : ℕ) → 0 < times n v.changed → block_of w n ≡ option_map (spelled (place_in w.places)) (block_of v n)
  -- what was live or retired is not written over, but for the blocks that stay where they are
  pub off : (r : Extent) → IsForeign s ms r → AllMiss ws r.at r.size
  pub standing : Standing v s → Standing w t
  -- the places that were left are retired
  pub retired : Standing v s → All (λ (m : Move). IsLeft m → IsRetired t (extent m.old m.len)) ms
  -- where the clean blocks stood in the image, all stand in it once all is written
  pub there : Standing v s → (img : List ℕ) → AreThere v img → AreThere w (image img ws)
