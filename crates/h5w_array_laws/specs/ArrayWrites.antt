-- An array on an image while the writes of a plan come, and others between them.
use Rattle.std.specs.Prelude.{◌≡◌, ◌⊎◌, ℕ, ◌<◌, List, length, map, flat_map}
use Rattle.h5w_model.specs.Images.{AllMiss, image, pieces}
use Rattle.h5w_model.specs.Arrays.{eahd_len}
use Rattle.h5w_model.specs.declared.piece.Write.{Write}
use Rattle.h5w_space.specs.Space.{Space, IsLive}
use Rattle.h5w_space.specs.declared.Extent.{Extent}
use Rattle.h5w_cache.specs.Stores.{Store, place_of}
use Rattle.h5w_cache.specs.Plans.{IsPlan, bytes_in}
use Rattle.h5w_cache.specs.StoreLaws.{IsPlaced, IsRetired}
use Rattle.h5w_cache.specs.declared.moves.Move.{Move}
use Rattle.h5w_step_laws.specs.Ranges.{block_at}
use Rattle.h5w_array_laws.specs.ArrayStores.{IsArray, header_place}
use Rattle.h5w_array_laws.specs.ArrayImages.{HeaderStands, StandsArray, BehindStands, IsPlanned}
use Rattle.h5w_array_laws.specs.ArrayPlans.{fresh}

-- the writes meet none of an array's blocks
abbrev pub MissArray : Store → List Write → Type 0
MissArray v ws = (n : ℕ) → IsPlaced v n → AllMiss ws (place_of v n) (length (bytes_in v.blocks n))

-- nor one of those behind the blocks in place
abbrev pub MissBehind : Store → List Write → Type 0
MissBehind v ws = (n : ℕ) → IsPlaced v n → n < 845 → AllMiss ws (place_of v n) (length (bytes_in v.blocks n))

-- the copies as blocks at their places, each a fresh range
pub record AreCopies (ms : List Move) (copies : List Write) : Type 0 where
  pub placed : List (ℕ × List ℕ)
  pub writes : copies ≡ flat_map (λ b. pieces b.0 b.1) placed
  pub ranges : fresh ms ≡ map (λ b. block_at b.0 (length b.1)) placed

-- ---- Laws

-- writes that miss what is there leave it
pub record WritesLeave : Type 0 where
  pub header : (v : Store) (img : List ℕ) (ws : List Write) → AllMiss ws (header_place v) eahd_len → HeaderStands v img → HeaderStands v (image img ws)
  pub array : (v : Store) (img : List ℕ) (ws : List Write) → IsArray v → MissArray v ws → StandsArray v img → StandsArray v (image img ws)
  pub behind : (v : Store) (img : List ℕ) (ws : List Write) → MissBehind v ws → BehindStands v img → BehindStands v (image img ws)

-- The copies of a plan are blocks at fresh ranges; they miss all that was live or retired, also the blocks in place, and so the array as it stood.
pub record CopiesTell (v : Store) (s : Space) (ms : List Move) (copies : List Write) : Type 0 where
  pub are : AreCopies ms copies
  pub miss : (r : Extent) → 0 < r.size → IsLive s r ⊎ IsRetired s r → AllMiss copies r.at r.size

abbrev pub PlanCopies : Type 0
PlanCopies = (v : Store) (s : Space) (ms : List Move) (copies in_place : List Write) (w : Store) (t : Space) → IsArray v → IsPlan v s ms copies in_place w t → CopiesTell v s ms copies

abbrev pub CopiesMiss : Type 0
CopiesMiss = (v : Store) (s : Space) (ms : List Move) (copies in_place : List Write) (w : Store) (t : Space) → IsPlanned v s ms copies in_place w t → MissArray v copies

-- Where the blocks behind stand, and the array as it was, the pieces in place make the whole array stand as it is now.
abbrev pub InPlaceStands : Type 0
InPlaceStands = (v : Store) (s : Space) (ms : List Move) (copies in_place : List Write) (w : Store) (t : Space) (img : List ℕ)
    → IsPlanned v s ms copies in_place w t → StandsArray v img → BehindStands w img → StandsArray w (image img in_place)
