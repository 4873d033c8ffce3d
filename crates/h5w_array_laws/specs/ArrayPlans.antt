-- What the plan of an array's blocks does, in the words of a writer: its map, the ranges that it uses, and the ranges that its writes miss.
use Rattle.std.specs.Prelude.{◌≡◌, ◌⊎◌, ℕ, ◌<◌, ◌≤◌, List, [], ◌∷◌, ◌++◌, if◌then◌else◌}
use Rattle.std.specs.List.{All}
use Rattle.h5w_model.specs.Images.{AllMiss}
use Rattle.h5w_model.specs.Findings.{Used}
use Rattle.h5w_model.specs.declared.piece.Write.{Write}
use Rattle.h5w_space.specs.Space.{Space, IsLive, Apart, extent}
use Rattle.h5w_space.specs.declared.Extent.{Extent}
use Rattle.h5w_cache.specs.Stores.{Store}
use Rattle.h5w_cache.specs.Plans.{IsPlan}
use Rattle.h5w_cache.specs.StoreLaws.{IsRetired, KeepsStore, Standing}
use Rattle.h5w_cache.specs.declared.moves.Move.{Move}
use Rattle.h5w_step_laws.specs.Ranges.{Among, AllEndBy, Disjoint, block_at}
use Rattle.h5w_array_laws.specs.Among.{AreAmong}
use Rattle.h5w_array_laws.specs.ArrayStores.{IsArray, IsHeaded, IsNumbered, map_of, fixed_of, behind_of}
use Rattle.h5w_array_laws.specs.ArrayImages.{AreInPlace}

-- the ranges that the copies took
abbrev pub fresh : List Move → List Used
fresh [] = []
fresh (m ∷ ms) = if m.in_place then fresh ms else block_at m.new m.len ∷ fresh ms

abbrev pub extent_of : Used → Extent
extent_of u = extent u.place u.len

pub record IsArrayPlan (v : Store) (s : Space) (ms : List Move) (copies in_place : List Write) (w : Store) (t : Space) : Type 0 where
  pub plan : IsPlan v s ms copies in_place w t
  pub keeps : KeepsStore v s ms (copies ++ in_place) w t
  pub array : IsArray w
  pub headed : IsHeaded v → IsHeaded w
  pub clean : w.changed ≡ []
  pub map : (i : ℕ) → map_of w i ≡ map_of v i
  -- the blocks in place stay where they are, and are written whole
  pub stay : fixed_of w ≡ fixed_of v
  pub fixed : AreInPlace w in_place
  -- what it uses now it used before, or is fresh
  pub behind : (bytes : ℕ) → AreAmong (behind_of bytes w) (fresh ms ++ behind_of bytes v)
  -- what is fresh overlaps nothing that was live or retired, and nothing else that is fresh, ends by the end, and is live
  pub off_live : (u : Used) → Among u (fresh ms) → (x : Extent) → IsLive s x → Apart (extent_of u) x
  pub off_retired : (u : Used) → Among u (fresh ms) → All (Apart (extent_of u)) s.retired
  pub disjoint : Disjoint (fresh ms)
  pub ends : AllEndBy t.end (fresh ms)
  pub live : Standing v s → (u : Used) → Among u (fresh ms) → IsLive t (extent_of u)
  pub end : s.end ≤ t.end
  -- what was live or retired, but for the two blocks in place, is missed by all writes
  pub off : Standing v s → (r : Extent) → 0 < r.size → IsLive s r ⊎ IsRetired s r → ((u : Used) → Among u (fixed_of v) → Apart (extent_of u) r) → AllMiss (copies ++ in_place) r.at r.size

-- every plan of an array's blocks is such a one
abbrev pub PlansArray : Type 0
PlansArray = (v : Store) (s : Space) (ms : List Move) (copies in_place : List Write) (w : Store) (t : Space) → IsArray v → IsPlan v s ms copies in_place w t → KeepsStore v s ms (copies ++ in_place) w t
    → IsArrayPlan v s ms copies in_place w t

-- the six numbers stay true
abbrev pub PlansNumbers : Type 0
PlansNumbers = (v : Store) (s : Space) (ms : List Move) (copies in_place : List Write) (w : Store) (t : Space) → IsArrayPlan v s ms copies in_place w t → IsArray v → IsNumbered v → IsNumbered w
