-- How the free places stand: those of one size side by side.
use Rattle.std.specs.Prelude.{◌≡◌, ℕ, ◌+◌, ◌-◌, ◌≤◌, ◌<◌, cond, nat_le, nat_lt, ◌&&◌, List, [], ◌∷◌, ◌++◌, length, map, take, drop, replicate}
use Rattle.std.specs.List.{All, HoldsAt, sum_by}
use Rattle.h5w_space.specs.declared.Extent.{Extent}
use Rattle.h5w_space.specs.declared.groups.Group.{Group}

-- the sizes that the groups stand for, one after another
abbrev pub laid : List Group → List ℕ
laid [] = []
laid (g ∷ gs) = replicate g.count g.size ++ laid gs

-- the same with one of the group g, the one at this index, left out
abbrev pub laid_less : List Group → ℕ → Group → List ℕ
laid_less groups index g = laid (take index groups) ++ (replicate (g.count - 1) g.size ++ laid (drop (index + 1) groups))

abbrev pub sizes : List Extent → List ℕ
sizes places = map (λ p. p.size) places

-- the group at this index is the one of this size, and its places stand before place `end`
pub record IsGroup (groups : List Group) (size index end : ℕ) : Type 0 where
  pub inside : index < length groups
  pub is : HoldsAt (λ g. g.size ≡ size) groups index
  pub ends : end ≡ length (laid (take (index + 1) groups))

-- the places stand by the groups, none of which is empty
pub record IsGrouped (groups : List Group) (free : List Extent) : Type 0 where
  pub by_size : sizes free ≡ laid groups
  pub filled : All (λ g. 0 < g.count) groups

-- 1 where byte b lies in the place, else 0
abbrev pub holds : ℕ → Extent → ℕ
holds b r = cond (nat_le r.at b && nat_lt b (r.at + r.size)) 1 0

-- the free and retired places end by the end, and no byte lies in two of them
pub record IsSound (end : ℕ) (places : List Extent) : Type 0 where
  pub within : All (λ r. r.at + r.size ≤ end) places
  pub once : (b : ℕ) → sum_by (holds b) places ≤ 1

-- each list has room for what it has and for each retirement, done or to come
pub record HasRoom (groups free retired spare : ℕ) (groups_room free_room retired_room : ℕ) : Type 0 where
  pub among_groups : groups + retired + spare ≤ groups_room
  pub among_free : free + retired + spare ≤ free_room
  pub among_retired : retired + spare ≤ retired_room
