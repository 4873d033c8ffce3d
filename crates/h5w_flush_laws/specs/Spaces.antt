-- Ranges of a file as places that a session takes and lets go.
use Rattle.std.specs.Prelude.{◌≡◌, ℕ, ◌+◌, ◌<◌, ◌≤◌, ◌⊎◌, true, false, List, [], ◌∷◌, ◌++◌, map, Option}
use Rattle.std.specs.List.{All}
use Rattle.h5w_model.specs.Findings.{Used}
use Rattle.h5w_step_laws.specs.Ranges.{Among, Disjoint, block_at}
use Rattle.h5w_space.specs.Space.{Space, IsLive, Apart, Commits, extent}
use Rattle.h5w_space.specs.declared.Extent.{Extent}
use Rattle.h5w_cache.specs.Blocks.{BlockView}
use Rattle.h5w_cache.specs.Plans.{Took, AreRetired, AreMoves, stays}
use Rattle.h5w_cache.specs.StoreLaws.{IsLeft}
use Rattle.h5w_cache.specs.declared.moves.Move.{Move}

-- a range as the places of a session speak of it
abbrev pub extent_of : Used → Extent
extent_of u = extent u.place u.len

-- each of these ranges ends by the end, and meets no free and no retired place
abbrev pub AllLive : Space → List Used → Type 0
AllLive s us = (u : Used) → Among u us → IsLive s (extent_of u)

-- These ranges were taken: each is live from now on; they meet neither each other nor what was live, which still is; and the
-- end rose to the end of one of them at most.
pub record Taken (s : Space) (us : List Used) (t : Space) : Type 0 where
  pub apart : Disjoint us
  pub off_live : (u : Used) (x : Extent) → Among u us → IsLive s x → Apart (extent_of u) x
  pub live : AllLive t us
  pub stays_live : (x : Extent) → IsLive s x → IsLive t x
  pub rises : s.end ≤ t.end
  pub end : (t.end ≡ s.end) ⊎ ((u : Used) × Among u us × (u.place + u.len ≡ t.end))

-- These ranges were let go, and nothing else is.
pub record LetGo (s : Space) (us : List Used) (t : Space) : Type 0 where
  pub stays_live : (x : Extent) → IsLive s x → ((u : Used) → Among u us → Apart (extent_of u) x) → IsLive t x
  pub end : t.end ≡ s.end

-- ---- Laws

-- The ranges of one place, of none, and of some places and then others: a chunk's place is of Places::take; places that differ
-- only in the room that they have, of Places::reserve and Places::copy.
pub record TakenLaws : Type 0 where
  pub one : (s t : Space) (u : Used) → 0 < u.len → Took s t (extent_of u) → Taken s (u ∷ []) t
  pub none_taken : (s t : Space) → t.end ≡ s.end → t.free ≡ s.free → t.retired ≡ s.retired → Taken s [] t
  pub joined : (s t v : Space) (us vs : List Used) → Taken s us t → Taken t vs v → Taken s (us ++ vs) v

-- the ranges of blocks that get new places
abbrev pub moved_ranges : List Move → List Used
moved_ranges ms = map (λ (m : Move). block_at m.new m.len) ms

-- one of these blocks left the range
abbrev pub IsLeftBy : Used → List Move → Type 0
IsLeftBy u [] = ⊥
IsLeftBy u (m ∷ ms) = (IsLeft m × (u ≡ block_at m.old m.len)) ⊎ IsLeftBy u ms

-- The places that a plan of a store takes for blocks none of which stays (its copies), and those that its blocks leave.
pub record MoveLaws : Type 0 where
  pub taken : (blocks : List (Option BlockView)) (places : List ℕ) (s : Space) (ms : List Move) (t : Space) → AreMoves blocks places s ms t
      → All (λ (m : Move). stays m.in_place m.old ≡ false) ms → Taken s (moved_ranges ms) t
  pub stayed : (blocks : List (Option BlockView)) (places : List ℕ) (s : Space) (ms : List Move) (t : Space) → AreMoves blocks places s ms t
      → All (λ (m : Move). stays m.in_place m.old ≡ true) ms → t ≡ s
  pub let_go : (s : Space) (ms : List Move) (t : Space) → AreRetired s ms t → (us : List Used) × LetGo s us t × ((u : Used) → Among u us → IsLeftBy u ms)

-- What was let go is free after the header piece, and nothing else is: what was live is.
abbrev pub CommittedLive : Type 0
CommittedLive = (s t : Space) → Commits s t → (x : Extent) → IsLive s x → IsLive t x
