-- How often ranges begin at a place: so that the ranges of an index after a change do not meet.
use Rattle.std.specs.Prelude.{ℕ, ◌+◌, ◌≤◌, List, [], ◌∷◌, ◌==◌, if◌then◌else◌}
use Rattle.h5w_model.specs.Findings.{Used}
use Rattle.h5w_step_laws.specs.Ranges.{AllAmong, Disjoint}

-- how many ranges begin at a place
abbrev pub count_at : ℕ → List Used → ℕ
count_at p [] = 0
count_at p (u ∷ us) = (if u.place == p then 1 else 0) + count_at p us

-- Ranges that are among ranges that do not meet, none of them twice, do not meet: so the ranges of an index after a change,
-- which are those of before and fresh ones, but for those that were retired.
abbrev pub DisjointPart : Type 0
DisjointPart = (all part : List Used) → Disjoint all → AllAmong part all → ((p : ℕ) → count_at p part ≤ count_at p all) → Disjoint part
