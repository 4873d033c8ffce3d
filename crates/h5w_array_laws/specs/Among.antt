-- Ranges that are among others, none of them more often: so that they meet as little as those.
use Rattle.std.specs.Prelude.{ℕ, ◌≤◌, List}
use Rattle.h5w_model.specs.Findings.{Used}
use Rattle.h5w_step_laws.specs.Ranges.{AllAmong}
use Rattle.h5w_step_laws.specs.Counts.{count_at}

pub record AreAmong (us vs : List Used) : Type 0 where
  pub among : AllAmong us vs
  pub counts : (p : ℕ) → count_at p us ≤ count_at p vs
