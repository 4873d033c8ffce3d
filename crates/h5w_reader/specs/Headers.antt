-- What counts of a look at the dataset header.
use Rattle.std.specs.Prelude.{◌≡◌, ℕ, ◌+◌, ◌-◌, ◌^◌, ◌<◌, ◌≤◌, List, length, drop, Ok}
use Rattle.h5w_model.specs.Headers.{prefix_at, zeros}
use Rattle.h5w_model.specs.Programs.{below_end}
use Rattle.h5w_model.specs.declared.message.Prefix.{Prefix}
pub use Rattle.h5w_lookup.specs.Seen.{IsWhole}

-- What holds of it at a place: where chunk 0 is longer than 512 bytes it has 512, and zeros where no look reaches; else
-- it ends by 2^64.
pub record IsView (place : ℕ) (v : List ℕ) : Type 0 where
  pub small : length v ≤ 512
  pub long : (p : Prefix) → prefix_at v ≡ Ok p → 512 < p.total → length v ≡ 512
  pub filled : (p : Prefix) → prefix_at v ≡ Ok p → 512 < p.total → drop (below_end place 512) v ≡ zeros (512 - below_end place 512)
  pub inside : ((p : Prefix) → prefix_at v ≡ Ok p → p.total ≤ 512) → place + length v ≤ 2 ^ 64
