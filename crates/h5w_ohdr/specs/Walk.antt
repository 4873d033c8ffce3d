-- What a step of the walk over messages finds.
use Rattle.std.specs.Prelude.{◌≡◌, ℕ, ◌+◌, ◌≤◌, false, List, length}
use Rattle.h5w_model.specs.Numbers.{field}
use Rattle.h5w_model.specs.Headers.{data_size, overruns}

-- a whole message stands at the front of the bytes, and says this
pub record HasMessage (before : ℕ) (b : List ℕ) (kind flags size : ℕ) : Type 0 where
  pub long : before ≤ length b
  pub whole : overruns before b ≡ false
  pub inside : before + size ≤ length b
  pub kind_is : kind ≡ field b 0 1
  pub flags_are : flags ≡ field b 3 1
  pub size_is : size ≡ data_size b
