-- A generator of numbers below 2^31: a state below 2^64 steps on, and each number is the upper part of the state after a step.
use Rattle.std.specs.Prelude.{ℕ, zero, suc, ◌+◌, ◌*◌, ◌/◌, ◌%◌, ◌^◌, List, [], ◌∷◌, map, ℤ, pos}

-- the state after a step
unfoldable pub next_state : ℕ → ℕ
next_state x = (x * 6364136223846793005 + 1442695040888963407) % 2 ^ 64

-- the number of a state
unfoldable pub number_of : ℕ → ℕ
number_of x = x / 2 ^ 33

-- the state after so many steps
abbrev pub state_after : ℕ → ℕ → ℕ
state_after x zero = x
state_after x (suc k) = state_after (next_state x) k

-- the numbers of so many steps
abbrev pub numbers : ℕ → ℕ → List ℕ
numbers x zero = []
numbers x (suc k) = number_of (next_state x) ∷ numbers (next_state x) k

-- the same as values of a dataset
abbrev pub generated : ℕ → ℕ → List ℤ
generated x k = map pos (numbers x k)
