-- Sums that are gone on with behind a front.
use Rattle.std.specs.Prelude.{◌≡◌, ℕ, ◌+◌, ◌-◌, ◌/◌, ◌%◌, ◌<◌, List, ◌++◌, length}
use Rattle.h5w_model.specs.Checksum.{Words, rounds, sum_of}

-- these words have a front of so many bytes in them: what stands behind it ends the sum of both
abbrev pub IsFront : ℕ → List ℕ → Words → Type 0
IsFront len front w = (rest : List ℕ) → length front + length rest ≡ len → 0 < length rest → rounds ((length rest - 1) / 12) w rest ≡ sum_of (front ++ rest)

-- some of the blocks are mixed in, and these are left
pub record IsMixed (len : ℕ) (front blocks left : List ℕ) (w : Words) : Type 0 where
  pub done : List ℕ
  pub both : blocks ≡ done ++ left
  pub whole : length left % 12 ≡ 0
  pub goes : IsFront len (front ++ done) w
