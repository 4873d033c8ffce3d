-- Where the slot of a chunk stands lies inside.
use Rattle.std.proofs.Common.{◌≡◌, ℕ, zero, suc, ◌+◌, ◌<◌, refl, arith}
use Rattle.h5w_model.specs.Arrays.{super_block_of, blocks_before}
use Rattle.h5w_model.specs.Tables.{super_block_of_first}

pub first_number : (s b : ℕ) → s < 4 → b < (super_block_of s).blocks → (blocks_before s + b < 6) × (super_block_of_first (blocks_before s + b) ≡ s)
first_number zero zero h l = (omega arith, refl)
first_number zero (suc b) h l = absurd (omega arith)
first_number (suc zero) zero h l = (omega arith, refl)
first_number (suc zero) (suc b) h l = absurd (omega arith)
first_number (suc (suc zero)) zero h l = (omega arith, refl)
first_number (suc (suc zero)) (suc zero) h l = (omega arith, refl)
first_number (suc (suc zero)) (suc (suc b)) h l = absurd (omega arith)
first_number (suc (suc (suc zero))) zero h l = (omega arith, refl)
first_number (suc (suc (suc zero))) (suc zero) h l = (omega arith, refl)
first_number (suc (suc (suc zero))) (suc (suc b)) h l = absurd (omega arith)
first_number (suc (suc (suc (suc s)))) b h l = absurd (omega arith)
