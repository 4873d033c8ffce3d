-- How many slots the blocks of an array have.
use Rattle.std.proofs.Common.{ℕ, zero, suc, ◌≤◌, arith}
use Rattle.h5w_model.specs.Arrays.{super_block_of}

pub few_blocks : (s : ℕ) → s ≤ 12 → (super_block_of s).blocks ≤ 1024
few_blocks zero h = omega arith
few_blocks (suc zero) h = omega arith
few_blocks (suc (suc zero)) h = omega arith
few_blocks (suc (suc (suc zero))) h = omega arith
few_blocks (suc (suc (suc (suc zero)))) h = omega arith
few_blocks (suc (suc (suc (suc (suc zero))))) h = omega arith
few_blocks (suc (suc (suc (suc (suc (suc zero)))))) h = omega arith
few_blocks (suc (suc (suc (suc (suc (suc (suc zero))))))) h = omega arith
few_blocks (suc (suc (suc (suc (suc (suc (suc (suc zero)))))))) h = omega arith
few_blocks (suc (suc (suc (suc (suc (suc (suc (suc (suc zero))))))))) h = omega arith
few_blocks (suc (suc (suc (suc (suc (suc (suc (suc (suc (suc zero)))))))))) h = omega arith
few_blocks (suc (suc (suc (suc (suc (suc (suc (suc (suc (suc (suc zero))))))))))) h = omega arith
few_blocks (suc (suc (suc (suc (suc (suc (suc (suc (suc (suc (suc (suc zero)))))))))))) h = omega arith
few_blocks (suc (suc (suc (suc (suc (suc (suc (suc (suc (suc (suc (suc (suc s))))))))))))) h = absurd (omega arith)

pub few_slots : (s : ℕ) → s ≤ 12 → (super_block_of s).slots ≤ 1024
few_slots zero h = omega arith
few_slots (suc zero) h = omega arith
few_slots (suc (suc zero)) h = omega arith
few_slots (suc (suc (suc zero))) h = omega arith
few_slots (suc (suc (suc (suc zero)))) h = omega arith
few_slots (suc (suc (suc (suc (suc zero))))) h = omega arith
few_slots (suc (suc (suc (suc (suc (suc zero)))))) h = omega arith
few_slots (suc (suc (suc (suc (suc (suc (suc zero))))))) h = omega arith
few_slots (suc (suc (suc (suc (suc (suc (suc (suc zero)))))))) h = omega arith
few_slots (suc (suc (suc (suc (suc (suc (suc (suc (suc zero))))))))) h = omega arith
few_slots (suc (suc (suc (suc (suc (suc (suc (suc (suc (suc zero)))))))))) h = omega arith
few_slots (suc (suc (suc (suc (suc (suc (suc (suc (suc (suc (suc zero))))))))))) h = omega arith
few_slots (suc (suc (suc (suc (suc (suc (suc (suc (suc (suc (suc (suc zero)))))))))))) h = omega arith
few_slots (suc (suc (suc (suc (suc (suc (suc (suc (suc (suc (suc (suc (suc s))))))))))))) h = absurd (omega arith)
