-- The tables of the code are the definitions.
use Rattle.std.proofs.Common.{◌≡◌, ℕ, zero, suc, ◌+◌, ◌≤◌, ◌<◌, [], ◌∷◌, get_or, refl, arith}
use Rattle.h5w_model.specs.Trees.{capacity_of, subtree_of, pointer_size, btin_len}

pub capacity_row : (depth : ℕ) → depth ≤ 3 → get_or (84 ∷ 61 ∷ 57 ∷ 56 ∷ []) depth 0 ≡ capacity_of depth
capacity_row zero h = refl
capacity_row (suc zero) h = refl
capacity_row (suc (suc zero)) h = refl
capacity_row (suc (suc (suc zero))) h = refl
capacity_row (suc (suc (suc (suc d)))) h = absurd (omega arith)

pub capacity-few : (depth : ℕ) → depth ≤ 3 → get_or (84 ∷ 61 ∷ 57 ∷ 56 ∷ []) depth 0 ≤ 84
capacity-few zero h = omega arith
capacity-few (suc zero) h = omega arith
capacity-few (suc (suc zero)) h = omega arith
capacity-few (suc (suc (suc zero))) h = omega arith
capacity-few (suc (suc (suc (suc d)))) h = absurd (omega arith)

-- so many records fit a node
pub capacity-fits : (depth n : ℕ) → depth ≤ 3 → n ≤ get_or (84 ∷ 61 ∷ 57 ∷ 56 ∷ []) depth 0 → btin_len n depth ≤ 2048
capacity-fits zero n h k = omega arith
capacity-fits (suc zero) n h k = omega arith
capacity-fits (suc (suc zero)) n h k = omega arith
capacity-fits (suc (suc (suc zero))) n h k = omega arith
capacity-fits (suc (suc (suc (suc d)))) n h k = absurd (omega arith)

pub pointer_size-leaf : (depth : ℕ) → depth ≡ 1 → pointer_size depth ≡ 9
pointer_size-leaf zero e = absurd (omega arith)
pointer_size-leaf (suc zero) e = refl
pointer_size-leaf (suc (suc d)) e = absurd (omega arith)

pub pointer_size-inner : (depth : ℕ) → 1 < depth → pointer_size depth ≡ 9 + depth
pointer_size-inner zero h = absurd (omega arith)
pointer_size-inner (suc zero) h = absurd (omega arith)
pointer_size-inner (suc (suc d)) h = omega arith
