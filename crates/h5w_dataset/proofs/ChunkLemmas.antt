-- The chunks that a dataset's rows need.
use Rattle.std.proofs.Common.{◌≡◌, ℕ, ◌+◌, ◌-◌, ◌*◌, ◌/◌, ◌%◌, ◌^◌, ◌<◌, ◌≤◌, sym, ◌∙◌, ap, arith}
use Rattle.std.proofs.lemmas.Nat.{div-add-mod', div-mul-add, div_below}
use Rattle.std.proofs.Math.Nat.{mul-le-mul}
use Rattle.h5w_model.specs.Logs.{div_up}

pub div_up_even : (n d : ℕ) → 0 < d → n % d ≡ 0 → n / d ≡ div_up n d
div_up_even n d k e =
    let whole : n / d * d + n % d ≡ n = div-add-mod' n d in
    let sum : n + d - 1 ≡ n / d * d + (d - 1) = omega arith in
    sym (ap (λ m. m / d) sum ∙ div-mul-add (n / d) d (d - 1) (omega arith))

pub div_up_odd : (n d : ℕ) → 0 < d → (n % d ≡ 0 → ⊥) → n / d + 1 ≡ div_up n d
div_up_odd n d k e =
    let whole : n / d * d + n % d ≡ n = div-add-mod' n d in
    let more : (n / d + 1) * d ≡ n / d * d + d = grind arith in
    let sum : n + d - 1 ≡ (n / d + 1) * d + (n % d - 1) = omega arith in
    let small : n % d - 1 < d = omega arith in
    sym (ap (λ m. m / d) sum ∙ div-mul-add (n / d + 1) d (n % d - 1) small)

pub div_up_within : (n d : ℕ) → 0 < d → div_up n d ≤ n
div_up_within n d k =
    let more : n + d - 1 < (n + 1) * d = grind arith in
    let h : (n + d - 1) / d < n + 1 = div_below (n + d - 1) d (n + 1) k more in
    omega arith

pub product_fits : (a b : ℕ) → a < 2 ^ 64 → b < 2 ^ 64 → a * b < 2 ^ 128
product_fits a b h g = let k : a * b ≤ (2 ^ 64 - 1) * (2 ^ 64 - 1) = mul-le-mul {n₁ = a} {m₁ = b} {n₂ = 2 ^ 64 - 1} {m₂ = 2 ^ 64 - 1} (omega arith) (omega arith) in omega arith
