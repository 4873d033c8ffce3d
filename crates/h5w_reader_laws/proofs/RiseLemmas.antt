-- How often the flushed rows become more between two positions.
use Rattle.std.proofs.Common.{◌≡◌, ℕ, zero, suc, ◌+◌, ◌-◌, ◌<◌, ◌≤◌, ◌∙◌, ap, subst, arith}
use Rattle.std.specs.Prelude.{nat_lt, if◌then◌else◌}
use Rattle.std.proofs.lemmas.Bool.{cond_both, ltb-false}
use Rattle.h5w_model.specs.Logs.{Log, flushed_at}
use Rattle.h5w_reader_laws.specs.Headline.{rises}

rises_joined : (log : Log) (from n m : ℕ) → rises log from (n + m) ≡ rises log from n + rises log (from + n) m
rises_joined log from n zero = ap (rises log from) (let e : n + 0 ≡ n = omega arith in e) ∙ (let e : rises log from n ≡ rises log from n + 0 = omega arith in e)
rises_joined log from n (suc m) =
    let step : ℕ → ℕ → ℕ = λ p q. if nat_lt (flushed_at log p) (flushed_at log q) then 1 else 0 in
    let a : n + suc m ≡ suc (n + m) = omega arith in
    let b : from + (n + m) ≡ from + n + m = omega arith in
    let c : from + suc (n + m) ≡ from + n + suc m = omega arith in
    let k : ℕ = step (from + n + m) (from + n + suc m) in
    let e : rises log from (n + m) + k ≡ rises log from n + (rises log (from + n) m + k) = omega (arith, rises_joined log from n m) in
    ap (rises log from) a ∙ ap (λ p. rises log from (n + m) + step p (from + suc (n + m))) b ∙ ap (λ q. rises log from (n + m) + step (from + n + m) q) c ∙ e

-- from one position over a second to a third
pub rises_onward : (log : Log) (p q r : ℕ) → p ≤ q → q ≤ r → rises log p (r - p) ≡ rises log p (q - p) + rises log q (r - q)
rises_onward log p q r h g =
    let a : r - p ≡ (q - p) + (r - q) = omega arith in
    let b : p + (q - p) ≡ q = omega arith in
    ap (rises log p) a ∙ rises_joined log p (q - p) (r - q) ∙ ap (λ x. rises log p (q - p) + rises log x (r - q)) b

less_not : (a b : ℕ) → b ≡ a → a < b → ⊥
less_not a b e h = omega arith

rise_within : (log : Log) (from n : ℕ) → flushed_at log from < flushed_at log (from + n) → 1 ≤ rises log from n
rise_within log from zero more =
    let e : from + 0 ≡ from = omega arith in
    absurd (less_not (flushed_at log from) (flushed_at log (from + 0)) (ap (flushed_at log) e) more)
rise_within log from (suc n) more =
    cond_both (nat_lt (flushed_at log (from + n)) (flushed_at log (from + suc n))) 1 0 (λ k. 1 ≤ rises log from n + k)
    (λ t. omega arith)
    (λ t.
    let level : flushed_at log (from + suc n) ≤ flushed_at log (from + n) = ltb-false (flushed_at log (from + n)) (flushed_at log (from + suc n)) t in
    let before : 1 ≤ rises log from n = rise_within log from n (omega (arith, level)) in
    omega (arith, before))

-- more rows come by a rise
pub rise_between : (log : Log) (p q : ℕ) → p ≤ q → flushed_at log p < flushed_at log q → 1 ≤ rises log p (q - p)
rise_between log p q h more =
    let e : q ≡ p + (q - p) = omega arith in
    rise_within log p (q - p) (subst (λ x. flushed_at log p < flushed_at log x) e more)
