-- Ranges behind others.
use Rattle.std.proofs.Common.{◌≡◌, ℕ, ◌+◌, ◌<◌, true, false, cond, List, [], ◌∷◌, ◌++◌, length, get_or, drop, Result, Ok, Err, refl, sym, ◌∙◌, ap, append_assoc, add-one, drop-cons}
use Rattle.std.specs.Prelude.{◌==◌, nat_lt}
use Rattle.std.proofs.lemmas.List.{append-nil}
use Rattle.h5w_model.specs.Numbers.{undefined}
use Rattle.h5w_model.specs.Datasets.{then_also}
use Rattle.h5w_model.specs.Findings.{Used, Finding, found, chunk_ranges}
use Rattle.h5w_check.specs.Ranges.{after, put_after}

pub after_nil : (old : List Used) → after old (Ok []) ≡ Ok old
after_nil old = ap (λ us. Ok us) (append-nil old)

-- one more range, and then the rest
pub behind_one : (old : List Used) (u : Used) (r : Result (List Used) Finding)
    → after old (then_also r (λ us. Ok (u ∷ us))) ≡ after (old ++ u ∷ []) r
behind_one old u (Ok us) = ap (λ vs. Ok vs) (sym (append_assoc old (u ∷ []) us))
behind_one old u (Err f) = refl

pub chunks_step : (end bytes place : ℕ) (rest : List ℕ) (old : List Used)
    → after old (chunk_ranges end bytes (place ∷ rest)) ≡ then_also (put_after end bytes place old) (λ mid. after mid (chunk_ranges end bytes rest))
chunks_step end bytes place rest old =
    let r = chunk_ranges end bytes rest in
    let u : Used = record { place = place; len = bytes; chunk = true } in
    let past : Result (List Used) Finding = Err (found 17 place) in
    let more : Result (List Used) Finding = then_also r (λ us. Ok (u ∷ us)) in
    let kept : Result (List Used) Finding = Ok (old ++ u ∷ []) in
    let go : List Used → Result (List Used) Finding = λ mid. after mid r in
    elim (place == undefined) as (λ c. after old (cond c r (cond (nat_lt end (place + bytes)) past more)) ≡ then_also (cond c (Ok old) (cond (nat_lt end (place + bytes)) past kept)) go) [
      | true ↦ refl
      | false ↦ elim (nat_lt end (place + bytes)) as (λ c. after old (cond c past more) ≡ then_also (cond c past kept) go) [
        | true ↦ refl
        | false ↦ behind_one old u r
      ]
    ]

pub next_from : {A : Type 0} (xs : List A) (i : ℕ) (d : A) → i < length xs → drop i xs ≡ get_or xs i d ∷ drop (i + 1) xs
next_from xs i d h = rw (add-one, drop-cons xs i d) refl
