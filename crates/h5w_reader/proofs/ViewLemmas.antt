-- What counts of a look at a header.
use Rattle.std.proofs.Common.{◌≡◌, ℕ, zero, suc, ◌+◌, ◌-◌, ◌<◌, ◌≤◌, ◌^◌, inl, inr, min, List, [], ◌∷◌, ◌++◌, length, take, replicate, Ok, Err, refl, ◌∙◌, ap, arith, length-append, length-take}
use Rattle.std.proofs.lemmas.Bool.{cases_lt, leb-true, le-leb, lt-leb}
use Rattle.h5w_model.specs.Headers.{prefix_at, prefix_tests, prefix_fields, header_flags, messages_place, size_place, size_width, zeros}
use Rattle.h5w_model.specs.declared.message.Prefix.{Prefix}
use Rattle.h5w_model.specs.declared.refusal.HeaderError.TheVariants.{Short, Signature, Version}
use Rattle.h5w_model.proofs.NumberLemmas.{field-append-left}
use Rattle.h5w_model.proofs.CheckedLemmas.{checked-ok, checked-passed}

pub short_prefix : (b : List ℕ) → length b < 6 → prefix_at b ≡ Err (Short 6 (length b))
unfolding prefix_at
short_prefix b h = rw (lt-leb 6 (length b) h) refl

pub signature_long : (b : List ℕ) → prefix_at b ≡ Err Signature → 6 ≤ length b
signature_long b e = elim (cases_lt (length b) 6) [
  | inl short ↦ let s = short_prefix b short in absurd cc
  | inr long ↦ long
]

pub version_long : (b : List ℕ) (n : ℕ) → prefix_at b ≡ Err (Version n) → 6 ≤ length b
version_long b n e = elim (cases_lt (length b) 6) [
  | inl short ↦ let s = short_prefix b short in absurd cc
  | inr long ↦ long
]

more_six : (a b c d e f : ℕ) (rest z : List ℕ) (p : Prefix) → prefix_at (a ∷ b ∷ c ∷ d ∷ e ∷ f ∷ rest) ≡ Ok p → prefix_at ((a ∷ b ∷ c ∷ d ∷ e ∷ f ∷ rest) ++ z) ≡ Ok p
unfolding prefix_at
more_six a b c d e f rest z p h =
    let x : List ℕ = a ∷ b ∷ c ∷ d ∷ e ∷ f ∷ rest in
    let s = checked-passed (prefix_tests x) (prefix_fields x) p h in
    let place = messages_place (header_flags x) in
    let inside : place ≤ length x = leb-true place (length x) s.0.1.1.1.0 in
    let long : length (x ++ z) ≡ length x + length z = length-append x z in
    let six : 6 ≤ length x = leb-true 6 (length x) s.0.0 in
    let size = field-append-left x z (size_place (header_flags x)) (size_width (header_flags x)) inside in
    checked-ok (prefix_tests (x ++ z)) (prefix_fields (x ++ z))
    (le-leb 6 (length (x ++ z)) (omega arith), (s.0.1.0, (s.0.1.1.0, (le-leb place (length (x ++ z)) (omega arith), tt))))
    ∙ ap (λ (n : ℕ). Ok (record { total = min (place + n + 4) (2 ^ 64 - 1); at = place; len = n; tracked = (prefix_fields x).tracked })) size
    ∙ ap (λ (q : Prefix). Ok q) s.1

-- what stands before the messages is the same, whatever follows
pub prefix_more : (b z : List ℕ) (p : Prefix) → prefix_at b ≡ Ok p → prefix_at (b ++ z) ≡ Ok p
prefix_more (a ∷ b ∷ c ∷ d ∷ e ∷ f ∷ rest) z p h = more_six a b c d e f rest z p h
prefix_more [] z p h = let s = short_prefix [] (omega arith) in absurd cc
prefix_more (a ∷ []) z p h = let s = short_prefix (a ∷ []) (omega arith) in absurd cc
prefix_more (a ∷ b ∷ []) z p h = let s = short_prefix (a ∷ b ∷ []) (omega arith) in absurd cc
prefix_more (a ∷ b ∷ c ∷ []) z p h = let s = short_prefix (a ∷ b ∷ c ∷ []) (omega arith) in absurd cc
prefix_more (a ∷ b ∷ c ∷ d ∷ []) z p h = let s = short_prefix (a ∷ b ∷ c ∷ d ∷ []) (omega arith) in absurd cc
prefix_more (a ∷ b ∷ c ∷ d ∷ e ∷ []) z p h = let s = short_prefix (a ∷ b ∷ c ∷ d ∷ e ∷ []) (omega arith) in absurd cc

pub zeros_are : (n : ℕ) → zeros n ≡ replicate n 0
zeros_are zero = refl
zeros_are (suc n) = ap (λ (xs : List ℕ). 0 ∷ xs) (zeros_are n)

pub front_short : (b : List ℕ) → 6 ≤ length b → length (take 5 b ++ 0 ∷ []) ≤ length b
front_short b long =
    let a : length (take 5 b ++ 0 ∷ []) ≡ length (take 5 b) + 1 = length-append (take 5 b) (0 ∷ []) in
    let t : length (take 5 b) ≡ min 5 (length b) = length-take 5 b in
    omega arith
