-- A number that is written over 8 bytes of a list.
use Rattle.std.proofs.Common.{◌≡◌, ◌⊎◌, ℕ, ◌+◌, ◌-◌, ◌^◌, ◌<◌, ◌≤◌, List, [], ◌++◌, length, get_or, take, drop, replicate, ap, sym, ◌∙◌, subst, inl, inr, arith, append-nil}
use Rattle.std.proofs.lemmas.Bool.{cases_lt}
use Rattle.std.proofs.lemmas.List.{ext_get_or, take-take, drop-drop, drop-take}
use Rattle.h5w_model.specs.Numbers.{num, le, range, field}
use Rattle.h5w_model.specs.Images.{apply}
use Rattle.h5w_model.specs.Headers.{with_number}
use Rattle.h5w_model.specs.declared.piece.Write.{Write}
use Rattle.h5w_model.proofs.NumberLemmas.{length-le, num-le}
use Rattle.h5w_model.proofs.ImageLemmas.{length-range, get_or-range, length-apply, get_or-apply_before, get_or-apply_in, get_or-apply_after, range-apply_missed, At-apply}

-- it is a write
abbrev pub number_at : ℕ → ℕ → Write
number_at q v = record { at = q; piece = le 8 v }

no_zeros : (n z : ℕ) → n ≡ 0 → replicate n z ≡ []
no_zeros n z e = ap (λ (k : ℕ). replicate k z) e

pub number_is : (b : List ℕ) (q v : ℕ) → q ≤ length b → apply (number_at q v) b ≡ with_number b q v
unfolding apply
number_is b q v h =
    ap (λ (z : List ℕ). ((take q b ++ z) ++ le 8 v) ++ drop (q + length (le 8 v)) b) (no_zeros (q - length b) 0 (omega arith))
    ∙ ap (λ (x : List ℕ). (x ++ le 8 v) ++ drop (q + length (le 8 v)) b) (append-nil (take q b))
    ∙ ap (λ (n : ℕ). (take q b ++ le 8 v) ++ drop (q + n) b) (length-le 8 v)

pub length_number : (b : List ℕ) (q v : ℕ) → q + 8 ≤ length b → length (with_number b q v) ≡ length b
length_number b q v h = ap length (sym (number_is b q v (omega arith))) ∙ length-apply (number_at q v) b ∙ omega (arith, length-le 8 v)

-- what stands beside it
pub number_beside : (b : List ℕ) (q v i n : ℕ) → q + 8 ≤ length b → i + n ≤ length b → (q + 8 ≤ i) ⊎ (i + n ≤ q) → range (with_number b q v) i n ≡ range b i n
number_beside b q v i n h fits apart =
    ap (λ (x : List ℕ). range x i n) (sym (number_is b q v (omega arith)))
    ∙ range-apply_missed (number_at q v) b i n (subst (λ (k : ℕ). (q + k ≤ i) ⊎ (i + n ≤ q)) (sym (length-le 8 v)) apart) fits

pub field_beside : (b : List ℕ) (q v i n : ℕ) → q + 8 ≤ length b → i + n ≤ length b → (q + 8 ≤ i) ⊎ (i + n ≤ q) → field (with_number b q v) i n ≡ field b i n
field_beside b q v i n h fits apart = ap num (number_beside b q v i n h fits apart)

-- it is read back
pub number_read : (b : List ℕ) (q v : ℕ) → q ≤ length b → v < 2 ^ 64 → field (with_number b q v) q 8 ≡ v
number_read b q v h fits =
    ap (λ (x : List ℕ). field x q 8) (sym (number_is b q v h))
    ∙ ap (λ (n : ℕ). field (apply (number_at q v) b) q n) (sym (length-le 8 v))
    ∙ ap num (At-apply (number_at q v) b)
    ∙ num-le 8 v fits

-- each byte
pub byte_beside : (b : List ℕ) (q v k : ℕ) → q ≤ length b → (q + 8 ≤ k) ⊎ (k < q) → get_or (with_number b q v) k 0 ≡ get_or b k 0
byte_beside b q v k h (inl after) = ap (λ (x : List ℕ). get_or x k 0) (sym (number_is b q v h)) ∙ get_or-apply_after (number_at q v) b k (omega (arith, length-le 8 v))
byte_beside b q v k h (inr before) = ap (λ (x : List ℕ). get_or x k 0) (sym (number_is b q v h)) ∙ get_or-apply_before (number_at q v) b k before

byte_in : (b : List ℕ) (q v j : ℕ) → q ≤ length b → j < 8 → get_or (with_number b q v) (q + j) 0 ≡ get_or (le 8 v) j 0
byte_in b q v j h low = ap (λ (x : List ℕ). get_or x (q + j) 0) (sym (number_is b q v h)) ∙ get_or-apply_in (number_at q v) b j (omega (arith, length-le 8 v))

-- a part with the number in it
pub number_inside : (b : List ℕ) (i n k v : ℕ) → i + n ≤ length b → k + 8 ≤ n → range (with_number b (i + k) v) i n ≡ with_number (range b i n) k v
number_inside b i n k v fits low =
    let c = range b i n in
    let new = with_number b (i + k) v in
    let l : length c ≡ n = length-range b i n ∙ omega arith in
    let l2 : length new ≡ length b = length_number b (i + k) v (omega arith) in
    let l3 : length (range new i n) ≡ n = length-range new i n ∙ omega arith in
    let l4 : length (with_number c k v) ≡ length c = length_number c k v (omega arith) in
    ext_get_or 0 (range new i n) (with_number c k v) (l3 ∙ sym l ∙ sym l4)
    (λ j lt.
    let short : j < n = omega arith in
    get_or-range new i n j short
    ∙ elim (cases_lt j k) [
      | inl before ↦
          byte_beside b (i + k) v (i + j) (omega arith) (inr (omega arith)) ∙ sym (get_or-range b i n j short) ∙ sym (byte_beside c k v j (omega arith) (inr before))
      | inr from ↦ elim (cases_lt j (k + 8)) [
        | inl in_it ↦
            let e : (i + k) + (j - k) ≡ i + j = omega arith in
            let f : k + (j - k) ≡ j = omega arith in
            ap (λ (x : ℕ). get_or new x 0) (sym e)
            ∙ byte_in b (i + k) v (j - k) (omega arith) (omega arith)
            ∙ sym (byte_in c k v (j - k) (omega arith) (omega arith))
            ∙ ap (λ (x : ℕ). get_or (with_number c k v) x 0) f
        | inr after ↦
            byte_beside b (i + k) v (i + j) (omega arith) (inl (omega arith)) ∙ sym (get_or-range b i n j short) ∙ sym (byte_beside c k v j (omega arith) (inl after))
      ]
    ])

-- a part of a part, and what is left behind its front
pub rest_of : (b : List ℕ) (place n k : ℕ) → k ≤ n → drop k (range b place n) ≡ range b (place + k) (n - k)
rest_of b place n k low =
    let whole : k + (n - k) ≡ n = omega (arith, low) in
    ap (λ m. drop k (take m (drop place b))) (sym whole)
    ∙ drop-take k (n - k) (drop place b)
    ∙ ap (λ (xs : List ℕ). take (n - k) xs) (drop-drop k place b)

pub part_of : (b : List ℕ) (place n k m : ℕ) → k + m ≤ n → range (range b place n) k m ≡ range b (place + k) m
part_of b place n k m low =
    ap (λ (xs : List ℕ). take m xs) (rest_of b place n k (omega arith)) ∙ take-take m (n - k) (drop (place + k) b) (omega arith)
