-- The chunks without a known address, and the table with the addresses that were found of them.
use Rattle.std.proofs.Common.{◌≡◌, ◌≢◌, ℕ, zero, suc, ◌+◌, ◌-◌, ◌<◌, ◌≤◌, true, false, cond, List, [], ◌∷◌, ◌++◌, length, take, drop, get_or, set, ◌⊎◌, inl, inr, refl, sym, ◌∙◌, ap, append-nil, arith}
use Rattle.std.specs.Prelude.{◌==◌, nat_lt}
use Rattle.std.proofs.lemmas.Bool.{cases_lt, cases_Bool, eq-eqb, ne_eqb, eqb-true, eqb-false, lt-ltb, le-ltb}
use Rattle.std.proofs.Math.Seq.{take-suc, take-length, take-append_seam}
use Rattle.std.proofs.lemmas.List.{length-append, length-take-le, length-drop, take_all, drop_all, take-append-drop}
use Rattle.h5w_model.specs.Numbers.{undefined}
use Rattle.h5w_lookup.specs.Unknown.{absent_from, unknown_at, with_found, put_in}
use Rattle.h5w_lookup.proofs.TableLemmas.{lt_suc}

pub cases_absent : (a : ℕ) → (a ≡ undefined) ⊎ (a ≢ undefined)
cases_absent a = elim (cases_Bool (a == undefined)) [ inl t ↦ inl (eqb-true a undefined t) | inr f ↦ inr (eqb-false a undefined f) ]

-- ---- Which are unknown

pub unknown_is : (t : List ℕ) (n : ℕ) → get_or t (unknown_at t n) undefined ≡ undefined
unknown_is [] n = refl
unknown_is (a ∷ t) zero = elim (cases_absent a) [ inl h ↦ rw (eq-eqb a undefined h) h | inr h ↦ rw (ne_eqb a undefined h) (unknown_is t zero) ]
unknown_is (a ∷ t) (suc n) = elim (cases_absent a) [ inl h ↦ rw (eq-eqb a undefined h) (unknown_is t n) | inr h ↦ rw (ne_eqb a undefined h) (unknown_is t (suc n)) ]

pub unknown_rises : (t : List ℕ) (n : ℕ) → unknown_at t n < unknown_at t (suc n)
unknown_rises [] n = omega arith
unknown_rises (a ∷ t) zero = elim (cases_absent a) [
  | inl h ↦ rw (eq-eqb a undefined h) (omega arith)
  | inr h ↦ rw (ne_eqb a undefined h) (omega (arith, unknown_rises t zero))
]
unknown_rises (a ∷ t) (suc n) = elim (cases_absent a) [
  | inl h ↦ rw (eq-eqb a undefined h) (omega (arith, unknown_rises t n))
  | inr h ↦ rw (ne_eqb a undefined h) (omega (arith, unknown_rises t (suc n)))
]

pub unknown_less : (t : List ℕ) (m n : ℕ) → m < n → unknown_at t m < unknown_at t n
unknown_less t m zero h = absurd (omega arith)
unknown_less t m (suc n) h = elim (cases_lt m n) [
  | inl less ↦ omega (arith, unknown_less t m n less, unknown_rises t n)
  | inr more ↦ let same : m ≡ n = omega arith in rw same (unknown_rises t n)
]

-- those before the first, and those between two of them, are known
pub known_first : (t : List ℕ) (i : ℕ) → i < unknown_at t 0 → get_or t i undefined ≢ undefined
known_first [] i h = absurd (omega arith)
known_first (a ∷ t) zero h = elim (cases_absent a) [
  | inl e ↦ let z = rw (eq-eqb a undefined e) at h in absurd (omega arith)
  | inr e ↦ e
]
known_first (a ∷ t) (suc i) h = elim (cases_absent a) [
  | inl e ↦ let z = rw (eq-eqb a undefined e) at h in absurd (omega arith)
  | inr e ↦ let z = rw (ne_eqb a undefined e) at h in known_first t i (omega arith)
]

pub known_between : (t : List ℕ) (n i : ℕ) → unknown_at t n < i → i < unknown_at t (suc n) → get_or t i undefined ≢ undefined
known_between [] n i h k = absurd (omega arith)
known_between (a ∷ t) n zero h k = absurd (omega arith)
known_between (a ∷ t) zero (suc i) h k = elim (cases_absent a) [
  | inl e ↦ let z = rw (eq-eqb a undefined e) at k in known_first t i (omega arith)
  | inr e ↦ let y = rw (ne_eqb a undefined e) at h in let z = rw (ne_eqb a undefined e) at k in known_between t zero i (omega arith) (omega arith)
]
known_between (a ∷ t) (suc n) (suc i) h k = elim (cases_absent a) [
  | inl e ↦ let y = rw (eq-eqb a undefined e) at h in let z = rw (eq-eqb a undefined e) at k in known_between t n i (omega arith) (omega arith)
  | inr e ↦ let y = rw (ne_eqb a undefined e) at h in let z = rw (ne_eqb a undefined e) at k in known_between t (suc n) i (omega arith) (omega arith)
]

-- ---- Their list

next_from : (i u : ℕ) → i + 1 + u ≡ i + suc u
next_from i u = omega arith

pub absent_is : (t : List ℕ) (i n : ℕ) → n < length (absent_from i t) → get_or (absent_from i t) n 0 ≡ i + unknown_at t n
absent_is [] i n h = absurd (omega arith)
absent_is (a ∷ t) i zero h = elim (cases_absent a) [
  | inl e ↦ rw (eq-eqb a undefined e) (omega arith)
  | inr e ↦ let k = rw (ne_eqb a undefined e) at h in rw (ne_eqb a undefined e) (absent_is t (i + 1) zero k ∙ next_from i (unknown_at t zero))
]
absent_is (a ∷ t) i (suc n) h = elim (cases_absent a) [
  | inl e ↦ let k = rw (eq-eqb a undefined e) at h in rw (eq-eqb a undefined e) (absent_is t (i + 1) n (omega arith) ∙ next_from i (unknown_at t n))
  | inr e ↦ let k = rw (ne_eqb a undefined e) at h in rw (ne_eqb a undefined e) (absent_is t (i + 1) (suc n) k ∙ next_from i (unknown_at t (suc n)))
]

pub absent_inside : (t : List ℕ) (i n : ℕ) → n < length (absent_from i t) → unknown_at t n < length t
absent_inside [] i n h = absurd (omega arith)
absent_inside (a ∷ t) i zero h = elim (cases_absent a) [
  | inl e ↦ rw (eq-eqb a undefined e) (omega arith)
  | inr e ↦ let k = rw (ne_eqb a undefined e) at h in let less = absent_inside t (i + 1) zero k in rw (ne_eqb a undefined e) (omega arith)
]
absent_inside (a ∷ t) i (suc n) h = elim (cases_absent a) [
  | inl e ↦ let k = rw (eq-eqb a undefined e) at h in let less = absent_inside t (i + 1) n (omega arith) in rw (eq-eqb a undefined e) (omega arith)
  | inr e ↦ let k = rw (ne_eqb a undefined e) at h in let less = absent_inside t (i + 1) (suc n) k in rw (ne_eqb a undefined e) (omega arith)
]

pub unknown_behind : (t : List ℕ) (i n : ℕ) → length (absent_from i t) ≤ n → unknown_at t n ≡ length t + (n - length (absent_from i t))
unknown_behind [] i n h = omega arith
unknown_behind (a ∷ t) i zero h = elim (cases_absent a) [
  | inl e ↦ let k = rw (eq-eqb a undefined e) at h in absurd (omega arith)
  | inr e ↦ let k = rw (ne_eqb a undefined e) at h in let rest = unknown_behind t (i + 1) zero k in rw (ne_eqb a undefined e) (omega arith)
]
unknown_behind (a ∷ t) i (suc n) h = elim (cases_absent a) [
  | inl e ↦ let k = rw (eq-eqb a undefined e) at h in let rest = unknown_behind t (i + 1) n (omega arith) in rw (eq-eqb a undefined e) (omega arith)
  | inr e ↦ let k = rw (ne_eqb a undefined e) at h in let rest = unknown_behind t (i + 1) (suc n) k in rw (ne_eqb a undefined e) (omega arith)
]

-- where all absent ones come before, all from there on are unknown
pub all_behind : (t : List ℕ) (n k : ℕ) → length (absent_from 0 t) ≤ n → unknown_at t (n + k) ≡ unknown_at t n + k
all_behind t n k h =
    let one = unknown_behind t 0 n h in
    let other = unknown_behind t 0 (n + k) (omega arith) in
    omega (arith, one, other)

-- ---- The table with what was found

pub length_found : (t xs : List ℕ) → length (with_found t xs) ≡ unknown_at t (length xs)
length_found [] xs = refl
length_found (a ∷ t) [] = elim (cases_absent a) [ inl h ↦ rw (eq-eqb a undefined h) refl | inr h ↦ rw (ne_eqb a undefined h) (ap suc (length_found t [])) ]
length_found (a ∷ t) (x ∷ xs) = elim (cases_absent a) [ inl h ↦ rw (eq-eqb a undefined h) (ap suc (length_found t xs)) | inr h ↦ rw (ne_eqb a undefined h) (ap suc (length_found t (x ∷ xs))) ]

-- where nothing was found
pub found_start : (t : List ℕ) (n : ℕ) → n ≤ unknown_at t 0 → take n (with_found t []) ≡ take n t
found_start [] n h = refl
found_start (a ∷ t) zero h = refl
found_start (a ∷ t) (suc n) h = elim (cases_absent a) [
  | inl e ↦ let k = rw (eq-eqb a undefined e) at h in absurd (omega arith)
  | inr e ↦ let k = rw (ne_eqb a undefined e) at h in rw (ne_eqb a undefined e) (ap (λ (ys : List ℕ). a ∷ ys) (found_start t n (omega arith)))
]

-- known addresses stay
pub found_keeps : (t xs : List ℕ) (i : ℕ) → get_or t i undefined ≢ undefined → i < length (with_found t xs) → get_or (with_found t xs) i undefined ≡ get_or t i undefined
found_keeps [] xs i there h = absurd (there refl)
found_keeps (a ∷ t) [] zero there h = rw (ne_eqb a undefined there) refl
found_keeps (a ∷ t) (x ∷ xs) zero there h = rw (ne_eqb a undefined there) refl
found_keeps (a ∷ t) [] (suc i) there h = elim (cases_absent a) [
  | inl e ↦ let k = rw (eq-eqb a undefined e) at h in absurd (omega arith)
  | inr e ↦ let k = rw (ne_eqb a undefined e) at h in rw (ne_eqb a undefined e) (found_keeps t [] i there (omega arith))
]
found_keeps (a ∷ t) (x ∷ xs) (suc i) there h = elim (cases_absent a) [
  | inl e ↦ let k = rw (eq-eqb a undefined e) at h in rw (eq-eqb a undefined e) (found_keeps t xs i there (omega arith))
  | inr e ↦ let k = rw (ne_eqb a undefined e) at h in rw (ne_eqb a undefined e) (found_keeps t (x ∷ xs) i there (omega arith))
]

-- one more stands behind those that were found before
pub found_next : (t xs : List ℕ) (a : ℕ) → take (suc (unknown_at t (length xs))) (with_found t (xs ++ a ∷ [])) ≡ with_found t xs ++ a ∷ []
found_next [] [] a = refl
found_next [] (x ∷ xs) a = ap (λ (ys : List ℕ). x ∷ ys) (found_next [] xs a)
found_next (b ∷ t) [] a = elim (cases_absent b) [
  | inl h ↦ rw (eq-eqb b undefined h) refl
  | inr h ↦ rw (ne_eqb b undefined h) (ap (λ (ys : List ℕ). b ∷ ys) (found_next t [] a))
]
found_next (b ∷ t) (x ∷ xs) a = elim (cases_absent b) [
  | inl h ↦ rw (eq-eqb b undefined h) (ap (λ (ys : List ℕ). x ∷ ys) (found_next t xs a))
  | inr h ↦ rw (ne_eqb b undefined h) (ap (λ (ys : List ℕ). b ∷ ys) (found_next t (x ∷ xs) a))
]

-- where as many were found as are absent, the others stand behind all
pub found_behind : (t xs ys : List ℕ) (i : ℕ) → length (absent_from i t) ≡ length xs → with_found t (xs ++ ys) ≡ with_found t xs ++ ys
found_behind [] xs ys i h = refl
found_behind (b ∷ t) [] [] i h = elim (cases_absent b) [
  | inl e ↦ let k = rw (eq-eqb b undefined e) at h in absurd (omega arith)
  | inr e ↦ let k = rw (ne_eqb b undefined e) at h in rw (ne_eqb b undefined e) (ap (λ (zs : List ℕ). b ∷ zs) (found_behind t [] [] (i + 1) k))
]
found_behind (b ∷ t) [] (y ∷ ys) i h = elim (cases_absent b) [
  | inl e ↦ let k = rw (eq-eqb b undefined e) at h in absurd (omega arith)
  | inr e ↦ let k = rw (ne_eqb b undefined e) at h in rw (ne_eqb b undefined e) (ap (λ (zs : List ℕ). b ∷ zs) (found_behind t [] (y ∷ ys) (i + 1) k))
]
found_behind (b ∷ t) (x ∷ xs) ys i h = elim (cases_absent b) [
  | inl e ↦ let k = rw (eq-eqb b undefined e) at h in rw (eq-eqb b undefined e) (ap (λ (zs : List ℕ). x ∷ zs) (found_behind t xs ys (i + 1) (omega arith)))
  | inr e ↦ let k = rw (ne_eqb b undefined e) at h in rw (ne_eqb b undefined e) (ap (λ (zs : List ℕ). b ∷ zs) (found_behind t (x ∷ xs) ys (i + 1) k))
]

-- ---- Put into the table

pub put_none : (t : List ℕ) → put_in t [] ≡ t
put_none [] = refl
put_none (a ∷ t) = elim (cases_absent a) [
  | inl h ↦ rw (eq-eqb a undefined h) refl
  | inr h ↦ rw (ne_eqb a undefined h) (ap (λ (ys : List ℕ). a ∷ ys) (put_none t))
]

pub put_next : (t xs : List ℕ) (a : ℕ) → unknown_at t (length xs) < length t → set (put_in t xs) (unknown_at t (length xs)) a ≡ put_in t (xs ++ a ∷ [])
put_next [] xs a h = absurd (omega arith)
put_next (b ∷ t) [] a h = elim (cases_absent b) [
  | inl e ↦ rw (eq-eqb b undefined e) (ap (λ (ys : List ℕ). a ∷ ys) (sym (put_none t)))
  | inr e ↦ let k = rw (ne_eqb b undefined e) at h in rw (ne_eqb b undefined e) (ap (λ (ys : List ℕ). b ∷ ys) (put_next t [] a (omega arith)))
]
put_next (b ∷ t) (x ∷ xs) a h = elim (cases_absent b) [
  | inl e ↦ let k = rw (eq-eqb b undefined e) at h in rw (eq-eqb b undefined e) (ap (λ (ys : List ℕ). x ∷ ys) (put_next t xs a (omega arith)))
  | inr e ↦ let k = rw (ne_eqb b undefined e) at h in rw (ne_eqb b undefined e) (ap (λ (ys : List ℕ). b ∷ ys) (put_next t (x ∷ xs) a (omega arith)))
]

-- each absent chunk has its place in it
put_index : (t absent found : List ℕ) (n : ℕ) → absent ≡ absent_from 0 t → n < length absent → n ≤ length found → get_or absent n 0 ≡ unknown_at t (length (take n found))
put_index t absent found n listed h k =
    let less : n < length (absent_from 0 t) = omega (arith, ap length listed) in
    ap (λ ks. get_or ks n 0) listed ∙ absent_is t 0 n less ∙ let z : 0 + unknown_at t n ≡ unknown_at t n = omega arith in z ∙ ap (unknown_at t) (sym (length-take-le n found k))

put_inside : (t absent found : List ℕ) (n : ℕ) → absent ≡ absent_from 0 t → n < length absent → n ≤ length found → unknown_at t (length (take n found)) < length t
put_inside t absent found n listed h k = rw (length-take-le n found k) (absent_inside t 0 n (omega (arith, ap length listed)))

pub put_room : (t absent found : List ℕ) (n : ℕ) → absent ≡ absent_from 0 t → n < length absent → n ≤ length found → get_or absent n 0 < length (put_in t (take n found))
put_room t absent found n listed h k =
    let xs = take n found in
    let inside = put_inside t absent found n listed h k in
    let at = put_index t absent found n listed h k in
    let both = length-append (with_found t xs) (drop (unknown_at t (length xs)) t) in
    let front = length_found t xs in
    let back = length-drop (unknown_at t (length xs)) t in
    omega (arith, inside, at, both, front, back)

pub put_step : (t absent found : List ℕ) (n : ℕ) → absent ≡ absent_from 0 t → n < length absent → n < length found → set (put_in t (take n found)) (get_or absent n 0) (get_or found n 0) ≡ put_in t (take (suc n) found)
put_step t absent found n listed h k =
    let a = get_or found n 0 in
    ap (λ i. set (put_in t (take n found)) i a) (put_index t absent found n listed h (omega arith))
    ∙ put_next t (take n found) a (put_inside t absent found n listed h (omega arith))
    ∙ ap (put_in t) (sym (take-suc found n 0 k))

-- where fewer were found, the table ends at the next
pub put_few : (t absent found : List ℕ) → absent ≡ absent_from 0 t → length found < length absent → take (get_or absent (length found) 0) (put_in t (take (length absent) found)) ≡ with_found t found
put_few t absent found listed h =
    let at : get_or absent (length found) 0 ≡ unknown_at t (length found) = put_index t absent found (length found) listed h (omega arith) ∙ ap (λ (xs : List ℕ). unknown_at t (length xs)) (take-length found) in
    ap (λ (xs : List ℕ). take (get_or absent (length found) 0) (put_in t xs)) (take_all (length absent) found (omega arith))
    ∙ ap (λ n. take n (put_in t found)) (at ∙ sym (length_found t found))
    ∙ take-append_seam (with_found t found) (drop (unknown_at t (length found)) t)

-- else the others stand behind it
pub put_all : (t absent found : List ℕ) → absent ≡ absent_from 0 t → length absent ≤ length found → put_in t (take (length absent) found) ++ drop (length absent) found ≡ with_found t found
put_all t absent found listed h =
    let n = length absent in
    let xs = take n found in
    let count : length xs ≡ n = length-take-le n found h in
    let whole : length (absent_from 0 t) ≡ length xs = omega (arith, ap length listed, count) in
    let behind = unknown_behind t 0 (length xs) (omega (arith, whole)) in
    let none : drop (unknown_at t (length xs)) t ≡ [] = drop_all (unknown_at t (length xs)) t (omega (arith, behind)) in
    ap (λ (ys : List ℕ). (with_found t xs ++ ys) ++ drop n found) none
    ∙ ap (λ (ys : List ℕ). ys ++ drop n found) (append-nil (with_found t xs))
    ∙ sym (found_behind t xs (drop n found) 0 whole)
    ∙ ap (with_found t) (take-append-drop n found)

-- ---- What is absent then

-- it is the next that is absent, and needed
abbrev pub one_absent : ℕ → ℕ → ℕ → ℕ → List ℕ
one_absent i u n a = cond (nat_lt u n) (cond (a == undefined) ((i + u) ∷ []) []) []

one_next : (i u n a : ℕ) → one_absent (i + 1) u n a ≡ one_absent i (suc u) (suc n) a
one_next i u n a = ap (λ c. let none : List ℕ = [] in cond c (cond (a == undefined) ((i + 1 + u) ∷ none) none) none) (sym (lt_suc u n)) ∙ ap (λ k. let none : List ℕ = [] in cond (nat_lt (suc u) (suc n)) (cond (a == undefined) (k ∷ none) none) none) (next_from i u)

-- of the first n
pub absent_known : (t : List ℕ) (i n : ℕ) → absent_from i (take n (with_found t [])) ≡ []
absent_known t i zero = refl
absent_known [] i (suc n) = refl
absent_known (a ∷ t) i (suc n) = elim (cases_absent a) [
  | inl h ↦ rw (eq-eqb a undefined h) refl
  | inr h ↦ rw (ne_eqb a undefined h) (rw (ne_eqb a undefined h) (absent_known t (i + 1) n))
]

absent_cons : (i x : ℕ) (xs ys zs : List ℕ) → absent_from (i + 1) xs ≡ absent_from (i + 1) ys ++ zs → absent_from i (x ∷ xs) ≡ absent_from i (x ∷ ys) ++ zs
absent_cons i x xs ys zs h = elim (cases_absent x) [
  | inl e ↦ rw (eq-eqb x undefined e) (ap (λ (ks : List ℕ). i ∷ ks) h)
  | inr e ↦ rw (ne_eqb x undefined e) h
]

first_absent : (i n a : ℕ) (t : List ℕ) → absent_from (i + 1) (take n (with_found t [])) ≡ [] → absent_from i (a ∷ take n (with_found t [])) ≡ one_absent i 0 (suc n) a
first_absent i n a t h =
    let first : i + 0 ≡ i = omega arith in
    rw (lt-ltb 0 (suc n) (omega arith)) (elim (cases_absent a) [
      | inl e ↦ rw (eq-eqb a undefined e) (ap (λ (ks : List ℕ). i ∷ ks) h ∙ ap (λ k. let ks : List ℕ = k ∷ [] in ks) (sym first))
      | inr e ↦ rw (ne_eqb a undefined e) h
    ])

absent_next : (t xs : List ℕ) (i n a : ℕ) → absent_from i (take n (with_found t (xs ++ a ∷ []))) ≡ absent_from i (take n (with_found t xs)) ++ one_absent i (unknown_at t (length xs)) n a
absent_next t xs i zero a = rw (le-ltb (unknown_at t (length xs)) 0 (omega arith)) refl
absent_next [] [] i (suc n) a = first_absent i n a [] (absent_known [] (i + 1) n)
absent_next [] (x ∷ xs) i (suc n) a =
    absent_cons i x (take n (with_found [] (xs ++ a ∷ []))) (take n (with_found [] xs)) (one_absent i (suc (length xs)) (suc n) a) (absent_next [] xs (i + 1) n a ∙ ap (λ ks. absent_from (i + 1) (take n xs) ++ ks) (one_next i (length xs) n a))
absent_next (b ∷ t) [] i (suc n) a = elim (cases_absent b) [
  | inl h ↦ rw (eq-eqb b undefined h) (first_absent i n a t (absent_known t (i + 1) n))
  | inr h ↦ rw (ne_eqb b undefined h) (absent_cons i b (take n (with_found t (a ∷ []))) (take n (with_found t [])) (one_absent i (suc (unknown_at t 0)) (suc n) a)
      (absent_next t [] (i + 1) n a ∙ ap (λ ks. absent_from (i + 1) (take n (with_found t [])) ++ ks) (one_next i (unknown_at t 0) n a)))
]
absent_next (b ∷ t) (x ∷ xs) i (suc n) a = elim (cases_absent b) [
  | inl h ↦ rw (eq-eqb b undefined h) (absent_cons i x (take n (with_found t (xs ++ a ∷ []))) (take n (with_found t xs)) (one_absent i (suc (unknown_at t (length xs))) (suc n) a)
      (absent_next t xs (i + 1) n a ∙ ap (λ ks. absent_from (i + 1) (take n (with_found t xs)) ++ ks) (one_next i (unknown_at t (length xs)) n a)))
  | inr h ↦ rw (ne_eqb b undefined h) (absent_cons i b (take n (with_found t (x ∷ xs ++ a ∷ []))) (take n (with_found t (x ∷ xs))) (one_absent i (suc (unknown_at t (suc (length xs)))) (suc n) a)
      (absent_next t (x ∷ xs) (i + 1) n a ∙ ap (λ ks. absent_from (i + 1) (take n (with_found t (x ∷ xs))) ++ ks) (one_next i (unknown_at t (suc (length xs))) n a)))
]

-- what the next address that was found makes of the list
pub absent_more : (t found : List ℕ) (m n : ℕ) → n < length found → absent_from 0 (take m (with_found t (take (suc n) found))) ≡ absent_from 0 (take m (with_found t (take n found))) ++ one_absent 0 (unknown_at t n) m (get_or found n undefined)
absent_more t found m n h =
    ap (λ (xs : List ℕ). absent_from 0 (take m (with_found t xs))) (take-suc found n undefined h)
    ∙ absent_next t (take n found) 0 m (get_or found n undefined)
    ∙ ap (λ k. absent_from 0 (take m (with_found t (take n found))) ++ one_absent 0 (unknown_at t k) m (get_or found n undefined)) (length-take-le n found (omega arith))

pub absent_there : (t found absent : List ℕ) (m n : ℕ) → n < length found → get_or found n undefined ≢ undefined → absent ≡ absent_from 0 (take m (with_found t (take n found))) → absent ≡ absent_from 0 (take m (with_found t (take (suc n) found)))
absent_there t found absent m n h there is =
    let none : one_absent 0 (unknown_at t n) m (get_or found n undefined) ≡ [] = rw (ne_eqb (get_or found n undefined) undefined there) (elim (nat_lt (unknown_at t n) m) as (λ c. let ks : List ℕ = cond c [] [] in ks ≡ []) [ true ↦ refl | false ↦ refl ]) in
    is ∙ sym (absent_more t found m n h ∙ ap (λ ks. absent_from 0 (take m (with_found t (take n found))) ++ ks) none ∙ append-nil (absent_from 0 (take m (with_found t (take n found)))))

pub absent_past : (t found absent : List ℕ) (m n : ℕ) → n < length found → m ≤ unknown_at t n → absent ≡ absent_from 0 (take m (with_found t (take n found))) → absent ≡ absent_from 0 (take m (with_found t (take (suc n) found)))
absent_past t found absent m n h past is =
    let none : one_absent 0 (unknown_at t n) m (get_or found n undefined) ≡ [] = rw (le-ltb (unknown_at t n) m past) refl in
    is ∙ sym (absent_more t found m n h ∙ ap (λ ks. absent_from 0 (take m (with_found t (take n found))) ++ ks) none ∙ append-nil (absent_from 0 (take m (with_found t (take n found)))))

pub absent_push : (t found absent : List ℕ) (m n number : ℕ) → n < length found → number ≡ unknown_at t n → number < m → get_or found n undefined ≡ undefined → absent ≡ absent_from 0 (take m (with_found t (take n found)))
    → absent ++ number ∷ [] ≡ absent_from 0 (take m (with_found t (take (suc n) found)))
absent_push t found absent m n number h is less none before =
    let near : unknown_at t n < m = omega arith in
    let zero_first : number ≡ 0 + unknown_at t n = omega arith in
    let one : number ∷ [] ≡ one_absent 0 (unknown_at t n) m (get_or found n undefined) = rw (lt-ltb (unknown_at t n) m near, eq-eqb (get_or found n undefined) undefined none) (ap (λ k. let ks : List ℕ = k ∷ [] in ks) zero_first) in
    ap (λ ks. ks ++ number ∷ []) before ∙ ap (λ ks. absent_from 0 (take m (with_found t (take n found))) ++ ks) one ∙ sym (absent_more t found m n h)
