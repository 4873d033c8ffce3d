-- The blocks of a path, used one behind another, and used again.
use Rattle.std.proofs.Common.{◌≡◌, ℕ, zero, suc, ◌+◌, ◌-◌, ◌<◌, ◌≤◌, false, cond, List, [], ◌∷◌, ◌++◌, length, take, Some, refl, sym, ◌∙◌, ap, subst, arith}
use Rattle.std.specs.List.{AllByRecursion}
use Rattle.std.proofs.lemmas.Bool.{ne_eqb}
use Rattle.std.proofs.lemmas.List.{length-append, length-take, take_all}
use Rattle.h5w_model.specs.Programs.{Kept, is_of, kept_bytes, others, used}
use Rattle.h5w_lookup.specs.Spans.{walked, AreKept, Falls}
use Rattle.h5w_lookup.proofs.AheadLemmas.{IsApart, apart_others, apart_taken, apart_fewer, others_same, is_self}

-- ---- Blocks that are apart

-- a block, apart from all of these
abbrev IsFree : Kept → List Kept → Type 0
IsFree x ks = IsApart x.kind x.place x.len ks

abbrev AreFree : List Kept → List Kept → Type 0
AreFree xs ks = AllByRecursion (λ x. IsFree x ks) xs

abbrev use_of : Kept → List Kept → List Kept
use_of x ks = used 16 x.kind x.place x.len x.bytes ks

abbrev without : Kept → List Kept → List Kept
without x ks = others x.kind x.place x.len ks

abbrev AreAbove : ℕ → List Kept → Type 0
AreAbove m ks = AllByRecursion (λ k. m ≤ k.kind) ks

other_kind : (x k : Kept) → (k.kind ≡ x.kind → ⊥) → is_of x.kind x.place x.len k ≡ false
other_kind x k h = rw (ne_eqb k.kind x.kind h) refl

free_above : (x : Kept) (m : ℕ) (ks : List Kept) → x.kind < m → AreAbove m ks → IsFree x ks
free_above x m [] h a = tt
free_above x m (k ∷ ks) h a = (other_kind x k (λ e. let low = a.0 in omega arith), free_above x m ks h a.1)

free_falls : (x : Kept) (m : ℕ) (ks : List Kept) → m ≤ x.kind → Falls m ks → IsFree x ks
free_falls x m [] h f = tt
free_falls x m (k ∷ ks) h f = let low = f.0 in (other_kind x k (λ e. omega arith), free_falls x k.kind ks (omega arith) f.1)

above_less : (m n : ℕ) (ks : List Kept) → n ≤ m → AreAbove m ks → AreAbove n ks
above_less m n [] h a = tt
above_less m n (k ∷ ks) h a = (let low = a.0 in omega arith, above_less m n ks h a.1)

-- ---- Lists

-- these put before those, the first one last
abbrev onto : List Kept → List Kept → List Kept
onto [] ys = ys
onto (x ∷ xs) ys = onto xs (x ∷ ys)

length_onto : (xs ys : List Kept) → length (onto xs ys) ≡ length xs + length ys
length_onto [] ys = let z : length ys ≡ 0 + length ys = omega arith in z
length_onto (x ∷ xs) ys = let e = length_onto xs (x ∷ ys) in omega (arith, e)

without_front : (x : Kept) (ys zs : List Kept) → IsFree x ys → without x (ys ++ zs) ≡ ys ++ without x zs
without_front x [] zs h = refl
without_front x (y ∷ ys) zs h = rw h.0 (ap (λ (l : List Kept). y ∷ l) (without_front x ys zs h.1))

kept_front : (x : Kept) (ys zs : List Kept) → IsFree x ys → kept_bytes x.kind x.place x.len (ys ++ zs) ≡ kept_bytes x.kind x.place x.len zs
kept_front x [] zs h = refl
kept_front x (y ∷ ys) zs h = rw h.0 (kept_front x ys zs h.1)

without_other : (x y : Kept) (ys : List Kept) → is_of x.kind x.place x.len y ≡ false → without x (y ∷ ys) ≡ y ∷ without x ys
without_other x y ys h = rw h refl

kept_other : (x y : Kept) (ys : List Kept) → is_of x.kind x.place x.len y ≡ false → kept_bytes x.kind x.place x.len (y ∷ ys) ≡ kept_bytes x.kind x.place x.len ys
kept_other x y ys h = rw h refl

without_onto : (x : Kept) (xs ys : List Kept) → IsFree x xs → without x (onto xs ys) ≡ onto xs (without x ys)
without_onto x [] ys h = refl
without_onto x (y ∷ xs) ys h = without_onto x xs (y ∷ ys) h.1 ∙ ap (onto xs) (without_other x y ys h.0)

kept_onto : (x : Kept) (xs ys : List Kept) → IsFree x xs → kept_bytes x.kind x.place x.len (onto xs ys) ≡ kept_bytes x.kind x.place x.len ys
kept_onto x [] ys h = refl
kept_onto x (y ∷ xs) ys h = kept_onto x xs (y ∷ ys) h.1 ∙ kept_other x y ys h.0

take_front : (n : ℕ) (ys zs : List Kept) → length ys ≤ n → take n (ys ++ zs) ≡ ys ++ take (n - length ys) zs
take_front n [] zs h = let z : n ≡ n - 0 = omega arith in ap (λ m. take m zs) z
take_front zero (y ∷ ys) zs h = absurd (omega arith)
take_front (suc n) (y ∷ ys) zs h =
    let less : n - length ys ≡ suc n - suc (length ys) = omega arith in
    ap (λ (l : List Kept). y ∷ l) (take_front n ys zs (omega arith) ∙ ap (λ m. ys ++ take m zs) less)

-- ---- A path that is used

-- behind the blocks that were used before: the rest is apart from all of them
record IsTurned (xs acc old : List Kept) : Type 0 where
  rest : List Kept
  is : walked xs (acc ++ old) ≡ onto xs (acc ++ rest)
  free : AreFree xs rest
  free_before : AreFree acc rest
  few : length acc + length xs + length rest ≤ 16

free_less : (acc : List Kept) (x : Kept) (n : ℕ) (ks : List Kept) → AreFree acc ks → AreFree acc (take n (without x ks))
free_less [] x n ks h = tt
free_less (a ∷ acc) x n ks h =
    (apart_taken a.kind a.place a.len n (without x ks) (apart_fewer a.kind a.place a.len x.kind x.place x.len ks h.0), free_less acc x n ks h.1)

-- the use of a block behind those that were used before
use_front : (x : Kept) (acc old : List Kept) → IsFree x acc → length acc ≤ 15 → use_of x (acc ++ old) ≡ x ∷ acc ++ take (15 - length acc) (without x old)
use_front x acc old h few =
    ap (λ (l : List Kept). take 16 (x ∷ l)) (without_front x acc old h) ∙ ap (λ (l : List Kept). x ∷ l) (take_front 15 acc (without x old) few)

turned : (xs acc old : List Kept) (m : ℕ) → Falls m xs → AreAbove m acc → AreFree acc old → length acc + length xs ≤ 16 → length acc + length old ≤ 16 → IsTurned xs acc old
turned [] acc old m falls above free few inside = record { rest = old; is = refl; free = tt; free_before = free; few = omega arith }
turned (x ∷ xs) acc old m falls above free few inside =
    let room = 15 - length acc in
    let next = take room (without x old) in
    let apart = free_above x m acc falls.0 above in
    let own : IsFree x next = apart_taken x.kind x.place x.len room (without x old) (apart_others x.kind x.place x.len old) in
    let count = length-take room (without x old) in
    let low = falls.0 in
    let t = turned xs (x ∷ acc) next x.kind falls.1 (omega arith, above_less m x.kind acc (omega arith) above) (own, free_less acc x room old free) (omega arith) (omega (arith, count)) in
    let all = t.few in
    record {
      rest = t.rest;
      is = ap (walked xs) (use_front x acc old apart (omega arith)) ∙ t.is;
      free = (t.free_before.0, t.free);
      free_before = t.free_before.1;
      few = omega (arith, all);
    }

-- the path is used again
record IsAgain (xs ks left : List Kept) : Type 0 where
  kept : AreKept xs ks
  is : walked xs ks ≡ left

use_last : (x : Kept) (xs acc rest : List Kept) → IsFree x acc → IsFree x xs → IsFree x rest → length acc + suc (length xs) + length rest ≤ 16 → use_of x (acc ++ onto xs (x ∷ rest)) ≡ x ∷ acc ++ onto xs rest
use_last x xs acc rest h k l few =
    let own : without x (x ∷ rest) ≡ rest = ap (λ c. cond c (without x rest) (x ∷ without x rest)) (is_self x.kind x.place x.len x.bytes) ∙ others_same x.kind x.place x.len rest l in
    let count = length_onto xs rest in
    let both = length-append acc (onto xs rest) in
    ap (λ (ys : List Kept). take 16 (x ∷ ys)) (without_front x acc (onto xs (x ∷ rest)) h ∙ ap (λ (ys : List Kept). acc ++ ys) (without_onto x xs (x ∷ rest) k ∙ ap (onto xs) own))
    ∙ take_all 16 (x ∷ acc ++ onto xs rest) (omega (arith, count, both))

kept_last : (x : Kept) (xs acc rest : List Kept) → IsFree x acc → IsFree x xs → kept_bytes x.kind x.place x.len (acc ++ onto xs (x ∷ rest)) ≡ Some x.bytes
kept_last x xs acc rest h k =
    kept_front x acc (onto xs (x ∷ rest)) h ∙ kept_onto x xs (x ∷ rest) k ∙ ap (λ c. cond c (Some x.bytes) (kept_bytes x.kind x.place x.len rest)) (is_self x.kind x.place x.len x.bytes)

again : (xs acc rest : List Kept) (m : ℕ) → Falls m xs → AreAbove m acc → AreFree xs rest → length acc + length xs + length rest ≤ 16 → IsAgain xs (acc ++ onto xs rest) (onto xs (acc ++ rest))
again [] acc rest m falls above free few = record { kept = tt; is = refl }
again (x ∷ xs) acc rest m falls above free few =
    let low = falls.0 in
    let before = free_above x m acc falls.0 above in
    let behind = free_falls x x.kind xs (omega arith) falls.1 in
    let moves = use_last x xs acc rest before behind free.0 (omega arith) in
    let a = again xs (x ∷ acc) rest x.kind falls.1 (omega arith, above_less m x.kind acc (omega arith) above) free.1 (omega arith) in
    record {
      kept = (kept_last x xs acc rest before behind, subst (AreKept xs) (sym moves) a.kept);
      is = ap (walked xs) moves ∙ a.is;
    }

-- a path of falling kinds that was used is used again, and that changes nothing
pub record IsSettled (xs ks : List Kept) : Type 0 where
  pub kept : AreKept xs ks
  pub same : walked xs ks ≡ ks

pub settled : (xs ks : List Kept) (m : ℕ) → Falls m xs → length xs ≤ 16 → IsSettled xs (walked xs ks)
settled [] ks m falls few = record { kept = tt; same = refl }
settled (x ∷ xs) ks m falls few =
    let next = take 15 (without x ks) in
    let count = length-take 15 (without x ks) in
    let own : IsFree x next = apart_taken x.kind x.place x.len 15 (without x ks) (apart_others x.kind x.place x.len ks) in
    let t = turned xs (x ∷ []) next x.kind falls.1 (omega arith, tt) (own, tt) (omega arith) (omega (arith, count)) in
    let inside = t.few in
    let a = again (x ∷ xs) [] t.rest m falls tt (t.free_before.0, t.free) (omega (arith, inside)) in
    let all : IsSettled (x ∷ xs) (onto (x ∷ xs) t.rest) = record { kept = a.kept; same = a.is } in
    subst (IsSettled (x ∷ xs)) (sym t.is) all
