-- The ranges by place, and what they come to.
use Rattle.std.proofs.Common.{◌++◌, take, ◌≡◌, ℕ, suc, ◌+◌, ◌<◌, ◌≤◌, ◌⊎◌, Bool, true, false, cond, not, List, [], ◌∷◌, length, map, get_or, refl, sym, ◌∙◌, ap, subst, arith, inl, inr}
use Rattle.std.specs.Prelude.{◌==◌, nat_le, count_by, sum_by, filter}
use Rattle.std.specs.Ordering.{is_lt, nat_cmp}
use Rattle.std.specs.List.Sorted.{IsNonDecreasingBy, ties}
use Rattle.std.proofs.lemmas.List.{append-nil, append_assoc, take_all, take_more}
use Rattle.std.proofs.lemmas.List.Sums.{sum_by-cons}
use Rattle.std.proofs.lemmas.Bool.{cases_Bool, eqb-true, eqb-false, cases_lt, lt-ltb, le-ltb, le-leb, lt-leb, eq-eqb, ne_eqb}
use Rattle.h5w_model.specs.Findings.{Used, put_by_place, by_place}
use Rattle.h5w_check.specs.Ranges.{used_of}
use Rattle.h5w_check.specs.Verdicts.{AllBelow, AreRuns, HaveSameOrder}
use Rattle.h5w_check.specs.declared.ranges.Range.{Range}

-- ---- Counts and sums

sum_held : (f : Used → ℕ) (rs : List Range) → sum_by f (map used_of rs) ≡ sum_by (λ (r : Range). f (used_of r)) rs
sum_held f [] = refl
sum_held f (r ∷ rs) = sum_by-cons f (used_of r) (map used_of rs) ∙ ap (λ n. f (used_of r) + n) (sum_held f rs) ∙ sym (sum_by-cons (λ (q : Range). f (used_of q)) r rs)

pub chunks_held : (rs : List Range) → count_by (λ (u : Used). u.chunk) (map used_of rs) ≡ count_by (λ (r : Range). r.chunk) rs
chunks_held rs = sum_held (λ (u : Used). cond u.chunk 1 0) rs

pub blocks_held : (rs : List Range) → count_by (λ (u : Used). not u.chunk) (map used_of rs) ≡ count_by (λ (r : Range). not r.chunk) rs
blocks_held rs = sum_held (λ (u : Used). cond (not u.chunk) 1 0) rs

-- ---- By place

pub at_place : ℕ → Range → Bool
at_place k r = r.place == k

put : Range → List Range → List Range
put r [] = r ∷ []
put r (q ∷ qs) = cond (nat_le r.place q.place) (r ∷ q ∷ qs) (q ∷ put r qs)

placed : List Range → List Range
placed [] = []
placed (r ∷ rs) = put r (placed rs)

put_held : (r : Range) (qs : List Range) → map used_of (put r qs) ≡ put_by_place (used_of r) (map used_of qs)
unfolding put
put_held r [] = refl
put_held r (q ∷ qs) = elim (nat_le r.place q.place) as (λ c. map used_of (cond c (r ∷ q ∷ qs) (q ∷ put r qs)) ≡ cond c (used_of r ∷ used_of q ∷ map used_of qs) (used_of q ∷ put_by_place (used_of r) (map used_of qs))) [
  | true ↦ refl
  | false ↦ ap (λ us. used_of q ∷ us) (put_held r qs)
]

placed_held : (rs : List Range) → map used_of (placed rs) ≡ by_place (map used_of rs)
unfolding placed
placed_held [] = refl
placed_held (r ∷ rs) = put_held r (placed rs) ∙ ap (put_by_place (used_of r)) (placed_held rs)

-- from a place on
abbrev AllFrom : ℕ → List Range → Type 0
AllFrom k [] = Unit {0}
AllFrom k (r ∷ rs) = (k ≤ r.place) × AllFrom k rs

abbrev InOrder : List Range → Type 0
InOrder [] = Unit {0}
InOrder (r ∷ rs) = AllFrom r.place rs × InOrder rs

from_lower : (j k : ℕ) (rs : List Range) → j ≤ k → AllFrom k rs → AllFrom j rs
from_lower j k [] low h = tt
from_lower j k (r ∷ rs) low h = (let a = h.0 in omega arith, from_lower j k rs low h.1)

put_from : (k : ℕ) (r : Range) (qs : List Range) → k ≤ r.place → AllFrom k qs → AllFrom k (put r qs)
unfolding put
put_from k r [] low h = (low, tt)
put_from k r (q ∷ qs) low h = elim (nat_le r.place q.place) as (λ c. AllFrom k (cond c (r ∷ q ∷ qs) (q ∷ put r qs))) [
  | true ↦ (low, h)
  | false ↦ (h.0, put_from k r qs low h.1)
]

put_order : (r : Range) (qs : List Range) → InOrder qs → InOrder (put r qs)
unfolding put
put_order r [] h = (tt, tt)
put_order r (q ∷ qs) h = elim (cases_lt q.place r.place) [
  | inl behind ↦ subst (λ c. InOrder (cond c (r ∷ q ∷ qs) (q ∷ put r qs))) (sym (lt-leb r.place q.place behind)) (put_from q.place r qs (omega arith) h.0, put_order r qs h.1)
  | inr before ↦ subst (λ c. InOrder (cond c (r ∷ q ∷ qs) (q ∷ put r qs))) (sym (le-leb r.place q.place before)) ((before, from_lower r.place q.place qs before h.0), h)
]

placed_order : (rs : List Range) → InOrder (placed rs)
unfolding placed
placed_order [] = tt
placed_order (r ∷ rs) = put_order r (placed rs) (placed_order rs)

-- those of one place keep their order
put_ties : (k : ℕ) (r : Range) (qs : List Range) → filter (at_place k) (put r qs) ≡ filter (at_place k) (r ∷ qs)
unfolding put at_place
put_ties k r [] = refl
put_ties k r (q ∷ qs) = elim (cases_lt q.place r.place) [
  | inr before ↦ ap (λ c. filter (at_place k) (cond c (r ∷ q ∷ qs) (q ∷ put r qs))) (le-leb r.place q.place before)
  | inl behind ↦
      ap (λ c. filter (at_place k) (cond c (r ∷ q ∷ qs) (q ∷ put r qs))) (lt-leb r.place q.place behind)
      ∙ ap (λ xs. cond (q.place == k) (q ∷ xs) xs) (put_ties k r qs)
      ∙ apart behind (cases_lt q.place k)
]
  where
    none : List Range
    none = filter (at_place k) qs

    apart : q.place < r.place → (q.place < k) ⊎ (k ≤ q.place) → cond (q.place == k) (q ∷ cond (r.place == k) (r ∷ none) none) (cond (r.place == k) (r ∷ none) none) ≡ cond (r.place == k) (r ∷ cond (q.place == k) (q ∷ none) none) (cond (q.place == k) (q ∷ none) none)
    apart behind (inl low) = let e : (q.place == k) ≡ false = ne_eqb q.place k (λ h. absurd (omega arith)) in rw e refl
    apart behind (inr high) = let e : (r.place == k) ≡ false = ne_eqb r.place k (λ h. absurd (omega arith)) in rw e refl

placed_ties : (k : ℕ) (rs : List Range) → filter (at_place k) (placed rs) ≡ filter (at_place k) rs
unfolding placed at_place
placed_ties k [] = refl
placed_ties k (r ∷ rs) = put_ties k r (placed rs) ∙ ap (λ xs. cond (r.place == k) (r ∷ xs) xs) (placed_ties k rs)

none_at : (k : ℕ) (rs : List Range) → AllFrom (k + 1) rs → filter (at_place k) rs ≡ []
unfolding at_place
none_at k [] h = refl
none_at k (r ∷ rs) h = let a = h.0 in let e : (r.place == k) ≡ false = ne_eqb r.place k (λ s. absurd (omega arith)) in rw e (none_at k rs h.1)

here_at : (r : Range) (rs : List Range) → filter (at_place r.place) (r ∷ rs) ≡ r ∷ filter (at_place r.place) rs
unfolding at_place
here_at r rs = ap (λ c. cond c (r ∷ filter (at_place r.place) rs) (filter (at_place r.place) rs)) (eq-eqb r.place r.place refl)

head_is : (a b : Range) (xs ys : List Range) → a ∷ xs ≡ b ∷ ys → a ≡ b
head_is a b xs ys e = cc

tail_is : (a b : Range) (xs ys : List Range) → a ∷ xs ≡ b ∷ ys → xs ≡ ys
tail_is a b xs ys e = cc

drop_head : (k : ℕ) (a : Range) (xs ys : List Range) → filter (at_place k) (a ∷ xs) ≡ filter (at_place k) (a ∷ ys) → filter (at_place k) xs ≡ filter (at_place k) ys
unfolding at_place
drop_head k a xs ys e = by (a.place == k) e
  where
    by : (c : Bool) → cond c (a ∷ filter (at_place k) xs) (filter (at_place k) xs) ≡ cond c (a ∷ filter (at_place k) ys) (filter (at_place k) ys) → filter (at_place k) xs ≡ filter (at_place k) ys
    by true h = tail_is a a (filter (at_place k) xs) (filter (at_place k) ys) h
    by false h = h

-- two lists in order that have the same at each place are the same
one_order : (xs ys : List Range) → InOrder xs → InOrder ys → ((k : ℕ) → filter (at_place k) xs ≡ filter (at_place k) ys) → xs ≡ ys
one_order [] [] p q same = refl
one_order [] (y ∷ ys) p q same = let e = same y.place ∙ here_at y ys in absurd cc
one_order (x ∷ xs) [] p q same = let e = sym (same x.place) ∙ here_at x xs in absurd cc
one_order (x ∷ xs) (y ∷ ys) p q same = go (one_order xs ys p.1 q.1) (cases_lt x.place y.place) (cases_lt y.place x.place)
  where
    go : (((k : ℕ) → filter (at_place k) xs ≡ filter (at_place k) ys) → xs ≡ ys) → (x.place < y.place) ⊎ (y.place ≤ x.place) → (y.place < x.place) ⊎ (x.place ≤ y.place) → x ∷ xs ≡ y ∷ ys
    go tail (inl low) h =
        let none : filter (at_place x.place) (y ∷ ys) ≡ [] = none_at x.place (y ∷ ys) (omega arith, from_lower (x.place + 1) y.place ys (omega arith) q.0) in
        let e = sym none ∙ sym (same x.place) ∙ here_at x xs in absurd cc
    go tail (inr h) (inl low) =
        let none : filter (at_place y.place) (x ∷ xs) ≡ [] = none_at y.place (x ∷ xs) (omega arith, from_lower (y.place + 1) x.place xs (omega arith) p.0) in
        let e = sym none ∙ same y.place ∙ here_at y ys in absurd cc
    go tail (inr h) (inr g) =
        let at : y.place ≡ x.place = omega arith in
        let both : x ∷ filter (at_place x.place) xs ≡ y ∷ filter (at_place y.place) ys = sym (here_at x xs) ∙ same x.place ∙ ap (λ k. filter (at_place k) (y ∷ ys)) (sym at) ∙ here_at y ys in
        let e : x ≡ y = head_is x y (filter (at_place x.place) xs) (filter (at_place y.place) ys) both in
        let rest : (k : ℕ) → filter (at_place k) xs ≡ filter (at_place k) ys = λ k. drop_head k x xs ys (same k ∙ ap (λ z. filter (at_place k) (z ∷ ys)) (sym e)) in
        ap (λ z. z ∷ xs) e ∙ ap (λ zs. y ∷ zs) (tail rest)

-- ---- After the sort

from_index : (k : ℕ) (rs : List Range) → ((j : ℕ) (d : Range) → j < length rs → k ≤ (get_or rs j d).place) → AllFrom k rs
from_index k [] h = tt
from_index k (r ∷ rs) h = (h 0 r (omega arith), from_index k rs (λ j d i. h (suc j) d (omega arith)))

order_from : (rs : List Range) → IsNonDecreasingBy (λ (r : Range). r.place) rs → InOrder rs
order_from [] h = tt
order_from (r ∷ rs) h = (from_index r.place rs (λ j d i. h 0 (suc j) d (omega arith) (omega arith)), order_from rs (λ i j d low high. h (suc i) (suc j) d (omega arith) (omega arith)))

tie_is : (x y : Range) → ties (λ (a b : Range). is_lt (nat_cmp a.place b.place)) x y ≡ at_place x.place y
unfolding at_place
tie_is x y = go (cases_lt x.place y.place) (cases_lt y.place x.place)
  where
    go : (x.place < y.place) ⊎ (y.place ≤ x.place) → (y.place < x.place) ⊎ (x.place ≤ y.place) → ties (λ (a b : Range). is_lt (nat_cmp a.place b.place)) x y ≡ (y.place == x.place)
    go (inl low) h = let e : (y.place == x.place) ≡ false = ne_eqb y.place x.place (λ s. absurd (omega arith)) in rw (lt-ltb x.place y.place low, e) refl
    go (inr h) (inl low) =
        let e : (y.place == x.place) ≡ false = ne_eqb y.place x.place (λ s. absurd (omega arith)) in
        let f : (x.place == y.place) ≡ false = ne_eqb x.place y.place (λ s. absurd (omega arith)) in
        rw (le-ltb x.place y.place h, f, lt-ltb y.place x.place low, e) refl
    go (inr h) (inr g) =
        let s : y.place ≡ x.place = omega arith in
        let t : x.place ≡ y.place = omega arith in
        rw (le-ltb x.place y.place h, eq-eqb x.place y.place t, le-ltb y.place x.place g, eq-eqb y.place x.place s) refl

at_range : ℕ → Range
at_range k = record { place = k; len = 0; chunk = false }

pub sorted_is : (rs ys : List Range) → IsNonDecreasingBy (λ (r : Range). r.place) ys
    → ((x : Range) → filter (ties (λ (a b : Range). is_lt (nat_cmp a.place b.place)) x) ys ≡ filter (ties (λ (a b : Range). is_lt (nat_cmp a.place b.place)) x) rs)
    → map used_of ys ≡ by_place (map used_of rs)
unfolding at_range
sorted_is rs ys up stable =
    let same : (k : ℕ) → filter (at_place k) ys ≡ filter (at_place k) (placed rs) = λ k.
    ap (λ (f : Range → Bool). filter f ys) (sym (λ i y. tie_is (at_range k) y i)) ∙ stable (at_range k) ∙ ap (λ (f : Range → Bool). filter f rs) (λ i y. tie_is (at_range k) y i) ∙ sym (placed_ties k rs) in
    ap (map used_of) (one_order ys (placed rs) (order_from ys up) (placed_order rs) same) ∙ placed_held rs

-- ---- In two runs

-- the order of a place, as it is said
same_order : (rs qs : List Range) → HaveSameOrder rs qs → (k : ℕ) → filter (at_place k) rs ≡ filter (at_place k) qs
unfolding at_place
same_order rs qs h k = h k

pub one_by_place : (rs qs : List Range) → HaveSameOrder rs qs → by_place (map used_of rs) ≡ by_place (map used_of qs)
one_by_place rs qs h =
    sym (placed_held rs)
    ∙ ap (map used_of) (one_order (placed rs) (placed qs) (placed_order rs) (placed_order qs) (λ k. placed_ties k rs ∙ same_order rs qs h k ∙ sym (placed_ties k qs)))
    ∙ placed_held qs

pub below_push : (top : ℕ) (rs : List Range) (r : Range) → AllBelow top rs → r.place < top → AllBelow top (rs ++ r ∷ [])
below_push top [] r h low = (low, tt)
below_push top (q ∷ qs) r h low = (h.0, below_push top qs r h.1 low)

pub below_raise : (top more : ℕ) (rs : List Range) → AllBelow top rs → top ≤ more → AllBelow more rs
below_raise top more [] h up = tt
below_raise top more (r ∷ rs) h up = (let a = h.0 in omega arith, below_raise top more rs h.1 up)

none_below : (k top : ℕ) (rs : List Range) → AllBelow top rs → top ≤ k → filter (at_place k) rs ≡ []
unfolding at_place
none_below k top [] h up = refl
none_below k top (r ∷ rs) h up = let a = h.0 in let e : (r.place == k) ≡ false = ne_eqb r.place k (λ s. absurd (omega arith)) in rw e (none_below k top rs h.1 up)

pub both_filters : (k : ℕ) (xs ys : List Range) → filter (at_place k) (xs ++ ys) ≡ filter (at_place k) xs ++ filter (at_place k) ys
unfolding at_place
both_filters k [] ys = refl
both_filters k (x ∷ xs) ys = by (x.place == k) (both_filters k xs ys)
  where
    by : (c : Bool) → filter (at_place k) (xs ++ ys) ≡ filter (at_place k) xs ++ filter (at_place k) ys
        → cond c (x ∷ filter (at_place k) (xs ++ ys)) (filter (at_place k) (xs ++ ys)) ≡ cond c (x ∷ filter (at_place k) xs) (filter (at_place k) xs) ++ filter (at_place k) ys
    by true e = ap (λ zs. x ∷ zs) e
    by false e = e

one_there : (k : ℕ) (r : Range) → (r.place ≡ k → ⊥) → filter (at_place k) (r ∷ []) ≡ []
unfolding at_place
one_there k r h = ap (λ c. cond c (r ∷ []) []) (ne_eqb r.place k h)

-- one more range in the first run
pub first_run : (k top : ℕ) (low high done : List Range) (r : Range) → AllBelow top high → top ≤ r.place → filter (at_place k) low ++ filter (at_place k) high ≡ filter (at_place k) done
    → filter (at_place k) (low ++ r ∷ []) ++ filter (at_place k) high ≡ filter (at_place k) (done ++ r ∷ [])
first_run k top low high done r h up e = go (cases_Bool (r.place == k))
  where
    go : ((r.place == k) ≡ true) ⊎ ((r.place == k) ≡ false) → filter (at_place k) (low ++ r ∷ []) ++ filter (at_place k) high ≡ filter (at_place k) (done ++ r ∷ [])
    go (inl here) =
        let is : r.place ≡ k = eqb-true r.place k here in
        let none : filter (at_place k) high ≡ [] = none_below k top high h (omega arith) in
        ap (λ xs. filter (at_place k) (low ++ r ∷ []) ++ xs) none ∙ append-nil (filter (at_place k) (low ++ r ∷ [])) ∙ both_filters k low (r ∷ [])
        ∙ ap (λ xs. xs ++ filter (at_place k) (r ∷ [])) (sym (append-nil (filter (at_place k) low)) ∙ ap (λ xs. filter (at_place k) low ++ xs) (sym none) ∙ e) ∙ sym (both_filters k done (r ∷ []))
    go (inr other) =
        let gone : filter (at_place k) (r ∷ []) ≡ [] = one_there k r (eqb-false r.place k other) in
        ap (λ xs. xs ++ filter (at_place k) high) (both_filters k low (r ∷ []) ∙ ap (λ xs. filter (at_place k) low ++ xs) gone ∙ append-nil (filter (at_place k) low))
        ∙ e ∙ sym (both_filters k done (r ∷ []) ∙ ap (λ xs. filter (at_place k) done ++ xs) gone ∙ append-nil (filter (at_place k) done))

-- one more range behind it
pub second_run : (k : ℕ) (low high done : List Range) (r : Range) → filter (at_place k) low ++ filter (at_place k) high ≡ filter (at_place k) done
    → filter (at_place k) low ++ filter (at_place k) (high ++ r ∷ []) ≡ filter (at_place k) (done ++ r ∷ [])
second_run k low high done r e =
    ap (λ xs. filter (at_place k) low ++ xs) (both_filters k high (r ∷ []))
    ∙ sym (append_assoc (filter (at_place k) low) (filter (at_place k) high) (filter (at_place k) (r ∷ [])))
    ∙ ap (λ xs. xs ++ filter (at_place k) (r ∷ [])) e ∙ sym (both_filters k done (r ∷ []))

pub runs_none : AreRuns 0 [] [] []
runs_none = record { same = λ k. refl; below = tt }

pub runs_first : {top : ℕ} {done low high : List Range} (r : Range) → AreRuns top done low high → top ≤ r.place → AreRuns top (done ++ r ∷ []) (low ++ r ∷ []) high
unfolding at_place
runs_first {top} {done} {low} {high} r h up = record {
  same = λ k. first_run k top low high done r h.below up (h.same k);
  below = h.below;
}

pub runs_second : {top : ℕ} {done low high : List Range} (more : ℕ) (r : Range) → AreRuns top done low high → top ≤ more → r.place < more → AreRuns more (done ++ r ∷ []) low (high ++ r ∷ [])
unfolding at_place
runs_second {top} {done} {low} {high} more r h up below = record {
  same = λ k. second_run k low high done r (h.same k);
  below = below_push more high r (below_raise top more high h.below up) below;
}

pub runs_next : (top i : ℕ) (d : Range) (rs low high : List Range) → i < length rs → AreRuns top (take i rs ++ get_or rs i d ∷ []) low high → AreRuns top (take (i + 1) rs) low high
runs_next top i d rs low high h a = subst (λ xs. AreRuns top xs low high) (sym (take_more rs i d h)) a

pub runs_end : (top i : ℕ) (rs low high all : List Range) → length rs ≡ i → AreRuns top (take i rs) low high → all ≡ low ++ high → HaveSameOrder all rs
unfolding at_place
runs_end top i rs low high all h a e k =
    ap (filter (at_place k)) e ∙ both_filters k low high ∙ a.same k ∙ ap (filter (at_place k)) (take_all i rs (omega arith))
