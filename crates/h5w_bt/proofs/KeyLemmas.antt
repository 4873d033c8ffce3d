-- The order of keys.
use Rattle.std.proofs.Common.{◌≡◌, ◌<◌, ◌⊎◌, true, ◌&&◌, inl, inr, eqb, ltb, arith, false, refl, sym, subst}
use Rattle.std.proofs.lemmas.Bool.{lt-ltb, eq-eqb, or_left, or_right, and_from, ltb-true, eqb-true, or_cases, and_parts, false_from_ne_true, both_ways, cases_order}
use Rattle.h5w_model.specs.declared.cell.Key.{Key}
use Rattle.h5w_model.specs.Tables.{key_below, key_equal}

-- by dimension 0, then 1
abbrev pub Less : Key → Key → Type 0
Less a b = (a.i < b.i) ⊎ ((a.i ≡ b.i) × (a.j < b.j))

pub below_from : (a b : Key) → Less a b → key_below a b ≡ true
below_from a b (inl h) = or_left (ltb a.i b.i) (eqb a.i b.i && ltb a.j b.j) (lt-ltb a.i b.i h)
below_from a b (inr h) =
    or_right (ltb a.i b.i) (eqb a.i b.i && ltb a.j b.j) (and_from (eqb a.i b.i) (ltb a.j b.j) (eq-eqb a.i b.i (h.0)) (lt-ltb a.j b.j (h.1)))

pub below_is : (a b : Key) → key_below a b ≡ true → Less a b
below_is a b h = elim (or_cases (ltb a.i b.i) (eqb a.i b.i && ltb a.j b.j) h) [
  | inl l ↦ inl (ltb-true a.i b.i l)
  | inr r ↦ (let p = and_parts (eqb a.i b.i) (ltb a.j b.j) r in inr (eqb-true a.i b.i (p.0), ltb-true a.j b.j (p.1)))
]

pub less_trans : (a b c : Key) → Less a b → Less b c → Less a c
less_trans a b c (inl x) (inl y) = inl (omega arith)
less_trans a b c (inl x) (inr y) = inl (omega arith)
less_trans a b c (inr x) (inl y) = inl (omega arith)
less_trans a b c (inr x) (inr y) = inr (omega arith, omega arith)

pub less_not_back : (a b : Key) → Less a b → Less b a → ⊥
less_not_back a b (inl x) (inl y) = omega arith
less_not_back a b (inl x) (inr y) = omega arith
less_not_back a b (inr x) (inl y) = omega arith
less_not_back a b (inr x) (inr y) = omega arith

pub below-trans : (a b c : Key) → key_below a b ≡ true → key_below b c ≡ true → key_below a c ≡ true
below-trans a b c x y = below_from a c (less_trans a b c (below_is a b x) (below_is b c y))

pub below-not_back : (a b : Key) → key_below a b ≡ true → key_below b a ≡ false
below-not_back a b x = false_from_ne_true (key_below b a) (λ y. less_not_back a b (below_is a b x) (below_is b a y))

pub equal-is : (a b : Key) → key_equal a b ≡ true → a ≡ b
equal-is a b h =
    let p = and_parts (eqb a.i b.i) (eqb a.j b.j) h in
    let x : a.i ≡ b.i = eqb-true a.i b.i (p.0) in
    let y : a.j ≡ b.j = eqb-true a.j b.j (p.1) in
    λ k. record { i = x k; j = y k }

pub equal-self : (a : Key) → key_equal a a ≡ true
equal-self a = and_from (eqb a.i a.i) (eqb a.j a.j) (eq-eqb a.i a.i refl) (eq-eqb a.j a.j refl)

pub below-not_self : (a : Key) → key_below a a ≡ false
below-not_self a = false_from_ne_true (key_below a a) (λ y. less_not_back a a (below_is a a y) (below_is a a y))

pub below-not_equal : (a b : Key) → key_below a b ≡ true → key_equal a b ≡ false
below-not_equal a b x = false_from_ne_true (key_equal a b) (λ y.
    both_ways (key_below a a) (below-not_self a) (subst (λ (k : Key). key_below a k ≡ true) (sym (equal-is a b y)) x))

pub above-not_equal : (a b : Key) → key_below a b ≡ true → key_equal b a ≡ false
above-not_equal a b x = false_from_ne_true (key_equal b a) (λ y.
    both_ways (key_below a a) (below-not_self a) (subst (λ (k : Key). key_below a k ≡ true) (equal-is b a y) x))

-- one that is neither below nor the same is above
pub above-from : (a b : Key) → key_below a b ≡ false → key_equal a b ≡ false → key_below b a ≡ true
above-from a b x y = elim (cases_order a.i b.i) [
  | inr (inl lt) ↦ absurd (both_ways (key_below a b) x (below_from a b (inl lt)))
  | inr (inr gt) ↦ below_from b a (inl gt)
  | inl e ↦ elim (cases_order a.j b.j) [
    | inr (inl lt) ↦ absurd (both_ways (key_below a b) x (below_from a b (inr (e, lt))))
    | inr (inr gt) ↦ below_from b a (inr (sym e, gt))
    | inl f ↦ absurd (both_ways (key_equal a b) y (and_from (eqb a.i b.i) (eqb a.j b.j) (eq-eqb a.i b.i e) (eq-eqb a.j b.j f)))
  ]
]
