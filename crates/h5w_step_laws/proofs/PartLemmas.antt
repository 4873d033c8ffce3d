-- Ranges that do not meet, and parts of them.
use Rattle.std.proofs.Common.{◌≡◌, ◌≢◌, ◌⊎◌, ℕ, ◌<◌, ◌≤◌, Bool, true, false, eqb, List, [], ◌∷◌, ◌++◌, refl, sym, ◌∙◌, ap, subst, inl, inr, arith, ◌+◌}
use Rattle.std.specs.Prelude.{◌==◌, if◌then◌else◌}
use Rattle.std.proofs.lemmas.Bool.{eq-eqb}
use Rattle.std.proofs.lemmas.Bool.Decides.{eqb_tells}
use Rattle.h5w_model.specs.Findings.{Used}
use Rattle.h5w_model.proofs.ImageLemmas.{Apart-sym}
use Rattle.h5w_step_laws.specs.Ranges.{Among, AllSome, AreApart, Disjoint}
use Rattle.h5w_step_laws.proofs.RangeLemmas.{among_left, among_right}
use Rattle.h5w_step_laws.specs.Counts.{count_at, DisjointPart}

pub apart_sym : (u v : Used) → AreApart u v → AreApart v u
apart_sym u v h = Apart-sym u.place u.len v.place v.len h

pub disjoint_some : (us : List Used) → Disjoint us → AllSome us
disjoint_some [] d u a = absurd a
disjoint_some (x ∷ us) d u (inl e) = subst (λ (y : Used). 0 < y.len) e d.0
disjoint_some (x ∷ us) d u (inr a) = disjoint_some us d.2 u a

-- two of the ranges that are not one do not meet
pub disjoint_two : (us : List Used) (u v : Used) → Disjoint us → Among u us → Among v us → u ≢ v → AreApart u v
disjoint_two [] u v d a b differ = absurd a
disjoint_two (x ∷ us) u v d (inl e) (inl f) differ = absurd (differ (sym e ∙ f))
disjoint_two (x ∷ us) u v d (inl e) (inr b) differ = subst (λ (y : Used). AreApart y v) e (d.1 v b)
disjoint_two (x ∷ us) u v d (inr a) (inl f) differ = apart_sym v u (subst (λ (y : Used). AreApart y u) f (d.1 u a))
disjoint_two (x ∷ us) u v d (inr a) (inr b) differ = disjoint_two us u v d.2 a b differ

-- one of the first ranges and one of the later ones do not meet
pub disjoint_apart : (us vs : List Used) (u v : Used) → Disjoint (us ++ vs) → Among u us → Among v vs → AreApart u v
disjoint_apart [] vs u v d a b = absurd a
disjoint_apart (x ∷ us) vs u v d (inl e) b = subst (λ (y : Used). AreApart y v) e (d.1 v (among_right v us vs b))
disjoint_apart (x ∷ us) vs u v d (inr a) b = disjoint_apart us vs u v d.2 a b

pub disjoint_right : (us vs : List Used) → Disjoint (us ++ vs) → Disjoint vs
disjoint_right [] vs d = d
disjoint_right (x ∷ us) vs d = disjoint_right us vs d.2

pub disjoint_left : (us vs : List Used) → Disjoint (us ++ vs) → Disjoint us
disjoint_left [] vs d = tt
disjoint_left (x ∷ us) vs d = (d.0, λ v a. d.1 v (among_left v us vs a), disjoint_left us vs d.2)

-- ---- Counting

abbrev pub one_if : Bool → ℕ
one_if b = if b then 1 else 0

pub counted_one : (u : Used) (p : ℕ) (us : List Used) → Among u us → u.place ≡ p → 1 ≤ count_at p us
counted_one u p [] a e = absurd a
counted_one u p (x ∷ us) (inl f) e =
    let here : one_if (x.place == p) ≡ 1 = ap one_if (eq-eqb x.place p (ap (λ (y : Used). y.place) f ∙ e)) in
    omega (arith, here)
counted_one u p (x ∷ us) (inr a) e = omega (arith, counted_one u p us a e)

pub counted_else : (p : ℕ) (x : Used) (us : List Used) → eqb x.place p ≡ false → count_at p (x ∷ us) ≡ count_at p us
counted_else p x us e =
    let none : one_if (x.place == p) ≡ 0 = ap one_if e in
    omega (arith, none)

-- of ranges that do not meet one none begins where it does
pub none_at : (u : Used) (us : List Used) → 0 < u.len → ((v : Used) → Among v us → AreApart u v) → AllSome us → count_at u.place us ≡ 0
none_at u [] some apart all = refl
none_at u (x ∷ us) some apart all = go (eqb_tells x.place u.place) (none_at u us some (λ v a. apart v (inr a)) (λ v a. all v (inr a)))
  where
    never : x.place ≡ u.place → AreApart u x → ⊥
    never e (inl h) = omega (arith, e, h, some)
    never e (inr h) = omega (arith, e, h, all x (inl refl))

    go : ((eqb x.place u.place ≡ true) × (x.place ≡ u.place)) ⊎ ((eqb x.place u.place ≡ false) × (x.place ≢ u.place)) → count_at u.place us ≡ 0 → count_at u.place (x ∷ us) ≡ 0
    go (inl t) later = absurd (never t.1 (apart x (inl refl)))
    go (inr t) later = counted_else u.place x us t.0 ∙ later

pub at_most_one : (p : ℕ) (us : List Used) → Disjoint us → count_at p us ≤ 1
at_most_one p [] d = omega arith
at_most_one p (x ∷ us) d = go (eqb_tells x.place p) (at_most_one p us d.2)
  where
    once : (b : Bool) → one_if b ≤ 1
    once true = omega arith
    once false = omega arith

    go : ((eqb x.place p ≡ true) × (x.place ≡ p)) ⊎ ((eqb x.place p ≡ false) × (x.place ≢ p)) → count_at p us ≤ 1 → count_at p (x ∷ us) ≤ 1
    go (inl t) later =
        let none : count_at p us ≡ 0 = subst (λ q. count_at q us ≡ 0) t.1 (none_at x us d.0 d.1 (disjoint_some us d.2)) in
        omega (arith, none, once (x.place == p))
    go (inr t) later = omega (arith, counted_else p x us t.0, later)

pub disjoint_part : DisjointPart
disjoint_part all [] d sub counts = tt
disjoint_part all (u ∷ us) d sub counts = (
  disjoint_some all d u (sub u (inl refl)),
  λ v a. apart v a (eqb_tells v.place u.place),
  disjoint_part all us d (λ v a. sub v (inr a)) (λ p. omega (arith, counts p)),
)
  where
    apart : (v : Used) → Among v us → ((eqb v.place u.place ≡ true) × (v.place ≡ u.place)) ⊎ ((eqb v.place u.place ≡ false) × (v.place ≢ u.place)) → AreApart u v
    apart v a (inl t) =
        let own : one_if (u.place == u.place) ≡ 1 = ap one_if (eq-eqb u.place u.place refl) in
        absurd (omega (arith, own, counted_one v u.place us a t.1, counts u.place, at_most_one u.place all d))
    apart v a (inr t) = disjoint_two all u v d (sub u (inl refl)) (sub v (inr a)) (λ e. t.1 (ap (λ (y : Used). y.place) (sym e)))

-- two lists count together
pub count_joined : (p : ℕ) (us vs : List Used) → count_at p (us ++ vs) ≡ count_at p us + count_at p vs
count_joined p [] vs = omega arith
count_joined p (u ∷ us) vs = omega (arith, count_joined p us vs)
