-- Ranges of which, of each two, the first by place ends before the other begins; and some of them.
use Rattle.std.proofs.Common.{◌≡◌, ◌⊎◌, ℕ, ◌+◌, ◌<◌, ◌≤◌, Bool, true, false, cond, List, [], ◌∷◌, ◌++◌, Some, None, refl, ◌∙◌, ap, subst, inl, inr, arith}
use Rattle.std.specs.Prelude.{nat_lt, nat_le, sum_by}
use Rattle.std.specs.List.{AllByRecursion}
use Rattle.std.proofs.lemmas.Bool.{cond-false, leb-true, leb-false, le-ltb, cases_lt}
use Rattle.std.proofs.lemmas.List.Sums.{sum_by-cons}
use Rattle.h5w_model.specs.Findings.{overlap, Used, put_by_place, by_place, first_overlap, overlap_of}
use Rattle.h5w_model.specs.Relations.{IsFit, AllFit}
use Rattle.h5w_laws.specs.Ranges.{AreApart, AllApart}
use Rattle.h5w_laws.specs.Several.{RangesFit}
use Rattle.h5w_laws.proofs.ApartLemmas.{all_as, all_put, all_taken, all_ordered, all_unordered, none_overlap}

-- none overlaps, in order of place
abbrev Free : List Used → Type 0
Free us = overlap_of us ≡ None

-- without the first one
rest_free : (u : Used) (us : List Used) → first_overlap u us ≡ None → Free us
rest_free u [] h = refl
rest_free u (v ∷ vs) h = go (nat_lt v.place (u.place + u.len)) h
  where
    go : (t : Bool) → cond t (Some (overlap v.place v.len u.place u.len)) (first_overlap v vs) ≡ None → first_overlap v vs ≡ None
    go true e = absurd cc
    go false e = e

-- with one more in front
first_free : (u : Used) (us : List Used) → AllByRecursion (λ (w : Used). u.place + u.len ≤ w.place) us → Free us → first_overlap u us ≡ None
first_free u [] b f = refl
first_free u (v ∷ vs) b f =
    cond-false (nat_lt v.place (u.place + u.len)) (Some (overlap v.place v.len u.place u.len)) (first_overlap v vs) (le-ltb v.place (u.place + u.len) b.0) ∙ f

fit_onward : (u w : Used) → u.place + u.len ≤ w.place → IsFit u w
fit_onward u w low = record { onward = λ h. low; back = λ h. omega (arith, low, h) }

fit_back : (u w : Used) → w.place < u.place → w.place + w.len ≤ u.place → IsFit u w
fit_back u w less low = record { onward = λ h. omega (arith, less, h); back = λ h. low }

taken_fit : (u : Used) (us : List Used) → Free (put_by_place u us) → AllByRecursion (IsFit u) us × Free us
taken_fit u [] h = (tt, refl)
taken_fit u (v ∷ vs) h = go (taken_fit u vs) (nat_le u.place v.place) refl h
  where
    go : (Free (put_by_place u vs) → AllByRecursion (IsFit u) vs × Free vs) → (t : Bool) → nat_le u.place v.place ≡ t
        → Free (cond t (u ∷ v ∷ vs) (v ∷ put_by_place u vs)) → AllByRecursion (IsFit u) (v ∷ vs) × Free (v ∷ vs)
    go rest true e f =
        let b = none_overlap u (v ∷ vs) f in
        (all_as (λ (w : Used). u.place + u.len ≤ w.place) (IsFit u) (v ∷ vs) (λ w low. fit_onward u w low) b.0, rest_free u (v ∷ vs) f)
    go rest false e f =
        let b = none_overlap v (put_by_place u vs) f in
        let ends = all_taken (λ (w : Used). v.place + v.len ≤ w.place) u vs b.0 in
        let more = rest (rest_free v (put_by_place u vs) f) in
        ((fit_back u v (leb-false u.place v.place e) ends.0, more.0), first_free v vs ends.1 more.1)

put_free : (u : Used) (us : List Used) → AllByRecursion (IsFit u) us → Free us → Free (put_by_place u us)
put_free u [] a f = refl
put_free u (v ∷ vs) a f = go (put_free u vs a.1 (rest_free v vs f)) (nat_le u.place v.place) refl
  where
    go : Free (put_by_place u vs) → (t : Bool) → nat_le u.place v.place ≡ t → Free (cond t (u ∷ v ∷ vs) (v ∷ put_by_place u vs))
    go rest true e =
        let fit : IsFit u v = a.0 in
        let low : u.place + u.len ≤ v.place = fit.onward (leb-true u.place v.place e) in
        cond-false (nat_lt v.place (u.place + u.len)) (Some (overlap v.place v.len u.place u.len)) (first_overlap v vs) (le-ltb v.place (u.place + u.len) low) ∙ f
    go rest false e =
        let fit : IsFit u v = a.0 in
        let low : v.place + v.len ≤ u.place = fit.back (leb-false u.place v.place e) in
        let b = none_overlap v vs f in
        first_free v (put_by_place u vs) (all_put (λ (w : Used). v.place + v.len ≤ w.place) u vs low b.0) rest

pub free_fit : (us : List Used) → overlap_of (by_place us) ≡ None → AllFit us
free_fit [] h = tt
free_fit (u ∷ us) h = let r = taken_fit u (by_place us) h in (all_unordered (IsFit u) us r.0, free_fit us r.1)

pub fit_free : (us : List Used) → AllFit us → overlap_of (by_place us) ≡ None
fit_free [] f = refl
fit_free (u ∷ us) f = put_free u (by_place us) (all_ordered (IsFit u) us f.0) (fit_free us f.1)

one_apart : (u v : Used) → IsFit u v → AreApart u v
one_apart u v f = go (cases_lt v.place u.place)
  where
    go : (v.place < u.place) ⊎ (u.place ≤ v.place) → AreApart u v
    go (inl h) = inr (f.back h)
    go (inr h) = inl (f.onward h)

fit_apart : (us : List Used) → AllFit us → AllApart us
fit_apart [] f = tt
fit_apart (u ∷ us) f = (all_as (IsFit u) (AreApart u) us (λ v g. one_apart u v g) f.0, fit_apart us f.1)

one_fit : (u v : Used) → 0 < v.len → AreApart u v → IsFit u v
one_fit u v some (inl low) = fit_onward u v low
one_fit u v some (inr low) = fit_back u v (omega (arith, low, some)) low

each_fit : (u : Used) (us : List Used) → AllByRecursion (λ (v : Used). 0 < v.len) us → AllByRecursion (AreApart u) us → AllByRecursion (IsFit u) us
each_fit u [] some a = tt
each_fit u (v ∷ vs) some a = (one_fit u v some.0 a.0, each_fit u vs some.1 a.1)

apart_fit : (us : List Used) → AllByRecursion (λ (u : Used). 0 < u.len) us → AllApart us → AllFit us
apart_fit [] some a = tt
apart_fit (u ∷ us) some a = (each_fit u us some.1 a.0, apart_fit us some.1 a.1)

pub ranges_fit : RangesFit
ranges_fit = record { free = λ us. (free_fit us, fit_free us); apart = fit_apart; fit = apart_fit }

-- ---- Some of the ranges

-- these are some of those, in their order
abbrev pub AreSomeOf : List Used → List Used → Type 0
AreSomeOf [] vs = Unit {0}
AreSomeOf (u ∷ us) [] = ⊥
AreSomeOf (u ∷ us) (v ∷ vs) = ((v ≡ u) × AreSomeOf us vs) ⊎ AreSomeOf (u ∷ us) vs

all_some : (P : Used → Type 0) (us vs : List Used) → AreSomeOf us vs → AllByRecursion P vs → AllByRecursion P us
all_some P [] vs s a = tt
all_some P (u ∷ us) [] s a = absurd s
all_some P (u ∷ us) (v ∷ vs) (inl e) a = (subst P e.0 a.0, all_some P us vs e.1 a.1)
all_some P (u ∷ us) (v ∷ vs) (inr e) a = all_some P (u ∷ us) vs e a.1

pub fit_some : (us vs : List Used) → AreSomeOf us vs → AllFit vs → AllFit us
fit_some [] vs s f = tt
fit_some (u ∷ us) [] s f = absurd s
fit_some (u ∷ us) (v ∷ vs) (inl e) f = (subst (λ (w : Used). AllByRecursion (IsFit w) us) e.0 (all_some (IsFit v) us vs e.1 f.0), fit_some us vs e.1 f.1)
fit_some (u ∷ us) (v ∷ vs) (inr e) f = fit_some (u ∷ us) vs e f.1

pub sum_some : (f : Used → ℕ) (us vs : List Used) → AreSomeOf us vs → sum_by f us ≤ sum_by f vs
sum_some f [] vs s = omega arith
sum_some f (u ∷ us) [] s = absurd s
sum_some f (u ∷ us) (v ∷ vs) (inl e) =
    let one = sum_by-cons f u us in
    let two = sum_by-cons f v vs in
    let same : f v ≡ f u = ap f e.0 in
    let rest = sum_some f us vs e.1 in
    omega (arith, one, two, same, rest)
sum_some f (u ∷ us) (v ∷ vs) (inr e) =
    let two = sum_by-cons f v vs in
    let rest = sum_some f (u ∷ us) vs e in
    omega (arith, two, rest)

pub some_behind : (ws us vs : List Used) → AreSomeOf us vs → AreSomeOf us (ws ++ vs)
some_behind [] us vs s = s
some_behind (w ∷ ws) [] vs s = tt
some_behind (w ∷ ws) (u ∷ us) vs s = inr (some_behind ws (u ∷ us) vs s)

pub some_front : (us vs : List Used) → AreSomeOf us (us ++ vs)
some_front [] vs = tt
some_front (u ∷ us) vs = inl (refl, some_front us vs)

pub some_joined : (ws us vs : List Used) → AreSomeOf us vs → AreSomeOf (ws ++ us) (ws ++ vs)
some_joined [] us vs s = s
some_joined (w ∷ ws) us vs s = inl (refl, some_joined ws us vs s)
