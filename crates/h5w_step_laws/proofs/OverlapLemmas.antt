-- That no range meets another, by their places and pairwise.
use Rattle.std.proofs.Common.{◌≡◌, ◌⊎◌, ℕ, ◌+◌, ◌<◌, ◌≤◌, false, List, [], ◌∷◌, Option, Some, None, refl, ◌∙◌, subst, inl, inr, arith}
use Rattle.std.specs.Prelude.{nat_le, nat_lt, if◌then◌else◌}
use Rattle.std.proofs.lemmas.Bool.{cond_both, leb-true, ltb-false, ltb-true, le-ltb, cond-false, leb-false}
use Rattle.h5w_model.specs.Findings.{Used, Finding, overlap, put_by_place, by_place, first_overlap, overlap_of}
use Rattle.h5w_model.proofs.ImageLemmas.{Apart-sym}
use Rattle.h5w_step_laws.specs.Ranges.{Among, AllSome, AreApart, Disjoint, OverlapLaws}

-- where a range ends
abbrev pub end_of : Used → ℕ
end_of u = u.place + u.len

-- ---- A range put by its place is there, with the others

pub put_here : (u : Used) (us : List Used) → Among u (put_by_place u us)
put_here u [] = inl refl
put_here u (v ∷ vs) = cond_both (nat_le u.place v.place) (u ∷ v ∷ vs) (v ∷ put_by_place u vs) (λ (xs : List Used). Among u xs) (λ t. inl refl) (λ t. inr (put_here u vs))

pub put_others : (x u : Used) (us : List Used) → Among x us → Among x (put_by_place u us)
put_others x u [] h = absurd h
put_others x u (v ∷ vs) h =
    cond_both (nat_le u.place v.place) (u ∷ v ∷ vs) (v ∷ put_by_place u vs) (λ (xs : List Used). Among x xs) (λ t. inr h) (λ t. go (put_others x u vs) h)
  where
    go : (Among x vs → Among x (put_by_place u vs)) → (v ≡ x) ⊎ Among x vs → (v ≡ x) ⊎ Among x (put_by_place u vs)
    go later (inl e) = inl e
    go later (inr a) = inr (later a)

-- and nothing else
pub put_back : (x u : Used) (us : List Used) → Among x (put_by_place u us) → (u ≡ x) ⊎ Among x us
put_back x u [] (inl e) = inl e
put_back x u [] (inr h) = absurd h
put_back x u (v ∷ vs) h =
    cond_both (nat_le u.place v.place) (u ∷ v ∷ vs) (v ∷ put_by_place u vs) (λ (xs : List Used). Among x xs → (u ≡ x) ⊎ Among x (v ∷ vs)) (λ t a. a) (λ t a. go (put_back x u vs) a) h
  where
    turn : (u ≡ x) ⊎ Among x vs → (u ≡ x) ⊎ Among x (v ∷ vs)
    turn (inl e) = inl e
    turn (inr a) = inr (inr a)

    go : (Among x (put_by_place u vs) → (u ≡ x) ⊎ Among x vs) → (v ≡ x) ⊎ Among x (put_by_place u vs) → (u ≡ x) ⊎ Among x (v ∷ vs)
    go later (inl e) = inr (inl e)
    go later (inr a) = turn (later a)

pub sorted_there : (x : Used) (us : List Used) → Among x us → Among x (by_place us)
sorted_there x [] h = h
sorted_there x (u ∷ us) (inl e) = subst (λ (y : Used). Among y (put_by_place u (by_place us))) e (put_here u (by_place us))
sorted_there x (u ∷ us) (inr a) = put_others x u (by_place us) (sorted_there x us a)

pub sorted_back : (x : Used) (us : List Used) → Among x (by_place us) → Among x us
sorted_back x [] h = h
sorted_back x (u ∷ us) h = go (sorted_back x us) (put_back x u (by_place us) h)
  where
    go : (Among x (by_place us) → Among x us) → (u ≡ x) ⊎ Among x (by_place us) → (u ≡ x) ⊎ Among x us
    go later (inl e) = inl e
    go later (inr a) = inr (later a)

-- ---- None meets another, however they are placed in the list

pub disjoint_put : (u : Used) (us : List Used) → Disjoint (u ∷ us) → Disjoint (put_by_place u us)
disjoint_put u [] h = h
disjoint_put u (v ∷ vs) h =
    cond_both (nat_le u.place v.place) (u ∷ v ∷ vs) (v ∷ put_by_place u vs) (λ (xs : List Used). Disjoint xs) (λ t. h)
    (λ t. (h.2.0, λ x a. go x (put_back x u vs a), disjoint_put u vs (h.0, λ x a. h.1 x (inr a), h.2.2)))
  where
    go : (x : Used) → (u ≡ x) ⊎ Among x vs → AreApart v x
    go x (inl e) = subst (λ (y : Used). AreApart v y) e (Apart-sym u.place u.len v.place v.len (h.1 v (inl refl)))
    go x (inr a) = h.2.1 x a

pub put_disjoint : (u : Used) (us : List Used) → Disjoint (put_by_place u us) → Disjoint (u ∷ us)
put_disjoint u [] h = h
put_disjoint u (v ∷ vs) h =
    cond_both (nat_le u.place v.place) (u ∷ v ∷ vs) (v ∷ put_by_place u vs) (λ (xs : List Used). Disjoint xs → Disjoint (u ∷ v ∷ vs)) (λ t g. g)
    (λ t g.
    let rest = put_disjoint u vs g.2 in
    (rest.0, apart rest.1 (Apart-sym v.place v.len u.place u.len (g.1 u (put_here u vs))), (g.0, λ x a. g.1 x (put_others x u vs a), rest.2)))
    h
  where
    apart : ((x : Used) → Among x vs → AreApart u x) → AreApart u v → (x : Used) → (v ≡ x) ⊎ Among x vs → AreApart u x
    apart rest one x (inl e) = subst (λ (y : Used). AreApart u y) e one
    apart rest one x (inr a) = rest x a

-- ---- By their places

-- each ends before the next begin
pub Ordered : List Used → Type 0
Ordered [] = Unit {0}
Ordered (u ∷ us) = ((v : Used) → Among v us → end_of u ≤ v.place) × Ordered us

-- each begins before the next begin
pub Rising : List Used → Type 0
Rising [] = Unit {0}
Rising (u ∷ us) = ((v : Used) → Among v us → u.place ≤ v.place) × Rising us

-- one that ends before all begin
pub Before : ℕ → List Used → Type 0
Before n us = (v : Used) → Among v us → n ≤ v.place

pub before_cons : (n : ℕ) (u : Used) (us : List Used) → n ≤ u.place → Before n us → Before n (u ∷ us)
unfolding Before
before_cons n u us h g v (inl e) = subst (λ (x : Used). n ≤ x.place) e h
before_cons n u us h g v (inr a) = g v a

-- no overlap is found: each ends before all that begin later
pub found_none : (u : Used) (us : List Used) → first_overlap u us ≡ None → Before (end_of u) us × Ordered us
unfolding Before Ordered
found_none u [] h = (λ v a. absurd a, tt)
found_none u (v ∷ vs) h =
    cond_both (nat_lt v.place (end_of u)) (Some (overlap v.place v.len u.place u.len)) (first_overlap v vs)
    (λ (o : Option Finding). o ≡ None → Before (end_of u) (v ∷ vs) × Ordered (v ∷ vs))
    (λ t e. absurd cc)
    (λ t e.
    let low : end_of u ≤ v.place = ltb-false v.place (end_of u) t in
    let rest = found_none v vs e in
    (before_cons (end_of u) v vs low (λ w a. omega (arith, low, rest.0 w a)), rest))
    h

pub finds_none : (u : Used) (us : List Used) → Before (end_of u) us → Ordered us → first_overlap u us ≡ None
unfolding Before Ordered
finds_none u [] h g = refl
finds_none u (v ∷ vs) h g =
    cond-false (nat_lt v.place (end_of u)) (Some (overlap v.place v.len u.place u.len)) (first_overlap v vs) (le-ltb v.place (end_of u) (h v (inl refl)))
    ∙ finds_none v vs g.0 g.1

pub ordered_disjoint : (us : List Used) → AllSome us → Ordered us → Disjoint us
unfolding Ordered
ordered_disjoint [] some h = tt
ordered_disjoint (u ∷ us) some h = (some u (inl refl), λ v a. inl (h.0 v a), ordered_disjoint us (λ v a. some v (inr a)) h.1)

pub rising_put : (u : Used) (us : List Used) → Rising us → Rising (put_by_place u us)
unfolding Rising
rising_put u [] h = (λ v a. absurd a, tt)
rising_put u (v ∷ vs) h =
    cond_both (nat_le u.place v.place) (u ∷ v ∷ vs) (v ∷ put_by_place u vs) Rising
    (λ t. (low (leb-true u.place v.place t), h))
    (λ t. (later t, rising_put u vs h.1))
  where
    low : u.place ≤ v.place → (x : Used) → (v ≡ x) ⊎ Among x vs → u.place ≤ x.place
    low l x (inl e) = subst (λ (y : Used). u.place ≤ y.place) e l
    low l x (inr a) = omega (arith, l, h.0 x a)

    go : v.place ≤ u.place → (x : Used) → (u ≡ x) ⊎ Among x vs → v.place ≤ x.place
    go l x (inl e) = subst (λ (y : Used). v.place ≤ y.place) e l
    go l x (inr a) = h.0 x a

    later : nat_le u.place v.place ≡ false → (x : Used) → Among x (put_by_place u vs) → v.place ≤ x.place
    later t x a = go (omega (arith, leb-false u.place v.place t)) x (put_back x u vs a)

pub rising : (us : List Used) → Rising (by_place us)
unfolding Rising
rising [] = tt
rising (u ∷ us) = rising_put u (by_place us) (rising us)

pub rising_ordered : (us : List Used) → Rising us → Disjoint us → Ordered us
unfolding Rising Ordered
rising_ordered [] h g = tt
rising_ordered (u ∷ us) h g = (λ v a. go v (h.0 v a) (some us g.2 v a) (g.1 v a), rising_ordered us h.1 g.2)
  where
    some : (us : List Used) → Disjoint us → (v : Used) → Among v us → 0 < v.len
    some [] d v a = absurd a
    some (x ∷ xs) d v (inl e) = subst (λ (y : Used). 0 < y.len) e d.0
    some (x ∷ xs) d v (inr a) = some xs d.2 v a

    go : (v : Used) → u.place ≤ v.place → 0 < v.len → AreApart u v → end_of u ≤ v.place
    go v low some (inl e) = e
    go v low some (inr e) = absurd (omega (arith, low, some, e))

pub disjoint_sorted : (us : List Used) → Disjoint us → Disjoint (by_place us)
disjoint_sorted [] h = h
disjoint_sorted (u ∷ us) h = disjoint_put u (by_place us) (h.0, λ v a. h.1 v (sorted_back v us a), disjoint_sorted us h.2)

pub sorted_disjoint : (us : List Used) → Disjoint (by_place us) → Disjoint us
sorted_disjoint [] h = h
sorted_disjoint (u ∷ us) h = let d = put_disjoint u (by_place us) h in (d.0, λ v a. d.1 v (sorted_there v us a), sorted_disjoint us d.2)

pub overlap_none : (us : List Used) → Ordered us → overlap_of us ≡ None
unfolding Ordered Before
overlap_none [] h = refl
overlap_none (u ∷ us) h = finds_none u us h.0 h.1

pub none_ordered : (us : List Used) → overlap_of us ≡ None → Ordered us
unfolding Ordered Before
none_ordered [] h = tt
none_ordered (u ∷ us) h = found_none u us h

pub overlap_laws : OverlapLaws
overlap_laws = record {
  apart = λ us some h. sorted_disjoint us (ordered_disjoint (by_place us) (λ v a. some v (sorted_back v us a)) (none_ordered (by_place us) h));
  none = λ us h. overlap_none (by_place us) (rising_ordered (by_place us) (rising us) (disjoint_sorted us h));
}
