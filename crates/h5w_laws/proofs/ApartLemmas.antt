-- Ranges in order of their places: where none overlaps they are apart, and their lengths are no more than the end.
use Rattle.std.proofs.Common.{◌≡◌, ℕ, ◌+◌, ◌≤◌, Bool, true, false, cond, List, [], ◌∷◌, ◌++◌, Some, None, refl, inl, inr, arith}
use Rattle.std.specs.Prelude.{nat_lt, nat_le, sum_by}
use Rattle.std.specs.List.{AllByRecursion}
use Rattle.std.proofs.lemmas.Bool.{ltb-false}
use Rattle.std.proofs.lemmas.List.Sums.{sum_by-cons}
use Rattle.h5w_model.specs.Findings.{overlap, Used, put_by_place, by_place, first_overlap, overlap_of}
use Rattle.h5w_laws.specs.Ranges.{EndsBy, AreApart, AllApart}

-- ---- Each of a list

pub all_joined : {A : Type 0} (P : A → Type 0) (xs ys : List A) → AllByRecursion P xs → AllByRecursion P ys → AllByRecursion P (xs ++ ys)
all_joined P [] ys h g = g
all_joined P (x ∷ xs) ys h g = (h.0, all_joined P xs ys h.1 g)

pub all_as : {A : Type 0} (P Q : A → Type 0) (xs : List A) → ((x : A) → P x → Q x) → AllByRecursion P xs → AllByRecursion Q xs
all_as P Q [] f h = tt
all_as P Q (x ∷ xs) f h = (f x h.0, all_as P Q xs f h.1)

-- ---- The order by place

pub all_put : (P : Used → Type 0) (u : Used) (us : List Used) → P u → AllByRecursion P us → AllByRecursion P (put_by_place u us)
all_put P u [] h g = (h, tt)
all_put P u (v ∷ vs) h g = go (all_put P u vs h g.1) (nat_le u.place v.place)
  where
    go : AllByRecursion P (put_by_place u vs) → (t : Bool) → AllByRecursion P (cond t (u ∷ v ∷ vs) (v ∷ put_by_place u vs))
    go rest true = (h, (g.0, g.1))
    go rest false = (g.0, rest)

pub all_ordered : (P : Used → Type 0) (us : List Used) → AllByRecursion P us → AllByRecursion P (by_place us)
all_ordered P [] h = tt
all_ordered P (u ∷ us) h = all_put P u (by_place us) h.0 (all_ordered P us h.1)

pub all_taken : (P : Used → Type 0) (u : Used) (us : List Used) → AllByRecursion P (put_by_place u us) → P u × AllByRecursion P us
all_taken P u [] h = (h.0, tt)
all_taken P u (v ∷ vs) h = go (all_taken P u vs) (nat_le u.place v.place) h
  where
    go : (AllByRecursion P (put_by_place u vs) → P u × AllByRecursion P vs) → (t : Bool) → AllByRecursion P (cond t (u ∷ v ∷ vs) (v ∷ put_by_place u vs)) → P u × AllByRecursion P (v ∷ vs)
    go rest true i = (i.0, (i.1.0, i.1.1))
    go rest false i = let r = rest i.1 in (r.0, (i.0, r.1))

pub all_unordered : (P : Used → Type 0) (us : List Used) → AllByRecursion P (by_place us) → AllByRecursion P us
all_unordered P [] h = tt
all_unordered P (u ∷ us) h = let r = all_taken P u (by_place us) h in (r.0, all_unordered P us r.1)

apart_back : (u v : Used) → AreApart u v → AreApart v u
apart_back u v (inl h) = inr h
apart_back u v (inr h) = inl h

apart_taken : (u : Used) (us : List Used) → AllApart (put_by_place u us) → AllByRecursion (AreApart u) us × AllApart us
apart_taken u [] h = (tt, tt)
apart_taken u (v ∷ vs) h = go (apart_taken u vs) (nat_le u.place v.place) h
  where
    go : (AllApart (put_by_place u vs) → AllByRecursion (AreApart u) vs × AllApart vs) → (t : Bool) → AllApart (cond t (u ∷ v ∷ vs) (v ∷ put_by_place u vs)) → AllByRecursion (AreApart u) (v ∷ vs) × AllApart (v ∷ vs)
    go rest true i = ((i.0.0, i.0.1), (i.1.0, i.1.1))
    go rest false i =
        let first = all_taken (AreApart v) u vs i.0 in
        let later = rest i.1 in
        ((apart_back v u first.0, later.0), (first.1, later.1))

-- ranges that are apart in order are apart
pub apart_unordered : (us : List Used) → AllApart (by_place us) → AllApart us
apart_unordered [] h = tt
apart_unordered (u ∷ us) h = let r = apart_taken u (by_place us) h in (all_unordered (AreApart u) us r.0, apart_unordered us r.1)

abbrev pub length_of : List Used → ℕ
length_of us = sum_by (λ u. u.len) us

length_first : (u : Used) (us : List Used) → length_of (u ∷ us) ≡ u.len + length_of us
length_first u us = sum_by-cons (λ (v : Used). v.len) u us

length_put : (u : Used) (us : List Used) → length_of (put_by_place u us) ≡ u.len + length_of us
length_put u [] = length_first u []
length_put u (v ∷ vs) = go (length_put u vs) (nat_le u.place v.place)
  where
    go : length_of (put_by_place u vs) ≡ u.len + length_of vs → (t : Bool) → length_of (cond t (u ∷ v ∷ vs) (v ∷ put_by_place u vs)) ≡ u.len + length_of (v ∷ vs)
    go rest true = length_first u (v ∷ vs)
    go rest false = omega (arith, length_first v (put_by_place u vs), rest, length_first u (v ∷ vs), length_first v vs)

-- in order they take as many bytes
pub length_ordered : (us : List Used) → length_of (by_place us) ≡ length_of us
length_ordered [] = refl
length_ordered (u ∷ us) = omega (arith, length_put u (by_place us), length_ordered us, length_first u us)

-- ---- Where none overlaps

abbrev Behind : ℕ → List Used → Type 0
Behind end us = AllByRecursion (λ (u : Used). end ≤ u.place) us

-- no range begins before the end of one before it, and none overlaps
pub none_overlap : (u : Used) (us : List Used) → first_overlap u us ≡ None → Behind (u.place + u.len) us × AllApart us
none_overlap u [] h = (tt, tt)
none_overlap u (v ∷ vs) h = first (none_overlap v vs) (nat_lt v.place (u.place + u.len)) refl h
  where
    earlier : u.place + u.len ≤ v.place → Behind (v.place + v.len) vs → Behind (u.place + u.len) vs
    earlier low b = all_as (λ (w : Used). v.place + v.len ≤ w.place) (λ (w : Used). u.place + u.len ≤ w.place) vs (λ w e. omega (arith, low, e)) b

    apart_from : Behind (v.place + v.len) vs → AllByRecursion (AreApart v) vs
    apart_from b = all_as (λ (w : Used). v.place + v.len ≤ w.place) (AreApart v) vs (λ w e. inl e) b

    first : (first_overlap v vs ≡ None → Behind (v.place + v.len) vs × AllApart vs) → (t : Bool) → nat_lt v.place (u.place + u.len) ≡ t
        → cond t (Some (overlap v.place v.len u.place u.len)) (first_overlap v vs) ≡ None → Behind (u.place + u.len) (v ∷ vs) × AllApart (v ∷ vs)
    first rest true e g = absurd cc
    first rest false e g =
        let low : u.place + u.len ≤ v.place = ltb-false v.place (u.place + u.len) e in
        let r = rest g in
        ((low, earlier low r.0), (apart_from r.0, r.1))

-- and behind it their lengths are no more than what is left up to the end
pub none_longer : (end : ℕ) (u : Used) (us : List Used) → first_overlap u us ≡ None → AllByRecursion (EndsBy end) us → u.place + u.len ≤ end → u.place + u.len + length_of us ≤ end
none_longer end u [] h within low = omega (arith, low)
none_longer end u (v ∷ vs) h within low = first (none_longer end v vs) (nat_lt v.place (u.place + u.len)) refl h
  where
    first : (first_overlap v vs ≡ None → AllByRecursion (EndsBy end) vs → v.place + v.len ≤ end → v.place + v.len + length_of vs ≤ end) → (t : Bool) → nat_lt v.place (u.place + u.len) ≡ t
        → cond t (Some (overlap v.place v.len u.place u.len)) (first_overlap v vs) ≡ None → u.place + u.len + length_of (v ∷ vs) ≤ end
    first rest true e g = absurd cc
    first rest false e g = omega (arith, length_first v vs, rest g within.1 within.0, ltb-false v.place (u.place + u.len) e)

apart_in_order : (us : List Used) → overlap_of us ≡ None → AllApart us
apart_in_order [] h = tt
apart_in_order (u ∷ us) h =
    let r = none_overlap u us h in
    (all_as (λ (v : Used). u.place + u.len ≤ v.place) (AreApart u) us (λ v e. inl e) r.0, r.1)

length_in_order : (end : ℕ) (us : List Used) → overlap_of us ≡ None → AllByRecursion (EndsBy end) us → length_of us ≤ end
length_in_order end [] h within = omega arith
length_in_order end (u ∷ us) h within = omega (arith, length_first u us, none_longer end u us h within.1 within.0)

-- ranges of which none overlaps are apart
pub apart_all : (us : List Used) → overlap_of (by_place us) ≡ None → AllApart us
apart_all us h = apart_unordered us (apart_in_order (by_place us) h)

-- and take no more bytes than there are up to where they end
pub length_all : (end : ℕ) (us : List Used) → overlap_of (by_place us) ≡ None → AllByRecursion (EndsBy end) us → length_of us ≤ end
length_all end us h within = omega (arith, length_ordered us, length_in_order end (by_place us) h (all_ordered (EndsBy end) us within))
