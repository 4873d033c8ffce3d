-- Tests of ranges, which compute.
use Rattle.std.proofs.Common.{◌≡◌, ◌⊎◌, ℕ, ◌+◌, Bool, true, false, cond, List, [], ◌∷◌, None, refl, sym, ◌∙◌, ap, subst, inl, inr}
use Rattle.std.specs.Prelude.{◌&&◌, ◌||◌, ◌==◌, not, nat_le, nat_lt}
use Rattle.std.proofs.lemmas.Bool.{leb-true, ltb-true, eqb-true, eq-eqb}
use Rattle.h5w_model.specs.Findings.{Used, overlap_of, by_place}
use Rattle.h5w_step_laws.specs.Ranges.{Among, AllAmong, AllEndBy, AllSome, AreApart, Disjoint}
use Rattle.h5w_step_laws.proofs.RangeLemmas.{some_nil, some_cons, ends_nil, ends_cons}
use Rattle.h5w_step_laws.proofs.OverlapLemmas.{overlap_laws}
use Rattle.h5w_step_laws.specs.Moments.{Moment}
use Rattle.h5w_step_laws.specs.Steps.{OffAll, Clear}

pub both : (a b : Bool) → (a && b) ≡ true → (a ≡ true) × (b ≡ true)
both true b h = (refl, h)
both false b h = absurd cc

pub either : (a b : Bool) → (a || b) ≡ true → (a ≡ true) ⊎ (b ≡ true)
either true b h = inl refl
either false b h = inr h

-- ---- Not empty, within an end, disjoint

abbrev pub all_some : List Used → Bool
all_some [] = true
all_some (u ∷ us) = nat_lt 0 u.len && all_some us

pub some_by : (us : List Used) → all_some us ≡ true → AllSome us
some_by [] h = some_nil
some_by (u ∷ us) h = let p = both (nat_lt 0 u.len) (all_some us) h in some_cons u us (ltb-true 0 u.len p.0) (some_by us p.1)

abbrev pub all_end : ℕ → List Used → Bool
all_end end [] = true
all_end end (u ∷ us) = nat_le (u.place + u.len) end && all_end end us

pub ends_by : (end : ℕ) (us : List Used) → all_end end us ≡ true → AllEndBy end us
ends_by end [] h = ends_nil end
ends_by end (u ∷ us) h = let p = both (nat_le (u.place + u.len) end) (all_end end us) h in ends_cons end u us (leb-true (u.place + u.len) end p.0) (ends_by end us p.1)

pub disjoint_by : (us : List Used) → all_some us ≡ true → overlap_of (by_place us) ≡ None → Disjoint us
disjoint_by us some none = overlap_laws.apart us (some_by us some) none

-- ---- Among, and apart

abbrev pub same_bool : Bool → Bool → Bool
same_bool true b = b
same_bool false b = not b

pub same_bool-true : (a b : Bool) → same_bool a b ≡ true → a ≡ b
same_bool-true true true h = refl
same_bool-true true false h = absurd cc
same_bool-true false true h = absurd cc
same_bool-true false false h = refl

abbrev pub same_used : Used → Used → Bool
same_used u v = (u.place == v.place) && ((u.len == v.len) && same_bool u.chunk v.chunk)

pub same_used-true : (u v : Used) → same_used u v ≡ true → u ≡ v
same_used-true u v h =
    let a = both (u.place == v.place) ((u.len == v.len) && same_bool u.chunk v.chunk) h in
    let b = both (u.len == v.len) (same_bool u.chunk v.chunk) a.1 in
    let place = eqb-true u.place v.place a.0 in
    let len = eqb-true u.len v.len b.0 in
    let chunk = same_bool-true u.chunk v.chunk b.1 in
    λ i. record { place = place i; len = len i; chunk = chunk i }

abbrev pub is_among : Used → List Used → Bool
is_among u [] = false
is_among u (v ∷ vs) = same_used v u || is_among u vs

pub among_by : (u : Used) (us : List Used) → is_among u us ≡ true → Among u us
among_by u [] h = absurd cc
among_by u (v ∷ vs) h = go (among_by u vs) (either (same_used v u) (is_among u vs) h)
  where
    go : (is_among u vs ≡ true → Among u vs) → (same_used v u ≡ true) ⊎ (is_among u vs ≡ true) → (v ≡ u) ⊎ Among u vs
    go later (inl s) = inl (same_used-true v u s)
    go later (inr s) = inr (later s)

abbrev pub are_among : List Used → List Used → Bool
are_among [] vs = true
are_among (u ∷ us) vs = is_among u vs && are_among us vs

pub all_among_by : (us vs : List Used) → are_among us vs ≡ true → AllAmong us vs
all_among_by [] vs h u a = absurd a
all_among_by (x ∷ us) vs h u (inl e) = subst (λ (y : Used). Among y vs) e (among_by x vs (both (is_among x vs) (are_among us vs) h).0)
all_among_by (x ∷ us) vs h u (inr a) = all_among_by us vs (both (is_among x vs) (are_among us vs) h).1 u a

-- and what is among ranges is one of them
pub among_is : (u : Used) (us : List Used) → Among u us → is_among u us ≡ true
among_is u [] a = absurd a
among_is u (v ∷ vs) (inl e) = subst (λ (x : Used). (same_used v x || is_among x vs) ≡ true) e (ap (λ b. b || is_among v vs) (itself v))
  where
    here : (n : ℕ) → (n == n) ≡ true
    here n = eq-eqb n n refl

    bool : (b : Bool) → same_bool b b ≡ true
    bool true = refl
    bool false = refl

    itself : (v : Used) → same_used v v ≡ true
    itself v = ap (λ b. b && ((v.len == v.len) && same_bool v.chunk v.chunk)) (here v.place) ∙ ap (λ b. b && same_bool v.chunk v.chunk) (here v.len) ∙ bool v.chunk
among_is u (v ∷ vs) (inr a) = later (same_used v u) (among_is u vs a)
  where
    later : (b : Bool) → is_among u vs ≡ true → (b || is_among u vs) ≡ true
    later true h = refl
    later false h = h

abbrev pub are_apart : Used → Used → Bool
are_apart u v = nat_le (u.place + u.len) v.place || nat_le (v.place + v.len) u.place

pub apart_by : (u v : Used) → are_apart u v ≡ true → AreApart u v
apart_by u v h = go (either (nat_le (u.place + u.len) v.place) (nat_le (v.place + v.len) u.place) h)
  where
    go : (nat_le (u.place + u.len) v.place ≡ true) ⊎ (nat_le (v.place + v.len) u.place ≡ true) → AreApart u v
    go (inl s) = inl (leb-true (u.place + u.len) v.place s)
    go (inr s) = inr (leb-true (v.place + v.len) u.place s)

abbrev pub apart_each : Used → List Used → Bool
apart_each u [] = true
apart_each u (v ∷ vs) = are_apart u v && apart_each u vs

pub apart_each_by : (u v : Used) (vs : List Used) → apart_each u vs ≡ true → Among v vs → AreApart u v
apart_each_by u v [] h a = absurd a
apart_each_by u v (x ∷ vs) h (inl e) = subst (λ (y : Used). AreApart u y) e (apart_by u x (both (are_apart u x) (apart_each u vs) h).0)
apart_each_by u v (x ∷ vs) h (inr a) = apart_each_by u v vs (both (are_apart u x) (apart_each u vs) h).1 a

abbrev pub off_each : List Used → List Used → Bool
off_each [] vs = true
off_each (u ∷ us) vs = apart_each u vs && off_each us vs

pub off_by : (us vs : List Used) → off_each us vs ≡ true → OffAll us vs
off_by [] vs h u v a b = absurd a
off_by (x ∷ us) vs h u v (inl e) b = subst (λ (y : Used). AreApart y v) e (apart_each_by x v vs (both (apart_each x vs) (off_each us vs) h).0 b)
off_by (x ∷ us) vs h u v (inr a) b = off_by us vs (both (apart_each x vs) (off_each us vs) h).1 u v a b

-- the blocks, and the chunks
abbrev pub blocks_in : List Used → List Used
blocks_in [] = []
blocks_in (u ∷ us) = cond u.chunk (blocks_in us) (u ∷ blocks_in us)

abbrev pub chunks_in : List Used → List Used
chunks_in [] = []
chunks_in (u ∷ us) = cond u.chunk (u ∷ chunks_in us) (chunks_in us)

block_there : (u : Used) (us : List Used) → Among u us → u.chunk ≡ false → Among u (blocks_in us)
block_there u [] a block = absurd a
block_there u (x ∷ us) (inl e) block =
    subst (λ (xs : List Used). Among u xs) (sym (ap (λ c. cond c (blocks_in us) (x ∷ blocks_in us)) (ap (λ (y : Used). y.chunk) e ∙ block))) (inl e)
block_there u (x ∷ us) (inr a) block = go x.chunk (block_there u us a block)
  where
    go : (c : Bool) → Among u (blocks_in us) → Among u (cond c (blocks_in us) (x ∷ blocks_in us))
    go true h = h
    go false h = inr h

chunk_there : (u : Used) (us : List Used) → Among u us → u.chunk ≡ true → Among u (chunks_in us)
chunk_there u [] a chunk = absurd a
chunk_there u (x ∷ us) (inl e) chunk =
    subst (λ (xs : List Used). Among u xs) (sym (ap (λ c. cond c (x ∷ chunks_in us) (chunks_in us)) (ap (λ (y : Used). y.chunk) e ∙ chunk))) (inl e)
chunk_there u (x ∷ us) (inr a) chunk = go x.chunk (chunk_there u us a chunk)
  where
    go : (c : Bool) → Among u (chunks_in us) → Among u (cond c (x ∷ chunks_in us) (chunks_in us))
    go true h = inr h
    go false h = h

pub clear_by : (held : List Used) (m : Moment) → off_each (blocks_in held) (chunks_in m.behind) ≡ true → Clear held m
clear_by held m h u v a block b chunk = off_by (blocks_in held) (chunks_in m.behind) h u v (block_there u held a block) (chunk_there v m.behind b chunk)
