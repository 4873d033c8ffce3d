-- Ranges that are among others, none of them more often, put together and taken apart.
use Rattle.std.proofs.Common.{◌≡◌, ◌≢◌, ◌⊎◌, ℕ, zero, suc, ◌+◌, ◌<◌, true, false, cond, List, [], ◌∷◌, ◌++◌, set, sym, ap, ◌∙◌, subst, inl, inr, arith}
use Rattle.std.specs.Prelude.{◌==◌, flat_map}
use Rattle.std.specs.List.{AllByRecursion}
use Rattle.std.proofs.lemmas.Bool.{cases_eq}
use Rattle.std.proofs.lemmas.Bool.Decides.{eqb_tells}
use Rattle.h5w_model.specs.Numbers.{undefined}
use Rattle.h5w_model.specs.Findings.{Used}
use Rattle.h5w_step_laws.specs.Ranges.{Among, chunk_at}
use Rattle.h5w_step_laws.proofs.RangeLemmas.{among_left, among_right, among_split}
use Rattle.h5w_step_laws.proofs.PartLemmas.{count_joined}
use Rattle.h5w_array_laws.specs.ArrayStores.{chunks_in}
use Rattle.h5w_array_laws.specs.Among.{AreAmong}

-- ---- Parts

pub part_itself : (us : List Used) → AreAmong us us
part_itself us = record { among = λ u a. a; counts = λ p. omega arith }

pub part_as : (us vs : List Used) → us ≡ vs → AreAmong us vs
part_as us vs e = subst (λ (xs : List Used). AreAmong us xs) e (part_itself us)

pub part_onward : (us vs ws : List Used) → AreAmong us vs → AreAmong vs ws → AreAmong us ws
part_onward us vs ws h g = record { among = λ u a. g.among u (h.among u a); counts = λ p. omega (arith, h.counts p, g.counts p) }

pub part_none : (us : List Used) → AreAmong [] us
part_none us = record { among = λ u a. absurd a; counts = λ p. omega arith }

pub part_right : (us vs : List Used) → AreAmong vs (us ++ vs)
part_right us vs = record { among = λ u a. among_right u us vs a; counts = λ p. omega (arith, count_joined p us vs) }

pub part_joined : (us vs ws xs : List Used) → AreAmong us ws → AreAmong vs xs → AreAmong (us ++ vs) (ws ++ xs)
part_joined us vs ws xs h g = record {
  among = λ u a. go u (among_split u us vs a);
  counts = λ p. omega (arith, count_joined p us vs, count_joined p ws xs, h.counts p, g.counts p);
}
  where
    go : (u : Used) → Among u us ⊎ Among u vs → Among u (ws ++ xs)
    go u (inl a) = among_left u ws xs (h.among u a)
    go u (inr a) = among_right u ws xs (g.among u a)

-- two more, two more: what is more of each stands first
pub part_more : (us vs ms ns ws xs : List Used) → AreAmong us (ms ++ ws) → AreAmong vs (ns ++ xs) → AreAmong (us ++ vs) ((ms ++ ns) ++ (ws ++ xs))
part_more us vs ms ns ws xs h g = part_onward (us ++ vs) ((ms ++ ws) ++ (ns ++ xs)) ((ms ++ ns) ++ (ws ++ xs)) (part_joined us vs (ms ++ ws) (ns ++ xs) h g) (record {
  among = λ u a. go u (among_split u (ms ++ ws) (ns ++ xs) a);
  counts = λ p. omega (arith, count_joined p (ms ++ ws) (ns ++ xs), count_joined p ms ws, count_joined p ns xs, count_joined p (ms ++ ns) (ws ++ xs), count_joined p ms ns, count_joined p ws xs);
})
  where
    front : (u : Used) → Among u ms ⊎ Among u ws → Among u ((ms ++ ns) ++ (ws ++ xs))
    front u (inl a) = among_left u (ms ++ ns) (ws ++ xs) (among_left u ms ns a)
    front u (inr a) = among_right u (ms ++ ns) (ws ++ xs) (among_left u ws xs a)

    back : (u : Used) → Among u ns ⊎ Among u xs → Among u ((ms ++ ns) ++ (ws ++ xs))
    back u (inl a) = among_left u (ms ++ ns) (ws ++ xs) (among_right u ms ns a)
    back u (inr a) = among_right u (ms ++ ns) (ws ++ xs) (among_right u ws xs a)

    go : (u : Used) → Among u (ms ++ ws) ⊎ Among u (ns ++ xs) → Among u ((ms ++ ns) ++ (ws ++ xs))
    go u (inl a) = front u (among_split u ms ws a)
    go u (inr a) = back u (among_split u ns xs a)

-- ---- One after another

pub each-among : {X : Type 0} (f more g : X → List Used) (xs : List X) → AllByRecursion (λ x. AreAmong (f x) (more x ++ g x)) xs → AreAmong (flat_map f xs) (flat_map more xs ++ flat_map g xs)
each-among f more g [] h = part_none []
each-among f more g (x ∷ xs) h = part_more (f x) (flat_map f xs) (more x) (flat_map more xs) (g x) (flat_map g xs) h.0 (each-among f more g xs h.1)

-- ---- Chunks

pub chunks_some : (bytes a : ℕ) (rest : List ℕ) → a ≢ undefined → chunks_in bytes (a ∷ rest) ≡ chunk_at a bytes ∷ chunks_in bytes rest
chunks_some bytes a rest n = go (eqb_tells a undefined)
  where
    go : ((a == undefined) ≡ true) × (a ≡ undefined) ⊎ ((a == undefined) ≡ false) × (a ≢ undefined) → chunks_in bytes (a ∷ rest) ≡ chunk_at a bytes ∷ chunks_in bytes rest
    go (inl t) = absurd (n t.1)
    go (inr t) = ap (λ c. cond c (chunks_in bytes rest) (chunk_at a bytes ∷ chunks_in bytes rest)) t.0

pub chunks_undefined : (bytes a : ℕ) (rest : List ℕ) → a ≡ undefined → chunks_in bytes (a ∷ rest) ≡ chunks_in bytes rest
chunks_undefined bytes a rest e = go (eqb_tells a undefined)
  where
    go : ((a == undefined) ≡ true) × (a ≡ undefined) ⊎ ((a == undefined) ≡ false) × (a ≢ undefined) → chunks_in bytes (a ∷ rest) ≡ chunks_in bytes rest
    go (inl t) = ap (λ c. cond c (chunks_in bytes rest) (chunk_at a bytes ∷ chunks_in bytes rest)) t.0
    go (inr t) = absurd (t.1 e)

-- the chunk of the first address, if it is defined
abbrev pub one_chunk : ℕ → ℕ → List Used
one_chunk bytes a = chunks_in bytes (a ∷ [])

pub chunks_split : (bytes a : ℕ) (rest : List ℕ) → chunks_in bytes (a ∷ rest) ≡ one_chunk bytes a ++ chunks_in bytes rest
chunks_split bytes a rest = elim (cases_eq a undefined) as (λ _. chunks_in bytes (a ∷ rest) ≡ one_chunk bytes a ++ chunks_in bytes rest) [
  | inl e ↦ chunks_undefined bytes a rest e ∙ ap (λ us. us ++ chunks_in bytes rest) (sym (chunks_undefined bytes a [] e))
  | inr n ↦ chunks_some bytes a rest n ∙ ap (λ us. us ++ chunks_in bytes rest) (sym (chunks_some bytes a [] n))
]

pub one_chunk-part : (bytes a : ℕ) → AreAmong (one_chunk bytes a) (chunk_at a bytes ∷ [])
one_chunk-part bytes a = elim (cases_eq a undefined) as (λ _. AreAmong (one_chunk bytes a) (chunk_at a bytes ∷ [])) [
  | inl e ↦ subst (λ (us : List Used). AreAmong us (chunk_at a bytes ∷ [])) (sym (chunks_undefined bytes a [] e)) (part_none (chunk_at a bytes ∷ []))
  | inr n ↦ part_as (one_chunk bytes a) (chunk_at a bytes ∷ []) (chunks_some bytes a [] n)
]

-- one address that is set adds its chunk
pub chunks_set : (bytes : ℕ) (places : List ℕ) (k a : ℕ) → AreAmong (chunks_in bytes (set places k a)) (chunk_at a bytes ∷ chunks_in bytes places)
chunks_set bytes [] k a = part_none (chunk_at a bytes ∷ [])
chunks_set bytes (x ∷ rest) zero a =
    subst (λ (us : List Used). AreAmong us (chunk_at a bytes ∷ chunks_in bytes (x ∷ rest))) (sym (chunks_split bytes a rest))
    (part_joined (one_chunk bytes a) (chunks_in bytes rest) (chunk_at a bytes ∷ []) (chunks_in bytes (x ∷ rest)) (one_chunk-part bytes a)
    (subst (λ (us : List Used). AreAmong (chunks_in bytes rest) us) (sym (chunks_split bytes x rest)) (part_right (one_chunk bytes x) (chunks_in bytes rest))))
chunks_set bytes (x ∷ rest) (suc k) a =
    subst (λ (us : List Used). AreAmong us (chunk_at a bytes ∷ chunks_in bytes (x ∷ rest))) (sym (chunks_split bytes x (set rest k a)))
    (subst (λ (us : List Used). AreAmong (one_chunk bytes x ++ chunks_in bytes (set rest k a)) (chunk_at a bytes ∷ us)) (sym (chunks_split bytes x rest))
    (part_more (one_chunk bytes x) (chunks_in bytes (set rest k a)) [] (chunk_at a bytes ∷ []) (one_chunk bytes x) (chunks_in bytes rest) (part_itself (one_chunk bytes x)) (chunks_set bytes rest k a)))
