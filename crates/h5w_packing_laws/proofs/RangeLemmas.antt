-- Ranges that stand one after another without a gap.
use Rattle.std.proofs.Common.{◌≡◌, ◌⊎◌, ℕ, ◌+◌, ◌≤◌, List, [], ◌∷◌, ◌++◌, refl, sym, subst, inl, inr, arith, sum_by}
use Rattle.std.proofs.lemmas.List.Sums.{sum_by-cons}
use Rattle.h5w_model.specs.Findings.{Used}
use Rattle.h5w_step_laws.specs.Ranges.{AllEndBy, AllSome, Among, Disjoint}
use Rattle.h5w_step_laws.proofs.RangeLemmas.{among_left, among_right, among_split}
use Rattle.h5w_step_laws.proofs.PartLemmas.{count_joined}
use Rattle.h5w_array_laws.specs.Among.{AreAmong}
use Rattle.h5w_creation_laws.proofs.StackLemmas.{Stacked, stacked_apart}
use Rattle.h5w_packing_laws.specs.Growing.{RangesFrom}

pub ranges_joined : (from middle end : ℕ) (us vs : List Used) → RangesFrom from us middle → RangesFrom middle vs end → RangesFrom from (us ++ vs) end
ranges_joined from middle end [] vs a b = subst (λ n. RangesFrom n vs end) (sym a) b
ranges_joined from middle end (u ∷ us) vs a b = (a.0, ranges_joined (from + u.len) middle end us vs a.1 b)

pub ranges_rise : (from end : ℕ) (us : List Used) → RangesFrom from us end → from ≤ end
ranges_rise from end [] a = omega (arith, a)
ranges_rise from end (u ∷ us) a = omega (arith, ranges_rise (from + u.len) end us a.1)

pub ranges_end : (from end : ℕ) (us : List Used) → RangesFrom from us end → AllEndBy end us
ranges_end from end [] a v b = absurd b
ranges_end from end (u ∷ us) a v (inl e) =
    let here : u.place + u.len ≤ end = omega (arith, a.0, ranges_rise (from + u.len) end us a.1) in
    subst (λ (x : Used). x.place + x.len ≤ end) e here
ranges_end from end (u ∷ us) a v (inr b) = ranges_end (from + u.len) end us a.1 v b

pub ranges_stacked : (from end : ℕ) (us : List Used) → AllSome us → RangesFrom from us end → Stacked from us
ranges_stacked from end [] some a = tt
ranges_stacked from end (u ∷ us) some a =
    let low : from ≤ u.place = omega (arith, a.0) in
    (low, some u (inl refl), subst (λ n. Stacked (n + u.len) us) (sym a.0) (ranges_stacked (from + u.len) end us (λ v b. some v (inr b)) a.1))

pub ranges_apart : (from end : ℕ) (us : List Used) → AllSome us → RangesFrom from us end → Disjoint us
ranges_apart from end us some a = stacked_apart from us (ranges_stacked from end us some a)

-- the same in another order
pub part_turned : (us vs : List Used) → AreAmong (us ++ vs) (vs ++ us)
part_turned us vs = record { among = λ u a. go u (among_split u us vs a); counts = λ p. omega (arith, count_joined p us vs, count_joined p vs us) }
  where
    go : (u : Used) → Among u us ⊎ Among u vs → Among u (vs ++ us)
    go u (inl b) = among_right u vs us b
    go u (inr b) = among_left u vs us b

pub part_left : (us vs : List Used) → AreAmong us (us ++ vs)
part_left us vs = record { among = λ u a. among_left u us vs a; counts = λ p. omega (arith, count_joined p us vs) }

-- how long they are
pub ranges_sum : (from end : ℕ) (us : List Used) → RangesFrom from us end → from + sum_by (λ (u : Used). u.len) us ≡ end
ranges_sum from end [] h = omega (arith, h)
ranges_sum from end (u ∷ us) h = omega (arith, sum_by-cons (λ (v : Used). v.len) u us, ranges_sum (from + u.len) end us h.1)
