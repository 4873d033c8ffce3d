-- Ranges of which none meets another, and which are the same ones: they weigh the same.
use Rattle.std.proofs.Common.{◌≡◌, ◌⊎◌, ℕ, ◌+◌, ◌<◌, List, [], ◌∷◌, refl, sym, ◌∙◌, ap, subst, inl, inr, arith, sum_by}
use Rattle.std.proofs.lemmas.List.Sums.{sum_by-cons}
use Rattle.h5w_model.specs.Findings.{Used}
use Rattle.h5w_step_laws.specs.Ranges.{AllAmong, Among, AreApart, Disjoint}
use Rattle.h5w_step_laws.proofs.PartLemmas.{apart_sym, disjoint_some}
use Rattle.h5w_tree_index_laws.specs.TreeImages.{AreSame}

-- the ranges but for one
abbrev take_out : (v : Used) (us : List Used) → Among v us → List Used
take_out v [] a = []
take_out v (u ∷ us) (inl e) = us
take_out v (u ∷ us) (inr a) = u ∷ take_out v us a

out_sum : (f : Used → ℕ) (v : Used) (us : List Used) (a : Among v us) → sum_by f us ≡ f v + sum_by f (take_out v us a)
out_sum f v [] a = absurd a
out_sum f v (u ∷ us) (inl e) = sum_by-cons f u us ∙ ap (λ x. f x + sum_by f us) e
out_sum f v (u ∷ us) (inr a) = omega (arith, sum_by-cons f u us, sum_by-cons f u (take_out v us a), out_sum f v us a)

out_in : (x v : Used) (us : List Used) (a : Among v us) → Among x (take_out v us a) → Among x us
out_in x v [] a b = absurd a
out_in x v (u ∷ us) (inl e) b = inr b
out_in x v (u ∷ us) (inr a) (inl e) = inl e
out_in x v (u ∷ us) (inr a) (inr b) = inr (out_in x v us a b)

in_out : (x v : Used) (us : List Used) (a : Among v us) → Among x us → (v ≡ x) ⊎ Among x (take_out v us a)
in_out x v [] a b = absurd a
in_out x v (u ∷ us) (inl e) (inl g) = inl (sym e ∙ g)
in_out x v (u ∷ us) (inl e) (inr b) = inr b
in_out x v (u ∷ us) (inr a) (inl g) = inr (inl g)
in_out x v (u ∷ us) (inr a) (inr b) = go (in_out x v us a b)
  where
    go : (v ≡ x) ⊎ Among x (take_out v us a) → (v ≡ x) ⊎ ((u ≡ x) ⊎ Among x (take_out v us a))
    go (inl e) = inl e
    go (inr c) = inr (inr c)

out_disjoint : (v : Used) (us : List Used) (a : Among v us) → Disjoint us → Disjoint (take_out v us a)
out_disjoint v [] a d = absurd a
out_disjoint v (u ∷ us) (inl e) d = d.2
out_disjoint v (u ∷ us) (inr a) d = (d.0, (λ x b. d.1 x (out_in x v us a b)), out_disjoint v us a d.2)

-- no range is apart from itself
self : (u v : Used) → 0 < u.len → u ≡ v → AreApart u v → ⊥
self u v some e (inl h) = let p = ap (λ (x : Used). x.place) e in omega (arith, some, p, h)
self u v some e (inr h) = let p = ap (λ (x : Used). x.place) e in let n = ap (λ (x : Used). x.len) e in omega (arith, some, p, n, h)

-- the one and those without it do not meet
out_apart : (x v : Used) (us : List Used) (a : Among v us) → Disjoint us → Among x (take_out v us a) → AreApart v x
out_apart x v [] a d b = absurd a
out_apart x v (u ∷ us) (inl e) d b = subst (λ (y : Used). AreApart y x) e (d.1 x b)
out_apart x v (u ∷ us) (inr a) d (inl e) = subst (λ (y : Used). AreApart v y) e (apart_sym u v (d.1 v a))
out_apart x v (u ∷ us) (inr a) d (inr b) = out_apart x v us a d.2 b

none_of : (us : List Used) → AllAmong us [] → us ≡ []
none_of [] h = refl
none_of (u ∷ us) h = absurd (h u (inl refl))

pub same_sums : (all part : List Used) → Disjoint all → Disjoint part → AllAmong part all → AllAmong all part → AreSame part all
same_sums [] part d p into back f = ap (sum_by f) (none_of part into)
same_sums (v ∷ vs) part d p into back f =
    let a : Among v part = back v (inl refl) in
    let rest : List Used = take_out v part a in
    let some : 0 < v.len = disjoint_some part p v a in
    let within : AllAmong rest vs = λ x b. other x a some b (into x (out_in x v part a b)) in
    let covers : AllAmong vs rest = λ x b. apart x a b (in_out x v part a (back x (inr b))) in
    omega (arith, out_sum f v part a, sum_by-cons f v vs, same_sums vs rest d.2 (out_disjoint v part a p) within covers f)
  where
    other : (x : Used) (a : Among v part) → 0 < v.len → Among x (take_out v part a) → (v ≡ x) ⊎ Among x vs → Among x vs
    other x a some b (inl e) = absurd (self v x some e (out_apart x v part a p b))
    other x a some b (inr c) = c

    apart : (x : Used) (a : Among v part) → Among x vs → (v ≡ x) ⊎ Among x (take_out v part a) → Among x (take_out v part a)
    apart x a b (inl e) = absurd (self v x d.0 e (d.1 x b))
    apart x a b (inr c) = c
