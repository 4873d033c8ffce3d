-- The order in which a check visits an array's blocks: each is a block of the array, and none comes twice.
use Rattle.std.proofs.Common.{◌≡◌, ◌⊎◌, inl, inr, ℕ, ◌≤◌, Bool, List, [], ◌∷◌, ◌++◌, map, true, false, refl, ap, subst, ◌∙◌, arith}
use Rattle.std.proofs.Common.{eq-eqb, ne_eqb, append-nil}
use Rattle.std.proofs.lemmas.Bool.{cases_eq}
use Rattle.std.specs.Prelude.{cond, not, ◌&&◌, flat_map, ◌==◌, if◌then◌else◌}
use Rattle.std.specs.List.{AllByRecursion}
use Rattle.std.proofs.lemmas.List.Elements.{recursion_from_All}
use Rattle.h5w_model.specs.Findings.{Used}
use Rattle.h5w_cache.specs.Stores.{times, is_listed}
use Rattle.h5w_cache.proofs.PlannedLemmas.{times-same, times-other}
use Rattle.h5w_laws.proofs.ApartLemmas.{all_joined}
use Rattle.h5w_array_laws.specs.Parts.{Part, index_block, IsPart, number_of, children, first_parts, second_parts, visit_order}
use Rattle.h5w_ea_index.proofs.PartLemmas.{are_children}
use Rattle.h5w_ea_index.proofs.StoreLemmas.{listed-none}

-- a block and those that it names
family_parts : (xs : List Part) → AllByRecursion IsPart xs → AllByRecursion IsPart (flat_map (λ k. k ∷ children k) xs)
family_parts [] h = tt
family_parts (x ∷ xs) h =
    all_joined IsPart (x ∷ children x) (flat_map (λ k. k ∷ children k) xs)
    (h.0, recursion_from_All IsPart (children x) (λ i d lt. (are_children x h.0 i d lt).part))
    (family_parts xs h.1)

pub visited_parts : AllByRecursion IsPart visit_order
unfolding visit_order
visited_parts = family_parts (first_parts ++ second_parts) (recursion_from_All IsPart (first_parts ++ second_parts) (λ i d lt. (are_children index_block tt i d lt).part))

abbrev pub distinct : List ℕ → Bool
distinct [] = true
distinct (n ∷ ns) = not (is_listed n ns) && distinct ns

both_true : (a b : Bool) → (not a && b) ≡ true → (a ≡ false) × (b ≡ true)
both_true true b h = absurd (cc)
both_true false b h = (refl, h)

pub once_each : (ns : List ℕ) (n : ℕ) → distinct ns ≡ true → times n ns ≤ 1
once_each [] n h = omega arith
once_each (k ∷ ns) n h =
    let both = both_true (is_listed k ns) (distinct ns) h in
    elim (cases_eq k n) [
      | inl e ↦ let none : times n ns ≡ 0 = subst (λ x. times x ns ≡ 0) e (listed-none k ns both.0) in let t = times-same n k ns e in omega arith
      | inr ne ↦ let t = times-other n k ns ne in let r = once_each ns n both.1 in omega arith
    ]

pub visited_distinct : distinct (map number_of visit_order) ≡ true
unfolding visit_order
visited_distinct = refl

pub visited_once : (n : ℕ) → times n (map number_of visit_order) ≤ 1
visited_once n = once_each (map number_of visit_order) n visited_distinct

pub flat_map-same : {A B : Type 0} (f g : A → List B) (xs : List A) → AllByRecursion (λ x. f x ≡ g x) xs → flat_map f xs ≡ flat_map g xs
flat_map-same f g [] h = refl
flat_map-same f g (x ∷ xs) h = λ i. h.0 i ++ flat_map-same f g xs h.1 i

-- one of these under a number, nothing under others
abbrev pub only : ℕ → List Used → Part → List Used
only n us k = if number_of k == n then us else []

pub only-none : (n : ℕ) (us : List Used) (xs : List Part) → times n (map number_of xs) ≡ 0 → flat_map (only n us) xs ≡ []
only-none n us [] h = refl
only-none n us (x ∷ xs) h =
    elim (cases_eq (number_of x) n) [
      | inl e ↦ let t = times-same n (number_of x) (map number_of xs) e in absurd (omega arith)
      | inr ne ↦
          let t = times-other n (number_of x) (map number_of xs) ne in
          ap (λ b. cond b us [] ++ flat_map (only n us) xs) (ne_eqb (number_of x) n ne) ∙ only-none n us xs (omega arith)
    ]

pub only-once : (n : ℕ) (us : List Used) (xs : List Part) → times n (map number_of xs) ≤ 1 → (flat_map (only n us) xs ≡ []) ⊎ (flat_map (only n us) xs ≡ us)
only-once n us [] h = inl refl
only-once n us (x ∷ xs) h =
    elim (cases_eq (number_of x) n) [
      | inl e ↦
          let t = times-same n (number_of x) (map number_of xs) e in
          inr (ap (λ b. cond b us [] ++ flat_map (only n us) xs) (eq-eqb (number_of x) n e) ∙ ap (λ l. us ++ l) (only-none n us xs (omega arith)) ∙ append-nil us)
      | inr ne ↦
          let t = times-other n (number_of x) (map number_of xs) ne in
          let skip : flat_map (only n us) (x ∷ xs) ≡ flat_map (only n us) xs = ap (λ b. cond b us [] ++ flat_map (only n us) xs) (ne_eqb (number_of x) n ne) in
          elim (only-once n us xs (omega arith)) [ inl e ↦ inl (skip ∙ e) | inr e ↦ inr (skip ∙ e) ]
    ]

pub none_index : times 845 (map number_of visit_order) ≡ 0
unfolding visit_order
none_index = refl

pub none_of : (us : List Used) → flat_map (only 845 us) visit_order ≡ []
none_of us = only-none 845 us visit_order none_index
