-- Lists by their first and the others.
use Rattle.std.proofs.Common.{rules, ◌≡◌, ◌+◌, ◌∙◌, List, [], ◌∷◌, ◌++◌, length, take, drop, ap, refl, arith}
use Rattle.std.proofs.lemmas.Grind.{common_steps}

pub empty_of : {A : Type 0} (xs : List A) → length xs ≡ 0 → xs ≡ []
empty_of [] e = refl
empty_of (x ∷ xs) e = absurd (omega (arith, e))

-- without the first
pub removed : {A : Type 0} (xs ys : List A) (x : A) (rest : List A) → xs ≡ x ∷ rest → ys ≡ take 0 xs ++ drop (0 + 1) xs → ys ≡ rest
removed {A} xs ys x rest is e =
    let tail : take 0 (x ∷ rest) ++ drop (0 + 1) (x ∷ rest) ≡ rest = first_of (search rules, grind (arith, common_steps)) in
    e ∙ ap (λ (zs : List A). take 0 zs ++ drop (0 + 1) zs) is ∙ tail
