-- Steps one after another, and what they leave.
use Rattle.std.proofs.Common.{◌≡◌, ℕ, ◌+◌, ◌<◌, ◌≤◌, List, [], ◌∷◌, ◌++◌, length, get_or, take, refl, sym, ap, subst, ◌∙◌, arith, ◌-◌, inl, inr}
use Rattle.std.proofs.lemmas.List.{take_more}
use Rattle.std.proofs.lemmas.List.{map-append}
use Rattle.h5w_space.specs.Space.{Space}
use Rattle.h5w_cache.specs.declared.moves.Move.{Move}
use Rattle.h5w_cache.specs.Plans.{Chain, Retires, numbers}

pub Chain-push : {S M : Type 0} (R : S → M → S → Type 0) (s : S) (ms : List M) (m : M) (u t : S) → Chain R s ms u → R u m t → Chain R s (ms ++ m ∷ []) t
Chain-push R s [] m u t e r = (t, subst (λ x. R x m t) e r, refl)
Chain-push R s (x ∷ xs) m u t h r = (h.0, h.1, Chain-push R (h.0) xs m u t h.2 r)

pub Chain-more : {S M : Type 0} (R : S → M → S → Type 0) (s : S) (ms : List M) (i : ℕ) (d m : M) (u t : S) → i < length ms → m ≡ get_or ms i d → Chain R s (take i ms) u → R u m t → Chain R s (take (i + 1) ms) t
Chain-more R s ms i d m u t h e c r =
    subst (λ l. Chain R s l t) (ap (λ x. take i ms ++ x ∷ []) e ∙ sym (take_more ms i d h)) (Chain-push R s (take i ms) m u t c r)

pub Retires-spare : (s : Space) (m : Move) (t : Space) → Retires s m t → s.spare ≤ t.spare + 1
Retires-spare s m t (inl left) = let e : t.spare ≡ s.spare - 1 = ap (λ x. x.spare) left.1 in omega arith
Retires-spare s m t (inr same) = let e : t.spare ≡ s.spare = ap (λ x. x.spare) same.1 in omega arith

pub numbers-more : (ms all : List Move) (m : Move) (order : List ℕ) (i : ℕ) → i < length order → all ≡ ms ++ m ∷ [] → numbers ms ≡ take i order → m.number ≡ get_or order i 0 → numbers all ≡ take (i + 1) order
numbers-more ms all m order i h e n is =
    ap numbers e ∙ map-append (λ (x : Move). x.number) ms (m ∷ []) ∙ ap (λ l. l ++ m.number ∷ []) n ∙ ap (λ x. take i order ++ x ∷ []) is ∙ sym (take_more order i 0 h)
