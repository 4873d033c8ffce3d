-- One child after another, each of them tested.
use Rattle.std.proofs.Common.{◌≡◌, ℕ, zero, suc, ◌+◌, ◌<◌, ◌↔◌, List, [], ◌∷◌, drop, length, map, sym, ap₂, subst, ◌∙◌, arith, add-one, slice_index_or}
use Rattle.std.specs.List.{All}
use Rattle.std.proofs.lemmas.List.Elements.{All-cons, All-head, All-tail}
use Rattle.h5w_bt_open.proofs.StepLemmas.{drop_here}

-- what holds of all holds of the one at a place
pub each_here : {A B : Type 0} (P : B → Type 0) (T : A → B) (xs : List A) (i : ℕ) (x : A) → i < length xs → x ≡ slice_index_or xs i x → All P (map T xs) → P (T x)
each_here P T [] i x inside is all = absurd (omega (arith, inside))
each_here P T (y ∷ ys) zero x inside is all = subst (λ (z : _). P (T z)) (sym is) (All-head P (T y) (map T ys) all)
each_here P T (y ∷ ys) (suc i) x inside is all = each_here P T ys i x (omega (arith, inside)) is (All-tail P (T y) (map T ys) all)

-- the one at a place passed: all do where those behind it do
pub holds_step : {A B : Type 0} (P : B → Type 0) (T : A → B) (xs : List A) (i : ℕ) (x : A) (all : Type 0) → i < length xs → x ≡ slice_index_or xs i x → P (T x) → All P (map T (drop i xs)) ↔ all → All P (map T (drop (i + 1) xs)) ↔ all
holds_step P T xs i x all inside is own so_far =
    let e : drop i xs ≡ x ∷ drop (i + 1) xs = drop_here xs i x inside ∙ ap₂ (λ (y : _) (k : ℕ). y ∷ drop k xs) (sym is) (sym (add-one i)) in (
      λ h. so_far.0 (subst (λ (l : List _). All P (map T l)) (sym e) (All-cons P (T x) (map T (drop (i + 1) xs)) own h)),
      λ h. All-tail P (T x) (map T (drop (i + 1) xs)) (subst (λ (l : List _). All P (map T l)) e (so_far.1 h)),
    )
