-- The nodes of a tree whose changed nodes got new places.
use Rattle.std.proofs.Common.{◌≡◌, ℕ, zero, suc, ◌+◌, ◌<◌, ◌≤◌, ◌^◌, Bool, true, false, List, [], ◌∷◌, length, map, drop, refl, sym, ap, ap₂, subst, ◌∙◌, sum_by, if◌then◌else◌}
use Rattle.std.proofs.lemmas.List.Elements.{All-cons, All-head, All-tail, All-nil}
use Rattle.std.proofs.lemmas.List.Sums.{sum_by-cons}
use Rattle.std.specs.List.{All}
use Rattle.h5w_bt.specs.declared.records.Record.{Record}
use Rattle.h5w_bt_nodes.specs.Nodes.{Tree, records_of, total_of}
use Rattle.h5w_bt_nodes.specs.Shapes.{IsShape, IsShapedChild}
use Rattle.h5w_bt_nodes.specs.Blocks.{changes, each_by, placed}

-- what holds of both holds of either
pub either : {A : Type 0} (P : A → Type 0) (b : Bool) (x y : A) → (b ≡ true → P x) → (b ≡ false → P y) → P (if b then x else y)
either P true x y p q = p refl
either P false x y p q = q refl

-- ---- Lists

pub each_map : {T B : Type 0} (g : T → B) (f : List ℕ → T → T) (n : T → ℕ) (ps : List ℕ) (cs : List T) → ((qs : List ℕ) (c : T) → g (f qs c) ≡ g c) → map g (each_by f n ps cs) ≡ map g cs
each_map g f n ps [] h = refl
each_map g f n ps (c ∷ cs) h = ap₂ (λ x l. x ∷ l) (h ps c) (each_map g f n (drop (n c) ps) cs h)

pub each_sum : {T : Type 0} (g : T → ℕ) (f : List ℕ → T → T) (n : T → ℕ) (ps : List ℕ) (cs : List T) → ((qs : List ℕ) (c : T) → g (f qs c) ≡ g c) → sum_by g (each_by f n ps cs) ≡ sum_by g cs
each_sum g f n ps [] h = refl
each_sum g f n ps (c ∷ cs) h = sum_by-cons g (f ps c) (each_by f n (drop (n c) ps) cs) ∙ ap₂ (λ (x y : ℕ). x + y) (h ps c) (each_sum g f n (drop (n c) ps) cs h) ∙ sym (sum_by-cons g c cs)

pub each_length : {T A : Type 0} (f : List ℕ → T → A) (n : T → ℕ) (ps : List ℕ) (cs : List T) → length (each_by f n ps cs) ≡ length cs
each_length f n ps [] = refl
each_length f n ps (c ∷ cs) = ap suc (each_length f n (drop (n c) ps) cs)

pub each_all : {T : Type 0} (P Q : T → Type 0) (f : List ℕ → T → T) (n : T → ℕ) (ps : List ℕ) (cs : List T) → ((qs : List ℕ) (c : T) → P c → Q (f qs c)) → All P cs → All Q (each_by f n ps cs)
each_all P Q f n ps [] h a = All-nil Q
each_all P Q f n ps (c ∷ cs) h a = All-cons Q (f ps c) (each_by f n (drop (n c) ps) cs) (h ps c (All-head P c cs a)) (each_all P Q f n (drop (n c) ps) cs h (All-tail P c cs a))

pub each_any : {T : Type 0} (Q : T → Type 0) (f : List ℕ → T → T) (n : T → ℕ) (ps : List ℕ) (cs : List T) → ((qs : List ℕ) (c : T) → Q (f qs c)) → All Q (each_by f n ps cs)
each_any Q f n ps [] h = All-nil Q
each_any Q f n ps (c ∷ cs) h = All-cons Q (f ps c) (each_by f n (drop (n c) ps) cs) (h ps c) (each_any Q f n (drop (n c) ps) cs h)

-- ---- What stays

pub placed_own : (d : ℕ) (ps : List ℕ) (t : Tree d) → records_of d (placed d ps t) ≡ records_of d t
placed_own zero ps t = either (λ (u : Tree zero). u.records ≡ t.records) t.clean _ _ (λ e. refl) (λ e. refl)
placed_own (suc d) ps t = either (λ (u : Tree (suc d)). u.records ≡ t.records) t.clean _ _ (λ e. refl) (λ e. refl)

pub placed_total : (d : ℕ) (ps : List ℕ) (t : Tree d) → total_of d (placed d ps t) ≡ total_of d t
placed_total zero ps t = ap length (placed_own zero ps t)
placed_total (suc d) ps t = either (λ (u : Tree (suc d)). u.total ≡ t.total) t.clean _ _ (λ e. refl) (λ e. refl)

pub placed_shape : (d m : ℕ) (ps : List ℕ) (t : Tree d) → IsShape d m t → IsShape d m (placed d ps t)
placed_shape zero m ps t s = subst (λ (l : List Record). length l ≤ m) (sym (placed_own zero ps t)) s
placed_shape (suc d) m ps t s =
    either (IsShape (suc d) m) t.clean _ _ (λ e. s) (λ e. record {
      few = s.few;
      children = each_length (placed d) (changes d) ps t.children ∙ s.children;
      each = each_all (IsShapedChild d) (IsShapedChild d) (placed d) (changes d) ps t.children
          (λ qs c p. (placed_shape d _ qs c p.0, subst (λ (n : ℕ). n < 256 ^ suc d) (sym (placed_total d qs c)) p.1)) s.each;
    })
