-- Which nodes changed since they were written.
use Rattle.std.specs.Prelude.{◌≡◌, ℕ, zero, suc, Bool, true, List, [], ◌∷◌, ◌⊎◌}
use Rattle.std.specs.List.{All}
use Rattle.h5w_bt_nodes.specs.Nodes.{Tree}

abbrev pub clean_of : (d : ℕ) → Tree d → Bool
clean_of zero t = t.clean
clean_of (suc d) t = t.clean

-- a tree of some depth
pub record Part : Type 0 where
  pub depth : ℕ
  pub tree : Tree depth

abbrev pub Some_of : {A : Type 0} → (A → Type 0) → List A → Type 0
Some_of P [] = ⊥
Some_of P (x ∷ xs) = P x ⊎ Some_of P xs

-- the part is the tree, or stands under it, and its root is clean
abbrev pub IsCleanPart : Part → (d : ℕ) → Tree d → Type 0
IsCleanPart p zero t = (t.clean ≡ true) × (p ≡ record { depth = zero; tree = t })
IsCleanPart p (suc d) t = ((t.clean ≡ true) × (p ≡ record { depth = suc d; tree = t })) ⊎ Some_of (IsCleanPart p d) t.children

-- a clean node has no child that changed
abbrev pub IsMarked : (d : ℕ) → Tree d → Type 0
IsMarked zero t = Unit {0}
IsMarked (suc d) t = (t.clean ≡ true → All (λ (c : Tree d). clean_of d c ≡ true) t.children) × All (IsMarked d) t.children
