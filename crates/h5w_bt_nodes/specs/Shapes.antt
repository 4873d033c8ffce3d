-- The shape of a tree: how many records and children its nodes have.
use Rattle.std.specs.Prelude.{◌≡◌, ℕ, zero, suc, ◌+◌, ◌<◌, ◌≤◌, ◌^◌, length}
use Rattle.std.specs.List.{All}
use Rattle.h5w_model.specs.Trees.{capacity_of}
use Rattle.h5w_bt_nodes.specs.Nodes.{Tree, total_of}

-- An inner node whatever its keys are and whatever it says of how many records are under it: how many it has at most, and one child more
-- than records.
pub record IsShapedInner (d : ℕ) (most : ℕ) (below : Tree d → Type 0) (t : Tree (suc d)) : Type 0 where
  pub few : length t.records ≤ most
  pub children : length t.children ≡ length t.records + 1
  pub each : All below t.children

-- A tree whose root has at most so many records, and each other node at most its capacity; what the parent of a node says of the number of
-- records under it fits the bytes that there are for it.
abbrev pub IsShape : (d : ℕ) → ℕ → Tree d → Type 0
IsShape zero most t = length t.records ≤ most
IsShape (suc d) most t = IsShapedInner d most (λ (c : Tree d). IsShape d (capacity_of d) c × (total_of d c < 256 ^ suc d)) t

-- the same of a node below the root
abbrev pub IsShapedChild : (d : ℕ) → Tree d → Type 0
IsShapedChild d c = IsShape d (capacity_of d) c × (total_of d c < 256 ^ suc d)
