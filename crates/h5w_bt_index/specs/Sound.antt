-- What holds of the trees of a session.
use Rattle.std.specs.Prelude.{◌≡◌, ℕ, zero, suc, ◌+◌, ◌*◌, ◌/◌, ◌≤◌, true, List, [], ◌∷◌, length}
use Rattle.std.specs.List.{All}
use Rattle.h5w_model.specs.Tables.{key_below}
use Rattle.h5w_model.specs.Trees.{capacity_of}
use Rattle.h5w_bt.specs.declared.records.Record.{Record}
use Rattle.h5w_bt_nodes.specs.Nodes.{Tree}
use Rattle.h5w_bt_nodes.specs.Puts.{counted}

-- keys strictly rise
abbrev pub IsRising : List Record → Type 0
IsRising [] = Unit {0}
IsRising (r ∷ rs) = All (λ (s : Record). key_below r.key s.key ≡ true) rs × IsRising rs

-- an inner node: how many records it has at most, one child more than records, and it says how many are under it
pub record IsInner (d : ℕ) (most : ℕ) (below : Tree d → Type 0) (t : Tree (suc d)) : Type 0 where
  pub few : length t.records ≤ most
  pub children : length t.children ≡ length t.records + 1
  pub total : t.total ≡ counted d t.records t.children
  pub each : All below t.children

-- a tree whose root has at most so many records, and each other node at most its capacity
abbrev pub IsSound : (d : ℕ) → ℕ → Tree d → Type 0
IsSound zero most t = length t.records ≤ most
IsSound (suc d) most t = IsInner d most (IsSound d (capacity_of d)) t

-- each node below the root has at least its depth's share of records, and the root at least so many
abbrev pub AtLeast : (ℕ → ℕ) → (d : ℕ) → ℕ → Tree d → Type 0
AtLeast share zero least t = least ≤ length t.records
AtLeast share (suc d) least t = (least ≤ length t.records) × All (AtLeast share d (share d)) t.children

-- two fifths of a node's capacity: so many records HDF5's library leaves in each node but the root, also where records are removed
abbrev pub two_fifths : ℕ → ℕ
two_fifths d = capacity_of d * 2 / 5
