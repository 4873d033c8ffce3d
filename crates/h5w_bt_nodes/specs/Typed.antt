-- The nodes of the code as those of the definitions.
use Rattle.std.specs.Prelude.{◌≡◌, ℕ, suc, ◌≤◌, [], map, vec_capacity}
use Rattle.h5w_bt_nodes.specs.Nodes.{LeafNode, Tree}
use Rattle.h5w_bt_nodes.specs.declared.leaf.Leaf.{Leaf}
use Rattle.h5w_bt_nodes.specs.declared.inner.Inner.{Inner}

abbrev pub leaf_of : Leaf → LeafNode
leaf_of t = record { records = t.records.items; place = t.place; clean = t.clean }

abbrev pub inner_of : {C : Type 0} → (d : ℕ) → (C → Tree d) → Inner C → Tree (suc d)
inner_of d tree t =
    record { records = t.records.items; children = map tree t.children.items; total = t.total; place = t.place; clean = t.clean }

-- a node without records, and with room for those of a node that is divided
pub record IsRoomyLeaf (t : Leaf) : Type 0 where
  pub empty : t.records.items ≡ []
  pub room : 85 ≤ vec_capacity t.records

pub record IsRoomyInner {C : Type 0} (t : Inner C) : Type 0 where
  pub empty : t.records.items ≡ []
  pub childless : t.children.items ≡ []
  pub room : 85 ≤ vec_capacity t.records
  pub room_below : 86 ≤ vec_capacity t.children
