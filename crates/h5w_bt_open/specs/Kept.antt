-- A tree of a file that a session can keep, and what is known of one that it cannot.
use Rattle.std.specs.Prelude.{ℕ, zero, suc, ◌<◌, ◌==◌, ◌^◌, List, [], ◌∷◌, ◌++◌, flat_map, length, if◌then◌else◌}
use Rattle.h5w_model.specs.Numbers.{undefined}
use Rattle.h5w_model.specs.Trees.{capacity_of, node_size}
use Rattle.h5w_model.specs.declared.cell.Key.{Key}
use Rattle.h5w_space.specs.Space.{extent}
use Rattle.h5w_space.specs.declared.Extent.{Extent}
use Rattle.h5w_bt_nodes.specs.Nodes.{Tree}
use Rattle.h5w_bt_index.specs.Sound.{IsRising, IsSound}
use Rattle.h5w_bt_index.specs.Index.{Index, IsIndex, IsShaped, records}
use Rattle.h5w_bt_index.specs.Held.{view_of}
use Rattle.h5w_bt_index.specs.declared.index.TreeIndex.{TreeIndex}
use Rattle.h5w_bt_open.specs.Opened.{IsStanding}
use Rattle.h5w_bt_open.specs.declared.kept.Kept.{Kept}
use Rattle.h5w_bt_open.specs.declared.kept.Kept.TheVariants.{Tree as kept_tree, WrongTotals, Unordered}

-- ---- Trees that are kept

-- This is the tree that stands behind the header, and a session keeps it: its keys rise, and each of its nodes says how many records are
-- under it. Numbers of eight bytes name each byte of the image.
pub record IsKeptTree (img : List ℕ) (header : ℕ) (first : Key) (v : Index) : Type 0 where
  pub short : length img < 2 ^ 64
  pub standing : IsStanding img header first v
  pub kept : IsIndex v

-- another tree stands behind the header: some node does not say how many records are under it
pub record HasWrongTotals (img : List ℕ) (header : ℕ) (first : Key) : Type 0 where
  pub tree : Index
  pub standing : IsStanding img header first tree
  pub shaped : IsShaped tree
  pub wrong : IsSound tree.depth (capacity_of tree.depth) tree.root → ⊥

-- or all do, but the keys do not rise
pub record IsUnordered (img : List ℕ) (header : ℕ) (first : Key) : Type 0 where
  pub tree : Index
  pub standing : IsStanding img header first tree
  pub shaped : IsShaped tree
  pub sound : IsSound tree.depth (capacity_of tree.depth) tree.root
  pub unordered : IsRising (records tree) → ⊥

-- where the answer is a tree it is the one that is kept; else another stands there
abbrev pub KeptOrOther : List ℕ → ℕ → Key → Kept → Type 0
KeptOrOther img header first (kept_tree t) = IsKeptTree img header first (view_of t)
KeptOrOther img header first WrongTotals = HasWrongTotals img header first
KeptOrOther img header first Unordered = IsUnordered img header first

-- what holds of the tree, where the answer is one
abbrev pub IfTree : Kept → (TreeIndex → Type 0) → Type 0
IfTree (kept_tree t) P = P t
IfTree WrongTotals P = Unit {0}
IfTree Unordered P = Unit {0}

-- ---- Ranges

-- the range of a node at a place; none where the place is undefined
abbrev pub own_extent : ℕ → List Extent
own_extent place = if place == undefined then [] else extent place node_size ∷ []

-- the ranges of a node and of those under it, in the order of the looks: its own, then those of its children
abbrev pub node_ranges : (d : ℕ) → Tree d → List Extent
node_ranges zero t = own_extent t.place
node_ranges (suc d) t = own_extent t.place ++ flat_map (node_ranges d) t.children

abbrev pub ranges_of : Index → List Extent
ranges_of v = node_ranges v.depth v.root
