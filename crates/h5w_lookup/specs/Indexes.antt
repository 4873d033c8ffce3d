-- The blocks in place of an index.
use Rattle.std.specs.Prelude.{◌≡◌, ℕ, ◌≤◌}
use Rattle.h5w_model.specs.Tables.{InPlace, nowhere, in_array, in_tree, format_limits}
use Rattle.h5w_model.specs.Trees.{capacity_of}
use Rattle.h5w_ea.specs.Fields.{eaib_of}
use Rattle.h5w_ea.specs.declared.index_block.Eaib.{Eaib}
use Rattle.h5w_bt.specs.Fields.{bthd_of}
use Rattle.h5w_bt.specs.declared.header.Bthd.{Bthd}
use Rattle.h5w_lookup.specs.declared.index.Index.{Index}
use Rattle.h5w_lookup.specs.declared.index.Index.TheVariants.{Nowhere, Array, Tree}

abbrev pub in_place_of : Index → InPlace
in_place_of Nowhere = nowhere
in_place_of (Array e) = in_array (eaib_of e)
in_place_of (Tree t) = in_tree (bthd_of t)

-- n chunks can be looked up in it: an array has numbers for them, and a tree's root is as its header says
pub record IsIndexOf (n : ℕ) (index : Index) : Type 0 where
  pub numbered : (e : Eaib) → index ≡ Array e → n ≤ format_limits.array
  pub shallow : (t : Bthd) → index ≡ Tree t → t.depth ≤ 3
  pub few : (t : Bthd) → index ≡ Tree t → t.records ≤ capacity_of t.depth
