-- What an index of the code is.
use Rattle.std.specs.Prelude.{ℕ}
use Rattle.h5w_bt_index.specs.Index.{Index, index_of}
use Rattle.h5w_bt_index.specs.declared.index.TreeIndex.{TreeIndex}

abbrev pub view_of : TreeIndex → Index
view_of t = index_of t.root

-- where its header stands
abbrev pub header_place : TreeIndex → ℕ
header_place t = t.header
