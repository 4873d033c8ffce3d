-- What an index of the code is.
use Rattle.h5w_bt_index.specs.Held as trees
use Rattle.h5w_index.specs.Views.{IndexView, an_array, a_tree}
use Rattle.h5w_index.specs.declared.index.Index.{Index}
use Rattle.h5w_index.specs.declared.index.Index.TheVariants.{Array, Tree}

abbrev pub view_of : Index → IndexView
view_of (Array v) = an_array v
view_of (Tree t) = a_tree (trees.header_place t) (trees.view_of t)
