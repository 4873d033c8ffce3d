-- The index of a session, whichever its kind.
use Rattle.std.specs.Prelude.{◌≡◌, ◌≢◌, ℕ, ◌<◌, ◌==◌, Bool, true, List, [], ◌∷◌}
use Rattle.h5w_model.specs.Numbers.{undefined}
use Rattle.h5w_model.specs.Tables.{key_equal, format_limits}
use Rattle.h5w_model.specs.Findings.{Used}
use Rattle.h5w_model.specs.declared.cell.Key.{Key}
use Rattle.h5w_model.specs.declared.cell.IndexKind.{IndexKind}
use Rattle.h5w_model.specs.declared.cell.IndexKind.TheVariants as kinds
use Rattle.h5w_space.specs.Space.{Space}
use Rattle.h5w_cache.specs.Stores.{Store, is_changed}
use Rattle.h5w_cache.specs.StoreLaws.{Standing}
use Rattle.h5w_array_laws.specs.Parts.{holder, number_of}
use Rattle.h5w_array_laws.specs.ArrayStores as arrays
use Rattle.h5w_array_laws.specs.ArrayImages.{StandsArray}
use Rattle.h5w_ea_index.specs.Reach as reach
use Rattle.h5w_bt_index.specs.Marks.{clean_of}
use Rattle.h5w_bt_index.specs.Index.{Index, IsIndex, IsThere, address_of}
use Rattle.h5w_tree_index_laws.specs.TreeImages as trees
use Rattle.h5w_tree_index_laws.specs.TreeFlushes.{TreeStands, header_range}

-- an extensible array, as the store of its blocks; or a version 2 B-tree, and where its header stands
pub data IndexView : Type 0 where
  an_array : Store → IndexView
  a_tree : ℕ → Index → IndexView

abbrev pub kind_of : IndexView → IndexKind
kind_of (an_array v) = kinds.Array
kind_of (a_tree place v) = kinds.Tree

-- where its header stands
abbrev pub header_place : IndexView → ℕ
header_place (an_array v) = arrays.header_place v
header_place (a_tree place v) = place

-- ---- The map

-- the address of a chunk by its key, undefined where it has none: an array goes by the key's number in dimension 0
abbrev pub address_in : IndexView → Key → ℕ
address_in (an_array v) key = arrays.map_of v key.i
address_in (a_tree place v) key = address_of v key

-- the other key is this one
abbrev pub is_key : IndexView → Key → Key → Bool
is_key (an_array v) key other = other.i == key.i
is_key (a_tree place v) key other = key_equal key other

-- the index can have the key: an array whose data blocks have no pages has 131,060 chunks at most
abbrev pub TakesKey : IndexView → Key → Type 0
TakesKey (an_array v) key = key.i < format_limits.array
TakesKey (a_tree place v) key = Unit {0}

-- readers look for the chunk's address: HDF5's library takes each chunk from the max index set of an array's header on for one without an
-- address
abbrev pub IsReached : IndexView → Key → Type 0
IsReached (an_array v) key = reach.IsReached key.i v
IsReached (a_tree place v) key = Unit {0}

-- each chunk that was reached and has an address is reached
abbrev pub KeepsReach : IndexView → IndexView → Type 0
KeepsReach v w = (key : Key) → address_in w key ≢ undefined → IsReached v key → IsReached w key

-- a place is held for the key: the block of its slot is changed, or a record is there
abbrev pub HasSlot : IndexView → Key → Type 0
HasSlot (an_array v) key = (key.i < format_limits.array) × (is_changed v (number_of (holder key.i)) ≡ true)
HasSlot (a_tree place v) key = IsThere v key

-- ---- Its ranges

-- those of the blocks in place
abbrev pub fixed_of : IndexView → List Used
fixed_of (an_array v) = arrays.fixed_of v
fixed_of (a_tree place v) = header_range place ∷ []

-- those behind the blocks in place, with chunks of so many bytes
abbrev pub behind_of : ℕ → IndexView → List Used
behind_of bytes (an_array v) = arrays.behind_of bytes v
behind_of bytes (a_tree place v) = trees.behind_of bytes v

-- ---- What holds of it

pub record IsSoundTree (place : ℕ) (v : Index) : Type 0 where
  pub index : IsIndex v
  pub defined : place ≢ undefined

abbrev pub IsSound : IndexView → Type 0
IsSound (an_array v) = arrays.IsArray v
IsSound (a_tree place v) = IsSoundTree place v

-- nothing changed since it was written
abbrev pub IsClean : IndexView → Type 0
IsClean (an_array v) = v.changed ≡ []
IsClean (a_tree place v) = clean_of v.depth v.root ≡ true

-- the places of its blocks are live and apart; those of a tree's nodes are what its file's ranges are, which a session knows to be live
abbrev pub Stays : IndexView → Space → Type 0
Stays (an_array v) s = Standing v s
Stays (a_tree place v) s = Unit {0}

-- what did not change stands in the image, and so do the blocks in place
abbrev pub StandsOn : IndexView → List ℕ → Type 0
StandsOn (an_array v) img = StandsArray v img
StandsOn (a_tree place v) img = TreeStands place v img
