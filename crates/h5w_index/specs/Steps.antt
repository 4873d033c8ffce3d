-- What the calls make of an index, kind by kind.
use Rattle.std.specs.Prelude.{◌≡◌, ℕ, ◌+◌, ◌<◌, ◌≤◌, max, true, List, length}
use Rattle.h5w_model.specs.Numbers.{undefined}
use Rattle.h5w_model.specs.declared.cell.Key.{Key}
use Rattle.h5w_model.specs.declared.piece.Write.{Write}
use Rattle.h5w_model.specs.Tables.{format_limits}
use Rattle.h5w_space.specs.Space.{Space}
use Rattle.h5w_space.specs.declared.Full.{Full}
use Rattle.h5w_cache.specs.Plans as block_plans
use Rattle.h5w_cache.specs.Plans.{HasNoRoom}
use Rattle.h5w_cache.specs.Stores.{Store, is_changed, times}
use Rattle.h5w_cache.specs.Starts as stores
use Rattle.h5w_cache.specs.declared.moves.Move.{Move}
use Rattle.h5w_array_laws.specs.Parts.{holder, number_of}
use Rattle.h5w_array_laws.specs.ArrayStores.{IsArray, IsNumbered}
use Rattle.h5w_array_laws.specs.ArrayPlans.{IsArrayPlan}
use Rattle.h5w_ea_index.specs.Steps as slots
use Rattle.h5w_ea_index.specs.Reach.{KeepsReach, max_index_set}
use Rattle.h5w_bt.specs.declared.records.Record.{Record}
use Rattle.h5w_bt_index.specs.Index as trees
use Rattle.h5w_bt_index.specs.Index.{Index, IsReplaced, inserted}
use Rattle.h5w_bt_nodes.specs.Blocks.{changes}
use Rattle.h5w_bt_index.specs.Plans as nodes
use Rattle.h5w_index.specs.Views.{IndexView, an_array, a_tree}
use Rattle.h5w_index.specs.declared.flush.IndexFlush.{IndexFlush}
use Rattle.h5w_index.specs.declared.flush.IndexFlush.TheVariants.{Array, Tree}

-- ---- The blocks on the way to a key

-- They are there, in an array; map and ranges stay. The max index set is no less.
pub record ArrayHeld (i : ℕ) (v w : Store) : Type 0 where
  pub held : slots.IsHeld v w
  pub reach : max_index_set v ≤ max_index_set w
  pub way : slots.Touches (slots.OnWay (holder i)) v w
  pub array : IsArray w
  pub numbered : IsNumbered v → IsNumbered w

-- a tree is as it was
abbrev pub IsHeld : Key → IndexView → IndexView → Type 0
IsHeld key (an_array v) (an_array w) = ArrayHeld key.i v w
IsHeld key (a_tree p v) (a_tree q w) = (q ≡ p) × (w ≡ v)
IsHeld key (an_array v) (a_tree q w) = ⊥
IsHeld key (a_tree p v) (an_array w) = ⊥

-- a record of the key would make a tree of depth 4
abbrev pub IsDeep : IndexView → Key → Type 0
IsDeep (an_array v) key = ⊥
IsDeep (a_tree p v) key = trees.IsDeep v key

-- ---- A chunk gets an address, or has none again

-- the blocks on the way to its slot are there, and the max index set is above it
pub record ArraySet (i address : ℕ) (v w : Store) : Type 0 where
  pub set : slots.IsSet i address v w
  pub slot : (i < format_limits.array) × (is_changed w (number_of (holder i)) ≡ true)
  pub reach : max_index_set w ≡ max (max_index_set v) (i + 1)
  pub way : slots.Touches (slots.OnWay (holder i)) v w
  pub array : IsArray w
  pub numbered : IsNumbered v → IsNumbered w

pub record ArrayUnset (i : ℕ) (v w : Store) : Type 0 where
  pub unset : slots.IsUnset i v w
  pub reach : KeepsReach v w
  pub way : slots.Touches (slots.IsSlotOrHeader i) v w
  pub array : IsArray w
  pub numbered : IsNumbered v → IsNumbered w

-- a record is in the place of the one with its key, or is one more
pub record TreeSet (x : Record) (v w : Index) : Type 0 where
  pub is : w ≡ inserted x v
  pub index : trees.IsIndex w

abbrev pub IsSet : Key → ℕ → IndexView → IndexView → Type 0
IsSet key address (an_array v) (an_array w) = ArraySet key.i address v w
IsSet key address (a_tree p v) (a_tree q w) = (q ≡ p) × TreeSet (record { address = address; key = key }) v w
IsSet key address (an_array v) (a_tree q w) = ⊥
IsSet key address (a_tree p v) (an_array w) = ⊥

-- a record without an address
abbrev pub blank : Key → Record
blank key = record { address = undefined; key = key }

-- the record of the key is another
pub record TreeUnset (key : Key) (v w : Index) : Type 0 where
  pub is : w ≡ inserted (blank key) v
  pub replaced : IsReplaced (blank key) v w

abbrev pub IsUnset : Key → IndexView → IndexView → Type 0
IsUnset key (an_array v) (an_array w) = ArrayUnset key.i v w
IsUnset key (a_tree p v) (a_tree q w) = (q ≡ p) × TreeUnset key v w
IsUnset key (an_array v) (a_tree q w) = ⊥
IsUnset key (a_tree p v) (an_array w) = ⊥

-- ---- The plan of what changed

-- how many pieces the copies of a plan that is begun will be, and those of the blocks in place
abbrev pub copy_pieces : IndexFlush → ℕ
copy_pieces (Array b) = stores.copy_pieces b
copy_pieces (Tree b) = length b.copies

abbrev pub in_place_pieces : IndexFlush → ℕ
in_place_pieces (Array b) = stores.in_place_pieces b
in_place_pieces (Tree b) = length b.in_place

abbrev pub moves_of : IndexFlush → List Move
moves_of (Array b) = b.moves
moves_of (Tree b) = b.moves

-- it was begun of this index, on places that are others then: the copies have their places, and those that their blocks had are retired
abbrev pub IsBegun : IndexView → Space → IndexFlush → Space → Type 0
IsBegun (an_array v) s (Array b) t = stores.IsBegun v.blocks v.places v.changed s b t
IsBegun (a_tree p v) s (Tree b) t = nodes.IsBegun p v s b t
IsBegun (an_array v) s (Tree b) t = ⊥
IsBegun (a_tree p v) s (Array b) t = ⊥

-- it was begun of this index, on some places
abbrev pub WasBegun : IndexView → IndexFlush → Type 0
WasBegun (an_array v) (Array b) = stores.WasBegun v.blocks v.places v.changed b
WasBegun (a_tree p v) (Tree b) = nodes.WasBegun p v b
WasBegun (an_array v) (Tree b) = ⊥
WasBegun (a_tree p v) (Array b) = ⊥

-- no block of an array is listed twice among those that changed; a tree marks its nodes
abbrev pub ListsOnce : IndexView → Type 0
ListsOnce (an_array v) = (n : ℕ) → times n v.changed ≤ 1
ListsOnce (a_tree p v) = Unit {0}

-- the places of some blocks were taken, and none that a block had is retired
abbrev pub TookSome : IndexView → Space → Space → Type 0
TookSome (an_array v) s t = block_plans.TookSome v.blocks v.places s t
TookSome (a_tree p v) s t = nodes.TookSome s t

-- the first block of an array in turn that has no place; none is listed twice
pub record ArrayNoPlace (v : Store) (s : Space) (e : Full) : Type 0 where
  pub once : (n : ℕ) → times n v.changed ≤ 1
  pub refused : HasNoRoom v.blocks v.places v.changed s e

-- the first block in turn that has no place
abbrev pub HasNoPlace : IndexView → Space → Full → Type 0
HasNoPlace (an_array v) s e = ArrayNoPlace v s e
HasNoPlace (a_tree p v) s e = nodes.HasNoPlace (changes v.depth v.root) s e

-- what changed is written: copies at new places, then the blocks in place
abbrev pub IsPlan : IndexView → Space → List Move → List Write → List Write → IndexView → Space → Type 0
IsPlan (an_array v) s ms copies fixed (an_array w) t = IsArrayPlan v s ms copies fixed w t
IsPlan (a_tree p v) s ms copies fixed (a_tree q w) t = (q ≡ p) × nodes.IsTreePlan p v s ms copies fixed w t
IsPlan (an_array v) s ms copies fixed (a_tree q w) t = ⊥
IsPlan (a_tree p v) s ms copies fixed (an_array w) t = ⊥
