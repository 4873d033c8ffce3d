-- A tree of any depth as a finite map from keys to addresses.
use Rattle.std.specs.Option.{unwrap_or}
use Rattle.std.specs.Prelude.{◌≡◌, ℕ, suc, ◌≤◌, ◌==◌, true, false, List, [], map, if◌then◌else◌, Option, Some, None}
use Rattle.h5w_model.specs.declared.cell.Key.{Key}
use Rattle.h5w_model.specs.Numbers.{undefined}
use Rattle.h5w_model.specs.Tables.{in_leaf, key_equal}
use Rattle.h5w_model.specs.Trees.{capacity_of}
use Rattle.h5w_bt.specs.declared.records.Record.{Record}
use Rattle.h5w_bt.specs.Parts.{record_of}
use Rattle.h5w_bt_nodes.specs.Nodes.{Tree, LeafNode, all_records, address_in, found}
use Rattle.h5w_bt_nodes.specs.Puts.{half, put, put_record, is_over, is_full_path, raised}
use Rattle.h5w_bt_nodes.specs.Shapes.{IsShape}
use Rattle.h5w_bt_index.specs.Sound.{IsRising, IsSound, AtLeast, two_fifths}
use Rattle.h5w_bt_index.specs.Marks.{IsMarked, Part, IsCleanPart, clean_of}
use Rattle.h5w_bt_nodes.specs.Typed.{leaf_of, inner_of}
use Rattle.h5w_bt_index.specs.declared.root.Root.{Root}
use Rattle.h5w_bt_index.specs.declared.root.Root.TheVariants.{Zero, One, Two, Three}

pub record Index : Type 0 where
  pub depth : ℕ
  pub root : Tree depth

-- its records, by rising key
abbrev pub records : Index → List Record
records v = all_records v.depth v.root

-- the address of a key: that of the first record not below it, where that has the key, else undefined
abbrev pub address_of : Index → Key → ℕ
address_of v key = in_leaf key (map record_of (records v))

abbrev pub defined : ℕ → Option ℕ
defined address = if address == undefined then None else Some address

-- a record has the key
abbrev pub IsThere : Index → Key → Type 0
IsThere v key = address_in key (records v) ≡ None → ⊥

abbrev pub blank_leaf : LeafNode
blank_leaf = record { records = []; place = undefined; clean = true }

-- a tree without records
abbrev pub no_tree : Index
no_tree = record { depth = 0; root = blank_leaf }

-- a root with a record too many is divided below a new root
abbrev pub regrown : (d : ℕ) → Tree d → Index
regrown d t = if is_over d t then record { depth = suc d; root = raised d t } else record { depth = d; root = t }

-- with a record at its place
abbrev pub inserted : Record → Index → Index
inserted x v = regrown v.depth (put v.depth x v.root)

-- what the way from the root finds for a key, in a tree of any file
abbrev pub found_by : Index → Key → Option ℕ
found_by v key = found v.depth key v.root

abbrev pub found_address : Index → Key → ℕ
found_address v key = unwrap_or (found_by v key) undefined

-- no record of the key is found, and one more would make a tree of depth 4
pub record IsBlocked (v : Index) (key : Key) : Type 0 where
  pub absent : found_by v key ≡ None
  pub deepest : v.depth ≡ 3
  pub full : is_full_path v.depth key v.root ≡ true

-- a record more would make a tree of depth 4
pub record IsDeep (v : Index) (key : Key) : Type 0 where
  pub absent : address_in key (records v) ≡ None
  pub deepest : v.depth ≡ 3
  pub full : is_full_path v.depth key v.root ≡ true

-- What holds of a tree of any file, and after each call: its depth, how many records and children each node has, and that a node that did
-- not change has no child that changed.
pub record IsShaped (v : Index) : Type 0 where
  pub shallow : v.depth ≤ 3
  pub shape : IsShape v.depth (capacity_of v.depth) v.root
  pub marked : IsMarked v.depth v.root

-- Keys rise besides, and each node says how many records are under it: the tree is the map of its records.
pub record IsIndex (v : Index) : Type 0 where
  pub shallow : v.depth ≤ 3
  pub sound : IsSound v.depth (capacity_of v.depth) v.root
  pub rises : IsRising (records v)
  pub marked : IsMarked v.depth v.root

-- a clean node with all that is under it
abbrev pub IsClean : Part → Index → Type 0
IsClean p v = IsCleanPart p v.depth v.root

-- each node but the root has at least its depth's share of records
abbrev pub HasShares : (ℕ → ℕ) → Index → Type 0
HasShares share v = AtLeast share v.depth 0 v.root

-- half of its capacity, as in a tree that was made here
abbrev pub IsHalfFull : Index → Type 0
IsHalfFull v = HasShares half v

-- two fifths of it, as in each tree that HDF5's library made
abbrev pub IsFilled : Index → Type 0
IsFilled v = HasShares two_fifths v

-- whatever share of no more than half of their capacity all nodes but the root of a tree have, those of the other have it
abbrev pub KeepsShares : Index → Index → Type 0
KeepsShares v w = (share : ℕ → ℕ) → ((d : ℕ) → share d ≤ half d) → HasShares share v → HasShares share w

-- the keys of some records
abbrev pub keys_of : List Record → List Key
keys_of rs = map (λ (r : Record). r.key) rs

-- The record of a key is another one: the map changes at that key alone, the records keep their number, their order and their keys, the
-- tree its depth, and what is clean was so before; the root is changed.
pub record IsReplaced (x : Record) (v w : Index) : Type 0 where
  pub map : (key : Key) → address_of w key ≡ (if key_equal x.key key then x.address else address_of v key)
  pub sorted : records w ≡ put_record x (records v)
  pub keys : keys_of (records w) ≡ keys_of (records v)
  pub depth : w.depth ≡ v.depth
  pub there : (key : Key) → IsThere v key → IsThere w key
  pub index : IsIndex w
  pub shares : KeepsShares v w
  pub clean : (p : Part) → IsClean p w → IsClean p v
  pub changed : clean_of w.depth w.root ≡ false

-- the root of the code
abbrev pub index_of : Root → Index
index_of (Zero t) = record { depth = 0; root = leaf_of t }
index_of (One t) = record { depth = 1; root = inner_of 0 leaf_of t }
index_of (Two t) = record { depth = 2; root = inner_of 1 (inner_of 0 leaf_of) t }
index_of (Three t) = record { depth = 3; root = inner_of 2 (inner_of 1 (inner_of 0 leaf_of)) t }
