-- The nodes of a tree that a session holds: a tree of depth 0 is a leaf, one of depth d + 1 a node whose children are trees of depth d.
use Rattle.std.specs.Prelude.{ℕ, zero, suc, Bool, List, [], ◌∷◌, ◌++◌, map, if◌then◌else◌, Option, Some, None, slice_get, length}
use Rattle.h5w_model.specs.declared.cell.Key.{Key}
use Rattle.h5w_model.specs.Tables.{key_below, key_equal}
use Rattle.h5w_bt.specs.declared.records.Record.{Record}

pub record LeafNode : Type 0 where
  pub records : List Record
  -- where it stands in the file, undefined while it was never written
  pub place : ℕ
  -- what stands there says what it says
  pub clean : Bool

pub record InnerNode (T : Type 0) : Type 0 where
  pub records : List Record
  pub children : List T
  -- how many records are under it, its own included
  pub total : ℕ
  pub place : ℕ
  pub clean : Bool

abbrev pub Tree : ℕ → Type 0
Tree zero = LeafNode
Tree (suc d) = InnerNode (Tree d)

-- the records of the node itself
abbrev pub records_of : (d : ℕ) → Tree d → List Record
records_of zero t = t.records
records_of (suc d) t = t.records

-- how many records are under it, as it says
abbrev pub total_of : (d : ℕ) → Tree d → ℕ
total_of zero t = length t.records
total_of (suc d) t = t.total

-- records with what is under the children around them: before the first, between two, and behind the last
abbrev pub joined : List Record → List (List Record) → List Record
joined rs [] = []
joined [] (c ∷ cs) = c
joined (r ∷ rs) (c ∷ cs) = c ++ r ∷ joined rs cs

-- all records, in their order
abbrev pub all_records : (d : ℕ) → Tree d → List Record
all_records zero t = t.records
all_records (suc d) t = joined t.records (map (all_records d) t.children)

-- how many records stand before the first that is not below the key
abbrev pub rank : Key → List Record → ℕ
rank key [] = 0
rank key (r ∷ rs) = if key_below r.key key then suc (rank key rs) else 0

-- the address of the first record not below the key, where that has the key
abbrev pub address_in : Key → List Record → Option ℕ
address_in key [] = None
address_in key (r ∷ rs) =
    if key_below r.key key then address_in key rs
    else if key_equal r.key key then Some r.address else None

-- the address of the record of a key, found from the root
abbrev pub found : (d : ℕ) → Key → Tree d → Option ℕ
found zero key t = address_in key t.records
found (suc d) key t =
    elim (address_in key t.records) [
      | Some address ↦ Some address
      | None ↦ elim (slice_get t.children (rank key t.records)) [ None ↦ None | Some c ↦ found d key c ]
    ]
