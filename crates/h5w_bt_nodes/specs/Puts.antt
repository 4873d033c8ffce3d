-- A record more in a tree, and how nodes are divided.
use Rattle.std.specs.Prelude.{ℕ, zero, suc, ◌+◌, ◌/◌, ◌==◌, ◌&&◌, Bool, false, List, [], ◌∷◌, length, take, drop, if◌then◌else◌, nat_lt, Some, None, slice_get, slice_index_or, slice_set}
use Rattle.std.specs.List.{insert, sum_by}
use Rattle.std.specs.Option.{is_some}
use Rattle.h5w_model.specs.declared.cell.Key.{Key}
use Rattle.h5w_model.specs.Numbers.{undefined}
use Rattle.h5w_model.specs.Tables.{key_below, key_equal}
use Rattle.h5w_model.specs.Trees.{capacity_of}
use Rattle.h5w_bt.specs.declared.records.Record.{Record}
use Rattle.h5w_bt_nodes.specs.Nodes.{LeafNode, Tree, records_of, total_of, rank, address_in}

-- the record at its place: in the place of one of the same key, or between those below and those above
abbrev pub put_record : Record → List Record → List Record
put_record x [] = x ∷ []
put_record x (r ∷ rs) =
    if key_below r.key x.key then r ∷ put_record x rs
    else if key_equal r.key x.key then x ∷ rs
    else x ∷ r ∷ rs

-- the element at a place changed
abbrev pub changed_at : {A : Type 0} → ℕ → (A → A) → List A → List A
changed_at i f [] = []
changed_at zero f (x ∷ xs) = f x ∷ xs
changed_at (suc i) f (x ∷ xs) = x ∷ changed_at i f xs

-- so many records are under a node
abbrev pub counted : (d : ℕ) → List Record → List (Tree d) → ℕ
counted d rs cs = length rs + sum_by (total_of d) cs

-- a node that changed
abbrev pub changed_leaf : List Record → ℕ → LeafNode
changed_leaf rs place = record { records = rs; place = place; clean = false }

abbrev pub changed_node : (d : ℕ) → List Record → List (Tree d) → ℕ → Tree (suc d)
changed_node d rs cs place = record { records = rs; children = cs; total = counted d rs cs; place = place; clean = false }

abbrev pub no_record : Record
no_record = record { address = 0; key = record { i = 0; j = 0 } }

-- a node with a record too many is divided: so many of its records stay, the next goes up, the rest go right, into a new node
abbrev pub half : ℕ → ℕ
half d = capacity_of d / 2

abbrev pub left_of : (d : ℕ) → Tree d → Tree d
left_of zero t = changed_leaf (take (half zero) t.records) t.place
left_of (suc d) t = changed_node d (take (half (suc d)) t.records) (take (suc (half (suc d))) t.children) t.place

abbrev pub middle_of : (d : ℕ) → Tree d → Record
middle_of d t = slice_index_or (records_of d t) (half d) no_record

abbrev pub right_of : (d : ℕ) → Tree d → Tree d
right_of zero t = changed_leaf (drop (suc (half zero)) t.records) undefined
right_of (suc d) t = changed_node d (drop (suc (half (suc d))) t.records) (drop (suc (half (suc d))) t.children) undefined

-- it has more records than there is room for
abbrev pub is_over : (d : ℕ) → Tree d → Bool
is_over d t = nat_lt (capacity_of d) (length (records_of d t))

-- the child at a place is divided
abbrev pub with_divided : (d : ℕ) → ℕ → Tree (suc d) → Tree d → Tree (suc d)
with_divided d i t c =
    changed_node d (insert t.records i (middle_of d c)) (insert (slice_set t.children i (left_of d c)) (suc i) (right_of d c)) t.place

-- the child at a place is divided where it has a record too many
abbrev pub settled : (d : ℕ) → ℕ → Tree (suc d) → Tree (suc d)
settled d i t = elim (slice_get t.children i) [ None ↦ t | Some c ↦ (if is_over d c then with_divided d i t c else t) ]

-- the record is put into the tree, whose root may have one too many then
abbrev pub put : (d : ℕ) → Record → Tree d → Tree d
put zero x t = changed_leaf (put_record x t.records) t.place
put (suc d) x t =
    if is_some (address_in x.key t.records) then record t { records = put_record x t.records; clean = false }
    else settled d (rank x.key t.records) (changed_node d t.records (changed_at (rank x.key t.records) (put d x) t.children) t.place)

-- a root that had a record too many, with its two parts
abbrev pub raised : (d : ℕ) → Tree d → Tree (suc d)
raised d t = changed_node d (middle_of d t ∷ []) (left_of d t ∷ right_of d t ∷ []) undefined

-- each node on the way to a key is full
abbrev pub is_full_path : (d : ℕ) → Key → Tree d → Bool
is_full_path zero key t = length t.records == capacity_of zero
is_full_path (suc d) key t =
    (length t.records == capacity_of (suc d))
    && elim (slice_get t.children (rank key t.records)) [ None ↦ false | Some c ↦ is_full_path d key c ]
