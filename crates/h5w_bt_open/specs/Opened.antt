-- A tree that is opened: what its nodes are on the image, and which lookup is refused.
use Rattle.std.specs.Prelude.{◌≡◌, ◌⊎◌, ℕ, zero, suc, ◌+◌, ◌<◌, ◌≤◌, ◌^◌, Bool, true, false, List, [], ◌∷◌, length, map, Option, Some, None, Result, Ok, Err}
use Rattle.std.specs.List.{All}
use Rattle.h5w_model.specs.Numbers.{range, undefined}
use Rattle.h5w_model.specs.Programs.{Prog, and_then, eval}
use Rattle.h5w_model.specs.Trees.{BthdFields, BtinFields, ChildFields, RecordFields, bthd_at, bthd_len, btin_at, btin_len, btlf_at, btlf_len, capacity_of}
use Rattle.h5w_model.specs.Tables.{address_behind, in_node, key_below, tree_in_place, tree_lookup}
use Rattle.h5w_model.specs.declared.cell.Key.{Key}
use Rattle.h5w_model.specs.declared.refusal.BlockFault.{BlockFault}
use Rattle.h5w_model.specs.declared.refusal.ReadError.{ReadError}
use Rattle.h5w_model.specs.declared.refusal.ReadError.TheVariants.{Damaged}
use Rattle.h5w_bt.specs.declared.records.Record.{Record}
use Rattle.h5w_bt.specs.Parts.{record_of}
use Rattle.h5w_bt_nodes.specs.Nodes.{Tree}
use Rattle.h5w_bt_index.specs.Marks.{IsMarked, clean_of}
use Rattle.h5w_bt_nodes.specs.Puts.{counted}
use Rattle.h5w_bt_nodes.specs.Shapes.{IsShape, IsShapedChild}
use Rattle.h5w_bt_index.specs.Index.{Index, no_tree}
use Rattle.h5w_bt_open.specs.declared.span.Span.{Span}
use Rattle.h5w_bt_open.specs.Spans.{IsKey, high_of, low_behind, low_of, rest, span_here}

-- ---- Lookups

-- what a lookup of a key finds on an image: behind a pointer to a node of a depth, below a node of the next, and from a header on
abbrev pub looked_up : List ℕ → (d : ℕ) → ChildFields → Key → Result ℕ ReadError
looked_up img d c key = eval img (tree_lookup d key c.address c.records)

abbrev pub going : (d : ℕ) → Key → ChildFields → Prog (Result ℕ ReadError)
going d key c = tree_lookup d key c.address c.records

abbrev pub looked_below : List ℕ → (d : ℕ) → List RecordFields → List ChildFields → Key → Result ℕ ReadError
looked_below img d rs cs key = eval img (in_node (going d key) key rs cs)

abbrev pub index_lookup : ℕ → Key → Prog (Result ℕ ReadError)
index_lookup header key = and_then (tree_in_place header) (λ p. address_behind p key)

abbrev pub looked_in : List ℕ → ℕ → Key → Result ℕ ReadError
looked_in img header key = eval img (index_lookup header key)

-- Of all keys that lead there, the least one whose lookup is refused is refused so.
pub record IsRefused (ask : Key → Result ℕ ReadError) (leads : Key → Type 0) (at : ℕ) (f : BlockFault) : Type 0 where
  pub key : Key
  pub fits : IsKey key
  pub led : leads key
  pub is : ask key ≡ Err (Damaged at f)
  pub before : (k : Key) → IsKey k → leads k → key_below k key ≡ true → (a : ℕ) × (ask k ≡ Ok a)

-- ---- Nodes that are passed over

abbrev pub no_key : Key
no_key = record { i = undefined; j = undefined }

abbrev pub no_chunk : Record
no_chunk = record { address = undefined; key = no_key }

abbrev pub nowhere_below : ChildFields
nowhere_below = record { address = undefined; records = 0; total = 0 }

-- A node that stands for one that was passed over, where that one is. It has two records of one key, itself or below it: so of no tree that
-- has it do the keys rise. None of these has an address.
abbrev pub passed_of : (d : ℕ) → ChildFields → Tree d
passed_of zero c = record { records = no_chunk ∷ no_chunk ∷ []; place = c.address; clean = true }
passed_of (suc d) c = record { records = []; children = passed_of d nowhere_below ∷ []; total = c.total; place = c.address; clean = true }

-- ---- Nodes

-- the leaf to which a pointer leads
pub record IsLeaf (read : Result (List RecordFields) BlockFault) (c : ChildFields) (t : Tree zero) : Type 0 where
  pub records : read ≡ Ok (map record_of t.records)
  pub place : t.place ≡ c.address
  pub clean : t.clean ≡ true

-- the inner node to which a pointer leads, of whose children this holds
pub record IsInner (d : ℕ) (read : Result BtinFields BlockFault) (below : List Record → List ChildFields → List (Tree d) → Type 0) (c : ChildFields) (t : Tree (suc d)) : Type 0 where
  pub fields : BtinFields
  pub reads : read ≡ Ok fields
  pub records : map record_of t.records ≡ fields.records
  pub children : below t.records fields.children t.children
  pub total : t.total ≡ c.total
  pub place : t.place ≡ c.address
  pub clean : t.clean ≡ true

-- a node that is refused, and to which no key leads
pub record IsPassed {A : Type 0} (d : ℕ) (read : Result A BlockFault) (c : ChildFields) (s : Option Span) (t : Tree d) : Type 0 where
  pub fault : BlockFault
  pub refused : read ≡ Err fault
  pub unneeded : s ≡ None
  pub is : t ≡ passed_of d c

-- children from the first on, each by its pointer and by the keys that lead to it
abbrev pub EachOpened : {T : Type 0} → (ChildFields → Option Span → T → Type 0) → Option Key → Option Key → List Record → List ChildFields → List T → Type 0
EachOpened R low high rs [] [] = Unit {0}
EachOpened R low high rs [] (t ∷ ts) = ⊥
EachOpened R low high rs (c ∷ cs) [] = ⊥
EachOpened R low high rs (c ∷ cs) (t ∷ ts) = R c (span_here low high rs) t × EachOpened R (low_behind low rs) high (rest rs) cs ts

-- The tree behind a pointer, to which these keys lead: each node is what stands in the image, or was passed over.
abbrev pub IsOpened : List ℕ → (d : ℕ) → ChildFields → Option Span → Tree d → Type 0
IsOpened img zero c s t =
    IsLeaf (btlf_at (range img c.address (btlf_len c.records)) c.address c.records) c t
    ⊎ IsPassed zero (btlf_at (range img c.address (btlf_len c.records)) c.address c.records) c s t
IsOpened img (suc d) c s t =
    IsInner d (btin_at (range img c.address (btin_len c.records (suc d))) c.address c.records (suc d)) (EachOpened (IsOpened img d) (low_of s) (high_of s)) c t
    ⊎ IsPassed (suc d) (btin_at (range img c.address (btin_len c.records (suc d))) c.address c.records (suc d)) c s t

-- how many records are under a node by the pointer to it
abbrev pub said : (d : ℕ) → ChildFields → ℕ
said zero c = c.records
said (suc d) c = c.total

-- an inner node says as many records under it as the pointer to it
abbrev pub SaysTotal : (d : ℕ) → ChildFields → Tree d → Type 0
SaysTotal zero c t = Unit {0}
SaysTotal (suc d) c t = t.total ≡ c.total

-- it has the shape of a tree, says what the pointer to it says, and is clean with all that is under it
pub record IsHeld (d : ℕ) (c : ChildFields) (t : Tree d) : Type 0 where
  pub shape : IsShape d (capacity_of d) t
  pub total : SaysTotal d c t
  pub clean : clean_of d t ≡ true
  pub marked : IsMarked d t

-- a pointer that was read: to no more records than there is room for, and with a number that fits its bytes
pub record IsChild (d : ℕ) (c : ChildFields) : Type 0 where
  pub few : c.records ≤ capacity_of d
  pub fits : said d c < 256 ^ suc d

-- an inner node that was read has so many records, and one pointer more, to no more records than there is room for
pub record IsRead (d n : ℕ) (v : BtinFields) : Type 0 where
  pub records : length v.records ≡ n
  pub children : length v.children ≡ n + 1
  pub pointers : All (IsChild d) v.children

-- nodes below another, clean with all that is under them
pub record AreWhole (d : ℕ) (ts : List (Tree d)) : Type 0 where
  pub shapes : All (IsShapedChild d) ts
  pub clean : All (λ (t : Tree d). clean_of d t ≡ true) ts
  pub marked : All (IsMarked d) ts

-- what was read is the leaf, or is refused and not needed, and another node stands for it
abbrev pub IsLeafIn : Result (List RecordFields) BlockFault → ChildFields → Bool → Tree zero → Type 0
IsLeafIn read c needed t = IsLeaf read c t ⊎ (((f : BlockFault) × (read ≡ Err f)) × ((needed ≡ false) × (t ≡ passed_of zero c)))

-- ---- The tree

abbrev pub from_key : Key → Option Span
from_key first = Some (record { from = first; to = None })

-- how many records are under a node, by what its children say
abbrev pub told_under : (d : ℕ) → Tree d → ℕ
told_under zero t = length t.records
told_under (suc d) t = counted d t.records t.children

-- a node that says so itself
abbrev pub counted_node : (d : ℕ) → Tree d → Tree d
counted_node zero t = t
counted_node (suc d) t = record t { total = counted d t.records t.children }

-- a pointer with another number of records under the node
abbrev pub with_total : ChildFields → ℕ → ChildFields
with_total c total = record c { total = total }

abbrev pub root_pointer : BthdFields → ℕ → ChildFields
root_pointer h total = record { address = h.root; records = h.records; total = total }

-- Its header stands there, and names no root, or the root behind which is what stands, from this key on. The root says as many records under
-- it as its children do, and not as the header does: no reader looks at that number, nor does a check.
pub record IsStanding (img : List ℕ) (header : ℕ) (first : Key) (v : Index) : Type 0 where
  pub fields : BthdFields
  pub read : bthd_at (range img header bthd_len) header ≡ Ok fields
  pub none : fields.root ≡ undefined → v ≡ no_tree
  pub root : (fields.root ≡ undefined → ⊥) → (v.depth ≡ fields.depth) × IsOpened img v.depth (root_pointer fields (told_under v.depth v.root)) (from_key first) v.root
