-- The chunks' addresses, and the rows that an image reads as.
use Rattle.std.specs.Prelude.{◌≡◌, ℕ, zero, suc, ◌+◌, ◌-◌, ◌*◌, ◌/◌, ◌%◌, ◌<◌, Bool, ◌||◌, ◌&&◌, List, [], ◌∷◌, length, get_or, map, slice_get, nat_lt, ◌==◌, if◌then◌else◌, Option, Some, None, Result, Ok, Err, ℤ}
use Rattle.std.specs.List.{range_with_len}
use Rattle.h5w_model.specs.Numbers.{range, undefined}
use Rattle.h5w_model.specs.Programs.{Prog, ret, whole, stored, eval, and_then}
use Rattle.h5w_model.specs.Arrays.{EaibFields, eahd_at, eaib_at, easb_at, eadb_at, eahd_len, eaib_len, slots_len, super_block_of, place_of}
use Rattle.h5w_model.specs.Trees.{RecordFields, ChildFields, BthdFields, bthd_at, btlf_at, btin_at, bthd_len, btlf_len, btin_len}
use Rattle.h5w_model.specs.Integers.{value_at, fill_value}
use Rattle.h5w_model.specs.Logs.{div_up}
use Rattle.h5w_model.specs.Datasets.{Described, dataset, dataset_place, then_also, refused_as}
use Rattle.h5w_model.specs.declared.cell.Key.{Key}
use Rattle.h5w_model.specs.declared.cell.IndexKind.{IndexKind}
use Rattle.h5w_model.specs.declared.cell.IndexKind.TheVariants.{Array, Tree}
use Rattle.h5w_model.specs.declared.cell.Place.TheVariants.{Index, Direct, Second}
use Rattle.h5w_model.specs.declared.refusal.ReadError.{ReadError}
use Rattle.h5w_model.specs.declared.refusal.ReadError.TheVariants.{Damaged, TooManyChunks}

-- the answers of some programs, one after another
abbrev pub each_of : {K A E : Type 0} → (K → Prog (Result A E)) → List K → Prog (Result (List A) E)
each_of p [] = ret (Ok [])
each_of p (k ∷ ks) = and_then (p k) (λ a. and_then (each_of p ks) (λ rest. ret (Ok (a ∷ rest))))

-- ---- The extensible array

-- the kinds of blocks behind those in place
abbrev pub data_block : ℕ
data_block = 0

abbrev pub secondary_block : ℕ
secondary_block = 1

abbrev pub tree_leaf : ℕ
tree_leaf = 2

-- an inner node of a depth
abbrev pub tree_node : ℕ → ℕ
tree_node depth = 2 + depth

-- the super block of a data block that the index block names
abbrev pub super_block_of_first : ℕ → ℕ
super_block_of_first block = if nat_lt block 2 then block else if nat_lt block 4 then 2 else 3

-- a slot of the data block of n slots at an address; all are undefined where that is
abbrev pub data_slot : ℕ → ℕ → ℕ → Prog (Result ℕ ReadError)
data_slot address n slot =
    if address == undefined then ret (Ok undefined)
    else stored data_block address (slots_len n) (λ b.
    ret (then_also (refused_as (Damaged address) (eadb_at b address n)) (λ d. Ok (get_or d.slots slot undefined))))

-- a slot of a data block that the secondary block at an address names
abbrev pub secondary_slot : ℕ → ℕ → ℕ → ℕ → Prog (Result ℕ ReadError)
secondary_slot address sblock block slot =
    if address == undefined then ret (Ok undefined)
    else stored secondary_block address (slots_len (super_block_of sblock).blocks) (λ b.
    elim (easb_at b address (super_block_of sblock).blocks) [
      | Ok s ↦ data_slot (get_or s.slots block undefined) (super_block_of sblock).slots slot
      | Err f ↦ ret (Err (Damaged address f))
    ])

-- the address of chunk i
abbrev pub array_slot : EaibFields → ℕ → Prog (Result ℕ ReadError)
array_slot e i =
    elim (place_of i) [
      | Index slot ↦ ret (Ok (get_or e.slots slot undefined))
      | Direct block slot ↦ data_slot (get_or e.first block undefined) (super_block_of (super_block_of_first block)).slots slot
      | Second sblock block slot ↦ secondary_slot (get_or e.second (sblock - 4) undefined) sblock block slot
    ]

-- ---- The tree

-- keys compare by dimension 0, then 1
abbrev pub key_below : Key → Key → Bool
key_below a b = nat_lt a.i b.i || ((a.i == b.i) && nat_lt a.j b.j)

abbrev pub key_equal : Key → Key → Bool
key_equal a b = (a.i == b.i) && (a.j == b.j)

-- the address of a key among the records of a leaf: the first record not below the key decides
abbrev pub in_leaf : Key → List RecordFields → ℕ
in_leaf key [] = undefined
in_leaf key (r ∷ rs) =
    if key_below r.key key then in_leaf key rs
    else if key_equal r.key key then r.address else undefined

-- at the first record not below the key: its address where the keys are equal, else on to the child there
abbrev pub in_node : (ChildFields → Prog (Result ℕ ReadError)) → Key → List RecordFields → List ChildFields → Prog (Result ℕ ReadError)
in_node go key rs [] = ret (Ok undefined)
in_node go key [] (c ∷ cs) = go c
in_node go key (r ∷ rs) (c ∷ cs) =
    if key_below r.key key then in_node go key rs cs
    else if key_equal r.key key then ret (Ok r.address) else go c

-- the address of a key under the node of a depth at an address, with n records
abbrev pub tree_lookup : ℕ → Key → ℕ → ℕ → Prog (Result ℕ ReadError)
tree_lookup zero key address n =
    stored tree_leaf address (btlf_len n) (λ b. ret (then_also (refused_as (Damaged address) (btlf_at b address n)) (λ rs. Ok (in_leaf key rs))))
tree_lookup (suc depth) key address n =
    stored (tree_node (suc depth)) address (btin_len n (suc depth)) (λ b.
    elim (btin_at b address n (suc depth)) [
      | Ok t ↦ in_node (λ c. tree_lookup depth key c.address c.records) key t.records t.children
      | Err f ↦ ret (Err (Damaged address f))
    ])

-- ---- The blocks in place

-- What the blocks in place say, which are written again where they stand: that no chunk has an address (no index, no
-- index block, or an empty tree), the index block of an array, or the header of a tree.
pub data InPlace : Type 0 where
  nowhere : InPlace
  in_array : EaibFields → InPlace
  in_tree : BthdFields → InPlace

-- those of the array whose header is at an address
abbrev pub array_in_place : ℕ → Prog (Result InPlace ReadError)
array_in_place address =
    whole address eahd_len (λ h.
    elim (eahd_at h address) [
      | Ok a ↦ (if a.block == undefined then ret (Ok nowhere) else
          whole a.block eaib_len (λ b. ret (then_also (refused_as (Damaged a.block) (eaib_at b a.block)) (λ e. Ok (in_array e)))))
      | Err f ↦ ret (Err (Damaged address f))
    ])

-- that of the tree whose header is at an address
abbrev pub tree_in_place : ℕ → Prog (Result InPlace ReadError)
tree_in_place address =
    whole address bthd_len (λ h. ret (then_also (refused_as (Damaged address) (bthd_at h address)) (λ t.
    Ok (if t.root == undefined then nowhere else in_tree t))))

abbrev pub in_place : Described → Prog (Result InPlace ReadError)
in_place d =
    if d.layout.address == undefined then ret (Ok nowhere)
    else elim d.layout.index [ Array ↦ array_in_place d.layout.address | Tree ↦ tree_in_place d.layout.address ]

-- the address of a chunk, behind the blocks in place
abbrev pub address_behind : InPlace → Key → Prog (Result ℕ ReadError)
address_behind nowhere key = ret (Ok undefined)
address_behind (in_array e) key = array_slot e key.i
address_behind (in_tree t) key = tree_lookup t.depth key t.root t.records

-- ---- Needed chunks

-- the most chunks of a dataset that are read, by kind of index
pub record Limits : Type 0 where
  pub array : ℕ
  pub tree : ℕ

-- those of the format: data blocks without pages, and this project's choice
abbrev pub format_limits : Limits
format_limits = record { array = 131060; tree = 1000000 }

abbrev pub limit_of : Limits → IndexKind → ℕ
limit_of l Array = l.array
limit_of l Tree = l.tree

-- how many bands of rows, and how many chunks side by side
abbrev pub bands : Described → ℕ
bands d = div_up d.shape.rows d.layout.chunk_rows

abbrev pub chunks_across : Described → ℕ
chunks_across d = div_up d.shape.cols d.layout.chunk_cols

abbrev pub needed : Described → ℕ
needed d = bands d * chunks_across d

-- the number of the chunk of a band of rows and a place in it: along the bands, and in each over the chunks side by side
abbrev pub chunk_number : Described → ℕ → ℕ → ℕ
chunk_number d i j = i * chunks_across d + j

-- how many keys of an index stand side by side: an extensible array counts its chunks one by one, a tree has them by both dimensions
abbrev pub keys_across : Described → ℕ
keys_across d = elim d.layout.index [ Array ↦ 1 | Tree ↦ chunks_across d ]

-- the key by which the index has the chunk of a number
abbrev pub index_key : Described → ℕ → Key
index_key d n = record { i = n / keys_across d; j = n % keys_across d }

-- the keys of the needed chunks, which are numbered from 0 without a gap, in rising order
abbrev pub needed_keys : Described → List Key
needed_keys d = map (index_key d) (range_with_len 0 (needed d))

-- the addresses of some chunks; without keys nothing is looked at
abbrev pub table_of : Described → List Key → Prog (Result (List ℕ) ReadError)
table_of d [] = ret (Ok [])
table_of d (k ∷ ks) = and_then (in_place d) (λ p. each_of (address_behind p) (k ∷ ks))

-- the addresses of the needed chunks, in the order of their keys, within the limits
abbrev pub needed_table : Limits → Described → Prog (Result (List ℕ) ReadError)
needed_table limits d =
    if nat_lt (limit_of limits d.layout.index) (needed d) then ret (Err (TooManyChunks (needed d) (limit_of limits d.layout.index)))
    else table_of d (needed_keys d)

-- what a reader knows of a dataset
pub record Reading : Type 0 where
  pub place : ℕ
  pub dataset : Described
  pub table : List ℕ

-- from the superblock to the addresses of the needed chunks
abbrev pub reading : Limits → List ℕ → Prog (Result Reading ReadError)
reading limits name =
    and_then (dataset_place name) (λ at. and_then (dataset at) (λ d. and_then (needed_table limits d) (λ t. ret (Ok (record { place = at; dataset = d; table = t })))))

-- the image shows this
abbrev pub Shows : Limits → List ℕ → List ℕ → Reading → Type 0
Shows limits img name r = eval img (reading limits name) ≡ Ok r

-- the image fails by this refusal, that of the first step that fails
abbrev pub Fails : Limits → List ℕ → List ℕ → ReadError → Type 0
Fails limits img name e = eval img (reading limits name) ≡ Err e

-- ---- Cells

-- where the cell of a row and a column stands in its chunk, in bytes
abbrev pub cell_offset : Described → ℕ → ℕ → ℕ
cell_offset d row column = (row % d.layout.chunk_rows * d.layout.chunk_cols + column % d.layout.chunk_cols) * d.int_type.size

-- the address of the chunk of a row and a column
abbrev pub chunk_address : Reading → ℕ → ℕ → ℕ
chunk_address r row column =
    get_or r.table (chunk_number r.dataset (row / r.dataset.layout.chunk_rows) (column / r.dataset.layout.chunk_cols)) undefined

-- the value of the type at a place, where its bytes are inside the image
abbrev pub value_in : List ℕ → Described → ℕ → Option ℤ
value_in img d place =
    if length (range img place d.int_type.size) == d.int_type.size then Some (value_at (range img place d.int_type.size) d.int_type) else None

-- the value of a cell: the fill where its chunk has no address
abbrev pub cell : List ℕ → Reading → ℕ → ℕ → Option ℤ
cell img r row column =
    if chunk_address r row column == undefined then Some (fill_value r.dataset.fill r.dataset.int_type)
    else value_in img r.dataset (chunk_address r row column + cell_offset r.dataset row column)

-- the values of all rows, one after another, where all are inside the image
abbrev pub cells : List ℕ → Reading → List (Option ℤ)
cells img r = map (λ k. cell img r (k / r.dataset.shape.cols) (k % r.dataset.shape.cols)) (range_with_len 0 (r.dataset.shape.rows * r.dataset.shape.cols))

-- the image reads as so many rows of so many columns, with these values, row by row
pub record Reads (img name : List ℕ) (rows columns : ℕ) (values : List ℤ) : Type 0 where
  pub shown : Reading
  pub shows : Shows format_limits img name shown
  pub rows_are : shown.dataset.shape.rows ≡ rows
  pub columns_are : shown.dataset.shape.cols ≡ columns
  pub count : length values ≡ shown.dataset.shape.rows * shown.dataset.shape.cols
  pub values_are : (k : ℕ) → k < length values → cell img shown (k / shown.dataset.shape.cols) (k % shown.dataset.shape.cols) ≡ slice_get values k
