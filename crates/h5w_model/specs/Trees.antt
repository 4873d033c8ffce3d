-- The blocks of a version 2 B-tree with records of type 10
-- (HDF5 File Format Specification 3.0, "Version 2 B-trees"; the geometry is this project's profile).
use Rattle.std.specs.Prelude.{ℕ, zero, suc, ◌+◌, ◌-◌, ◌*◌, ◌/◌, Bool, List, [], ◌∷◌, ◌++◌, flat_map, nat_le, ◌==◌, Result, if◌then◌else◌, codes}
use Rattle.h5w_model.specs.Numbers.{le, field}
use Rattle.h5w_model.specs.Checked.{checked}
use Rattle.h5w_model.specs.Checksum.{sealed_block}
use Rattle.h5w_model.specs.Blocks.{block_tests}
use Rattle.h5w_model.specs.declared.cell.Key.{Key}
use Rattle.h5w_model.specs.declared.refusal.BlockFault.{BlockFault}
use Rattle.h5w_model.specs.declared.refusal.BlockFault.TheVariants.{Field}

abbrev pub node_size : ℕ
node_size = 2048

-- the bytes of a child pointer in a node of a depth: an address, the child's record count, and in depth 2 and 3
-- the number of records under the child in as many bytes as the depth
abbrev pub pointer_size : ℕ → ℕ
pointer_size zero = 0
pointer_size (suc zero) = 9
pointer_size (suc (suc d)) = 11 + d

-- the most records of a node of a depth, whose n records and n + 1 pointers fit with 10 bytes more
abbrev pub capacity_of : ℕ → ℕ
capacity_of depth = (node_size - 10 - pointer_size depth) / (24 + pointer_size depth)

-- the most records under a node of a depth, itself included
abbrev pub subtree_of : ℕ → ℕ
subtree_of zero = capacity_of zero
subtree_of (suc d) = capacity_of (suc d) + (capacity_of (suc d) + 1) * subtree_of d

-- a tree's header; total is the number of all records
pub record BthdFields : Type 0 where
  pub depth : ℕ
  pub root : ℕ
  pub records : ℕ
  pub total : ℕ

-- a chunk's address and its place in the grid of chunks
pub record RecordFields : Type 0 where
  pub address : ℕ
  pub key : Key

-- a pointer to a child: its address, its records, and the records under it, itself included
pub record ChildFields : Type 0 where
  pub address : ℕ
  pub records : ℕ
  pub total : ℕ

pub record BtinFields : Type 0 where
  pub records : List RecordFields
  pub children : List ChildFields

abbrev pub bthd_len : ℕ
bthd_len = 38

-- the header's fields, by place
abbrev pub bthd_tests : List ℕ → ℕ → List (Bool × BlockFault)
bthd_tests b place = block_tests (codes "BTHD") bthd_len b ++
    (field b 4 1 == 0, Field (place + 4) (field b 4 1))
    ∷ (field b 5 1 == 10, Field (place + 5) (field b 5 1))
    ∷ (field b 6 4 == node_size, Field (place + 6) (field b 6 4))
    ∷ (field b 10 2 == 24, Field (place + 10) (field b 10 2))
    ∷ (nat_le (field b 12 2) 3, Field (place + 12) (field b 12 2))
    ∷ (field b 14 1 == 100, Field (place + 14) (field b 14 1))
    ∷ (field b 15 1 == 40, Field (place + 15) (field b 15 1))
    ∷ (nat_le (field b 24 2) (capacity_of (field b 12 2)), Field (place + 24) (field b 24 2))
    ∷ []

abbrev pub bthd_fields : List ℕ → BthdFields
bthd_fields b = record { depth = field b 12 2; root = field b 16 8; records = field b 24 2; total = field b 26 8 }

abbrev pub bthd_at : List ℕ → ℕ → Result BthdFields BlockFault
bthd_at b place = checked (bthd_tests b place) (bthd_fields b)

-- n records that stand from a place on, one after another
abbrev pub records_in : List ℕ → ℕ → ℕ → List RecordFields
records_in b zero place = []
records_in b (suc n) place =
    record { address = field b place 8; key = record { i = field b (place + 8) 8; j = field b (place + 16) 8 } }
    ∷ records_in b n (place + 24)

-- n child pointers of a node of a depth, one after another; a leaf's total is its records
abbrev pub children_in : List ℕ → ℕ → ℕ → ℕ → List ChildFields
children_in b depth zero place = []
children_in b depth (suc n) place =
    record { address = field b place 8; records = field b (place + 8) 1; total = if nat_le depth 1 then field b (place + 8) 1 else field b (place + 9) depth }
    ∷ children_in b depth n (place + pointer_size depth)

-- a leaf of n records
abbrev pub btlf_len : ℕ → ℕ
btlf_len n = 10 + 24 * n

-- version and type of a node
abbrev pub node_tests : List ℕ → ℕ → List (Bool × BlockFault)
node_tests b place = (field b 4 1 == 0, Field (place + 4) (field b 4 1)) ∷ (field b 5 1 == 10, Field (place + 5) (field b 5 1)) ∷ []

abbrev pub btlf_at : List ℕ → ℕ → ℕ → Result (List RecordFields) BlockFault
btlf_at b place n = checked (block_tests (codes "BTLF") (btlf_len n) b ++ node_tests b place) (records_in b n 6)

-- an inner node of n records and its n + 1 children, by depth
abbrev pub btin_len : ℕ → ℕ → ℕ
btin_len n depth = 10 + 24 * n + (n + 1) * pointer_size depth

-- each child's record count is within its capacity
abbrev pub child_tests : List ℕ → ℕ → ℕ → ℕ → ℕ → List (Bool × BlockFault)
child_tests b place depth zero from = []
child_tests b place depth (suc n) from =
    (nat_le (field b (from + 8) 1) (capacity_of (depth - 1)), Field (place + from + 8) (field b (from + 8) 1))
    ∷ child_tests b place depth n (from + pointer_size depth)

abbrev pub btin_fields : List ℕ → ℕ → ℕ → BtinFields
btin_fields b n depth = record { records = records_in b n 6; children = children_in b depth (n + 1) (6 + 24 * n) }

abbrev pub btin_at : List ℕ → ℕ → ℕ → ℕ → Result BtinFields BlockFault
btin_at b place n depth =
    checked (block_tests (codes "BTIN") (btin_len n depth) b ++ node_tests b place ++ child_tests b place depth (n + 1) (6 + 24 * n)) (btin_fields b n depth)

-- the written spellings
abbrev pub bthd_bytes : BthdFields → List ℕ
bthd_bytes t = sealed_block
    (codes "BTHD" ++ 0 ∷ 10 ∷ le 4 node_size ++ le 2 24 ++ le 2 t.depth ++ 100 ∷ 40 ∷ le 8 t.root ++ le 2 t.records ++ le 8 t.total)

abbrev pub record_bytes : RecordFields → List ℕ
record_bytes r = le 8 r.address ++ le 8 r.key.i ++ le 8 r.key.j

abbrev pub child_bytes : ℕ → ChildFields → List ℕ
child_bytes depth c = le 8 c.address ++ le 1 c.records ++ (if nat_le depth 1 then [] else le depth c.total)

abbrev pub btlf_bytes : List RecordFields → List ℕ
btlf_bytes rs = sealed_block (codes "BTLF" ++ 0 ∷ 10 ∷ flat_map record_bytes rs)

abbrev pub btin_bytes : BtinFields → ℕ → List ℕ
btin_bytes t depth = sealed_block (codes "BTIN" ++ 0 ∷ 10 ∷ flat_map record_bytes t.records ++ flat_map (child_bytes depth) t.children)
