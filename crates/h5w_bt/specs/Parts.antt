-- Records and child pointers of the code as the definitions' records, and what of a tree can be written.
use Rattle.std.specs.Prelude.{◌≡◌, ◌+◌, ◌-◌, ◌*◌, ◌<◌, ◌≤◌, ◌^◌, ◌++◌, ◌==◌, ℕ, Bool, List, length, nat_le, if◌then◌else◌, codes}
use Rattle.std.specs.List.{All}
use Rattle.h5w_model.specs.Numbers.{field}
use Rattle.h5w_model.specs.Trees.{BthdFields, RecordFields, ChildFields, BtinFields, capacity_of, btin_len, node_tests, child_tests}
use Rattle.h5w_model.specs.Blocks.{block_tests}
use Rattle.h5w_model.specs.declared.refusal.BlockFault.{BlockFault}
use Rattle.h5w_model.specs.declared.refusal.BlockFault.TheVariants.{Field}
use Rattle.h5w_bt.specs.declared.records.Record.{Record}
use Rattle.h5w_bt.specs.declared.children.Child.{Child}

abbrev pub record_of : Record → RecordFields
record_of r = record { address = r.address; key = r.key }

abbrev pub child_of : Child → ChildFields
child_of c = record { address = c.address; records = c.records; total = c.total }

-- the record at a place, and the child pointer at one, in a node of a depth
abbrev pub record_in : List ℕ → ℕ → RecordFields
record_in b place = record { address = field b place 8; key = record { i = field b (place + 8) 8; j = field b (place + 16) 8 } }

abbrev pub child_in : List ℕ → ℕ → ℕ → ChildFields
child_in b depth place = record {
  address = field b place 8;
  records = field b (place + 8) 1;
  total = if nat_le depth 1 then field b (place + 8) 1 else field b (place + 9) depth;
}

-- each number of a record fits its bytes
pub record IsRecord (r : RecordFields) : Type 0 where
  pub address : r.address < 2 ^ 64
  pub row : r.key.i < 2 ^ 64
  pub column : r.key.j < 2 ^ 64

-- the number of a block at a place is this one
abbrev pub number_test : List ℕ → ℕ → ℕ → ℕ → ℕ → Bool × BlockFault
number_test b place at width wanted = (field b at width == wanted, Field (place + at) (field b at width))

-- the tests of an inner node of a depth with n records
abbrev pub btin_tests : List ℕ → ℕ → ℕ → ℕ → List (Bool × BlockFault)
btin_tests b place n depth = block_tests (codes "BTIN") (btin_len n depth) b ++ node_tests b place ++ child_tests b place depth (n + 1) (6 + 24 * n)

-- the fields of a tree's header that can be written: a depth from 0 to 3, and no more records in the root than it has room for
pub record IsHeader (t : BthdFields) : Type 0 where
  pub shallow : t.depth ≤ 3
  pub few : t.records ≤ capacity_of t.depth

-- a child pointer that can be written in a node of a depth: the child has no more records than it has room for, a leaf's total is
-- its records, and another child's total fits as many bytes as the depth
pub record IsPointer (depth : ℕ) (c : ChildFields) : Type 0 where
  pub few : c.records ≤ capacity_of (depth - 1)
  pub leaf : depth ≤ 1 → c.total ≡ c.records
  pub inner : 1 < depth → c.total < 256 ^ depth

-- the fields of an inner node of a depth that can be written
pub record IsNode (depth : ℕ) (t : BtinFields) : Type 0 where
  pub deep : 1 ≤ depth
  pub shallow : depth ≤ 3
  pub few : length t.records ≤ capacity_of depth
  pub count : length t.children ≡ length t.records + 1
  pub pointers : All (IsPointer depth) t.children
