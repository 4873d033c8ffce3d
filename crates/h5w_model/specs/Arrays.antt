-- The blocks of an extensible array
-- (HDF5 File Format Specification 3.0, "The Extensible Array Index"; the geometry is this project's profile).
use Rattle.std.specs.Prelude.{◌≡◌, ℕ, zero, suc, ◌+◌, ◌-◌, ◌*◌, ◌/◌, ◌%◌, ◌^◌, ◌<◌, Bool, List, [], ◌∷◌, ◌++◌, flat_map, nat_lt, ◌==◌, Result, if◌then◌else◌, codes}
use Rattle.h5w_model.specs.Numbers.{le, field, halvings}
use Rattle.h5w_model.specs.Checked.{checked}
use Rattle.h5w_model.specs.Checksum.{sealed_block}
use Rattle.h5w_model.specs.Blocks.{block_tests}
use Rattle.h5w_model.specs.declared.cell.Place.{Place}
use Rattle.h5w_model.specs.declared.cell.Place.TheVariants.{Index, Direct, Second}
use Rattle.h5w_model.specs.declared.refusal.BlockFault.{BlockFault}
use Rattle.h5w_model.specs.declared.refusal.BlockFault.TheVariants.{Field}

-- a super block: its data blocks, the slots of each, and its first slot, counted after the first 4 of all
pub record SuperBlock : Type 0 where
  pub blocks : ℕ
  pub slots : ℕ
  pub start : ℕ

abbrev pub super_block_of : ℕ → SuperBlock
super_block_of s = record { blocks = 2 ^ (s / 2); slots = 16 * 2 ^ ((s + 1) / 2); start = 16 * (2 ^ s - 1) }

-- the same by its numbers
abbrev pub super_block : ℕ → ℕ → ℕ → SuperBlock
super_block m n from = record { blocks = m; slots = n; start = from }

-- the table of the super blocks 0 to 12; the data blocks of those from 13 on are split into pages
abbrev pub super_blocks : List SuperBlock
super_blocks =
    super_block 1 16 0
    ∷ super_block 1 32 16
    ∷ super_block 2 32 48
    ∷ super_block 2 64 112
    ∷ super_block 4 64 240
    ∷ super_block 4 128 496
    ∷ super_block 8 128 1008
    ∷ super_block 8 256 2032
    ∷ super_block 16 256 4080
    ∷ super_block 16 512 8176
    ∷ super_block 32 512 16368
    ∷ super_block 32 1024 32752
    ∷ super_block 64 1024 65520
    ∷ []

-- a slot behind the first 4, by super block, data block in it and slot in that
pub record SlotPlace : Type 0 where
  pub sblock : ℕ
  pub block : ℕ
  pub slot : ℕ

-- where slot j stands, counted after the first 4
abbrev pub slot_place_of : ℕ → SlotPlace
slot_place_of j =
    let s = halvings 63 (j / 16 + 1) in
    let b = super_block_of s in
    record { sblock = s; block = (j - b.start) / b.slots; slot = (j - b.start) % b.slots }

-- the place is that of slot j, and lies inside
pub record IsSlotPlace (j : ℕ) (p : SlotPlace) : Type 0 where
  pub number : (super_block_of p.sblock).start + p.block * (super_block_of p.sblock).slots + p.slot ≡ j
  pub block_inside : p.block < (super_block_of p.sblock).blocks
  pub slot_inside : p.slot < (super_block_of p.sblock).slots

-- how many data blocks the super blocks before this one have
abbrev pub blocks_before : ℕ → ℕ
blocks_before zero = 0
blocks_before (suc s) = blocks_before s + (super_block_of s).blocks

-- the data blocks of super blocks 0 to 3 are named by the index block, those of the others by secondary blocks
abbrev pub named_place : SlotPlace → Place
named_place p = if nat_lt p.sblock 4 then Direct (blocks_before p.sblock + p.block) p.slot else Second p.sblock p.block p.slot

-- where the slot of chunk number i stands
abbrev pub place_of : ℕ → Place
place_of i = if nat_lt i 4 then Index i else named_place (slot_place_of (i - 4))

-- n numbers of 8 bytes each that stand from a place on, one after another
unfoldable pub numbers_in : List ℕ → ℕ → ℕ → List ℕ
numbers_in b zero place = []
numbers_in b (suc n) place = field b place 8 ∷ numbers_in b n (place + 8)

-- numbers in 8 bytes each, one after another
unfoldable pub number_bytes : List ℕ → List ℕ
number_bytes numbers = flat_map (le 8) numbers

-- a byte that has one value
abbrev pub byte_test : List ℕ → ℕ → ℕ → ℕ → Bool × BlockFault
byte_test b place o v = (field b o 1 == v, Field (place + o) (field b o 1))

-- an array's header: secondary blocks, their bytes, data blocks, their bytes, max index set, number of elements;
-- and the index block's address
pub record EahdFields : Type 0 where
  pub numbers : List ℕ
  pub block : ℕ

abbrev pub eahd_len : ℕ
eahd_len = 72

-- version, client, element size, max bits, index elements, min data block elements, min pointers, page bits
abbrev pub parameter_tests : List ℕ → ℕ → List (Bool × BlockFault)
parameter_tests b place =
    byte_test b place 4 0
    ∷ byte_test b place 5 0
    ∷ byte_test b place 6 8
    ∷ byte_test b place 7 32
    ∷ byte_test b place 8 4
    ∷ byte_test b place 9 16
    ∷ byte_test b place 10 4
    ∷ byte_test b place 11 10
    ∷ []

abbrev pub eahd_fields : List ℕ → EahdFields
eahd_fields b = record { numbers = numbers_in b 6 12; block = field b 60 8 }

abbrev pub eahd_at : List ℕ → ℕ → Result EahdFields BlockFault
eahd_at b place = checked (block_tests (codes "EAHD") eahd_len b ++ parameter_tests b place) (eahd_fields b)

-- version and client of the other blocks
abbrev pub array_tests : List ℕ → ℕ → List (Bool × BlockFault)
array_tests b place = byte_test b place 4 0 ∷ byte_test b place 5 0 ∷ []

-- an array's index block: the header's address, 4 slots, 6 addresses of data blocks, 25 of secondary blocks
pub record EaibFields : Type 0 where
  pub header : ℕ
  pub slots : List ℕ
  pub first : List ℕ
  pub second : List ℕ

abbrev pub eaib_len : ℕ
eaib_len = 298

abbrev pub eaib_fields : List ℕ → EaibFields
eaib_fields b = record { header = field b 6 8; slots = numbers_in b 4 14; first = numbers_in b 6 46; second = numbers_in b 25 94 }

abbrev pub eaib_at : List ℕ → ℕ → Result EaibFields BlockFault
eaib_at b place = checked (block_tests (codes "EAIB") eaib_len b ++ array_tests b place) (eaib_fields b)

-- a secondary block of n data block addresses, and a data block of n chunk addresses:
-- the header's address, and the number of the block's first slot, counted after the first 4 of all
pub record SlotsFields : Type 0 where
  pub header : ℕ
  pub offset : ℕ
  pub slots : List ℕ

abbrev pub slots_len : ℕ → ℕ
slots_len n = 22 + 8 * n

abbrev pub slots_fields : List ℕ → ℕ → SlotsFields
slots_fields b n = record { header = field b 6 8; offset = field b 14 4; slots = numbers_in b n 18 }

-- of either signature
abbrev pub slots_at : List ℕ → List ℕ → ℕ → ℕ → Result SlotsFields BlockFault
slots_at signature b place n = checked (block_tests signature (slots_len n) b ++ array_tests b place) (slots_fields b n)

abbrev pub easb_at : List ℕ → ℕ → ℕ → Result SlotsFields BlockFault
easb_at b place n = slots_at (codes "EASB") b place n

abbrev pub eadb_at : List ℕ → ℕ → ℕ → Result SlotsFields BlockFault
eadb_at b place n = slots_at (codes "EADB") b place n

-- the written spellings
abbrev pub eahd_bytes : EahdFields → List ℕ
eahd_bytes t = sealed_block (codes "EAHD" ++ 0 ∷ 0 ∷ 8 ∷ 32 ∷ 4 ∷ 16 ∷ 4 ∷ 10 ∷ number_bytes t.numbers ++ le 8 t.block)

abbrev pub eaib_bytes : EaibFields → List ℕ
eaib_bytes t = sealed_block (codes "EAIB" ++ 0 ∷ 0 ∷ le 8 t.header ++ number_bytes t.slots ++ number_bytes t.first ++ number_bytes t.second)

abbrev pub slots_bytes : List ℕ → SlotsFields → List ℕ
slots_bytes signature t = sealed_block (signature ++ 0 ∷ 0 ∷ le 8 t.header ++ le 4 t.offset ++ number_bytes t.slots)

abbrev pub easb_bytes : SlotsFields → List ℕ
easb_bytes t = slots_bytes (codes "EASB") t

abbrev pub eadb_bytes : SlotsFields → List ℕ
eadb_bytes t = slots_bytes (codes "EADB") t
