-- The blocks of an extensible array as a session keeps them: their numbers, lengths and turns, and which of them names which
-- (HDF5 File Format Specification 3.0, "The Extensible Array Index"; the geometry is this project's profile).
use Rattle.std.specs.Prelude.{ℕ, ◌+◌, ◌-◌, ◌*◌, ◌<◌, ◌≤◌, Bool, true, false, List, [], ◌∷◌, ◌++◌, map, flat_map, nat_lt, if◌then◌else◌, codes}
use Rattle.std.specs.List.{range_with_len}
use Rattle.h5w_model.specs.Numbers.{le}
use Rattle.h5w_model.specs.Arrays.{SlotPlace, slot_place_of, super_block_of, slots_len, eahd_len, eaib_len}
use Rattle.h5w_cache.specs.declared.block.Link.{Link}

-- a data block by its super block and its number in that, the secondary block of a super block, the index block, the header
pub data Part : Type 0 where
  data_of : (sblock block : ℕ) → Part
  secondary_of : (sblock : ℕ) → Part
  index_block : Part
  header : Part

-- it is one of an array whose data blocks have no pages: super blocks 0 to 12, of which those from 4 on have a secondary block
abbrev pub IsPart : Part → Type 0
IsPart (data_of s b) = (s ≤ 12) × (b < (super_block_of s).blocks)
IsPart (secondary_of s) = (4 ≤ s) × (s ≤ 12)
IsPart index_block = Unit {0}
IsPart header = Unit {0}

-- the number under which it is kept, and its turn: a block is written after those that it names
abbrev pub number_of : Part → ℕ
number_of (data_of s b) = 65 * s + b
number_of (secondary_of s) = 65 * s + 64
number_of index_block = 845
number_of header = 846

-- how many numbers there are
abbrev pub number_count : ℕ
number_count = 847

-- how many bytes it has
abbrev pub length_of : Part → ℕ
length_of (data_of s b) = slots_len (super_block_of s).slots
length_of (secondary_of s) = slots_len (super_block_of s).blocks
length_of index_block = eaib_len
length_of header = eahd_len

-- the index block and the header are written again where they stand
abbrev pub stays_in_place : Part → Bool
stays_in_place (data_of s b) = false
stays_in_place (secondary_of s) = false
stays_in_place index_block = true
stays_in_place header = true

-- the data blocks of a super block
abbrev pub data_blocks_of : ℕ → List Part
data_blocks_of s = map (data_of s) (range_with_len 0 (super_block_of s).blocks)

-- the data blocks that the index block names
abbrev pub first_parts : List Part
first_parts = data_of 0 0 ∷ data_of 1 0 ∷ data_of 2 0 ∷ data_of 2 1 ∷ data_of 3 0 ∷ data_of 3 1 ∷ []

-- the secondary blocks, which the index block names behind them
abbrev pub second_parts : List Part
second_parts = map secondary_of (range_with_len 4 9)

-- the blocks that a block names, in the order in which their addresses stand in it, one after another
abbrev pub children : Part → List Part
children (data_of s b) = []
children (secondary_of s) = data_blocks_of s
children index_block = first_parts ++ second_parts
children header = index_block ∷ []

-- where those addresses begin
abbrev pub names_from : Part → ℕ
names_from (data_of s b) = 18
names_from (secondary_of s) = 18
names_from index_block = 46
names_from header = 60

-- links to these, whose addresses stand from a place on
abbrev pub links_from : ℕ → List Part → List Link
links_from place [] = []
links_from place (k ∷ ks) = record { offset = place; child = number_of k } ∷ links_from (place + 8) ks

abbrev pub links_of : Part → List Link
links_of k = links_from (names_from k) (children k)

-- the block that names it; the header is named by no block of the array
abbrev pub parent : Part → Part
parent (data_of s b) = if nat_lt s 4 then index_block else secondary_of s
parent (secondary_of s) = index_block
parent index_block = header
parent header = header

-- the number of the first slot of a data block or secondary block, counted after the first 4 of all
abbrev pub offset_of : Part → ℕ
offset_of (data_of s b) = (super_block_of s).start + b * (super_block_of s).slots
offset_of (secondary_of s) = (super_block_of s).start
offset_of index_block = 0
offset_of header = 0

-- the bytes in front of what changes, in an array whose header stands at a place
abbrev pub head_of : ℕ → Part → List ℕ
head_of at (data_of s b) = codes "EADB" ++ 0 ∷ 0 ∷ le 8 at ++ le 4 (offset_of (data_of s b))
head_of at (secondary_of s) = codes "EASB" ++ 0 ∷ 0 ∷ le 8 at ++ le 4 (offset_of (secondary_of s))
head_of at index_block = codes "EAIB" ++ 0 ∷ 0 ∷ le 8 at
head_of at header = codes "EAHD" ++ 0 ∷ 0 ∷ 8 ∷ 32 ∷ 4 ∷ 16 ∷ 4 ∷ 10 ∷ []

-- those of them that a reader checks: signature, version and client, and the parameters of a header
abbrev pub sign_of : Part → List ℕ
sign_of (data_of s b) = codes "EADB" ++ 0 ∷ 0 ∷ []
sign_of (secondary_of s) = codes "EASB" ++ 0 ∷ 0 ∷ []
sign_of index_block = codes "EAIB" ++ 0 ∷ 0 ∷ []
sign_of header = codes "EAHD" ++ 0 ∷ 0 ∷ 8 ∷ 32 ∷ 4 ∷ 16 ∷ 4 ∷ 10 ∷ []

-- how many slots for chunk addresses a block has, and where they begin
abbrev pub slot_count : Part → ℕ
slot_count (data_of s b) = (super_block_of s).slots
slot_count (secondary_of s) = 0
slot_count index_block = 4
slot_count header = 0

abbrev pub slots_from : Part → ℕ
slots_from (data_of s b) = 18
slots_from (secondary_of s) = 18
slots_from index_block = 14
slots_from header = 12

-- the block that has the slot of chunk number i, and where the slot begins in it
abbrev pub holder_of : SlotPlace → Part
holder_of p = data_of p.sblock p.block

abbrev pub holder : ℕ → Part
holder i = if nat_lt i 4 then index_block else holder_of (slot_place_of (i - 4))

abbrev pub slot_offset : ℕ → ℕ
slot_offset i = if nat_lt i 4 then 14 + 8 * i else 18 + 8 * (slot_place_of (i - 4)).slot

-- all data blocks and secondary blocks in the order in which a check visits them: what the index block names, each with what it names
unfoldable pub visit_order : List Part
visit_order = flat_map (λ k. k ∷ children k) (first_parts ++ second_parts)
