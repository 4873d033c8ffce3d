-- An extensible array as a store of blocks: what holds of each block, the map of chunk numbers to addresses, and the ranges that it uses.
use Rattle.std.specs.Prelude.{◌≡◌, ◌≢◌, ◌⊎◌, ℕ, ◌+◌, ◌^◌, ◌-◌, ◌*◌, ◌<◌, ◌==◌, true, false, cond, List, [], ◌∷◌, ◌++◌, length, take, map, flat_map, replicate, nat_lt, if◌then◌else◌, Option, Some, None, IsSome, IfSome, is_some}
use Rattle.std.specs.List.{sum_by}
use Rattle.h5w_model.specs.Numbers.{field, undefined}
use Rattle.h5w_model.specs.Checksum.{is_sealed}
use Rattle.h5w_model.specs.Arrays.{numbers_in, eahd_len, eaib_len, eaib_fields, eahd_bytes, eaib_bytes}
use Rattle.h5w_model.specs.Tables.{InPlace, in_array, format_limits}
use Rattle.h5w_model.specs.Findings.{Used}
use Rattle.h5w_step_laws.specs.Ranges.{block_at, chunk_at}
use Rattle.h5w_cache.specs.Blocks.{BlockView}
use Rattle.h5w_cache.specs.Stores.{Store, block_of, place_of, is_changed}
use Rattle.h5w_cache.specs.Plans.{bytes_of}
use Rattle.h5w_array_laws.specs.Parts.{Part, data_of, secondary_of, index_block, header, IsPart, number_of, number_count, length_of, stays_in_place, children, names_from, links_of, parent, head_of, sign_of, slot_count, slots_from, holder, slot_offset, visit_order}

-- the block that is kept for a part, if one is, and its place
abbrev pub block_at_part : Store → Part → Option BlockView
block_at_part v k = block_of v (number_of k)

abbrev pub place_at_part : Store → Part → ℕ
place_at_part v k = place_of v (number_of k)

abbrev pub bytes_at_part : Store → Part → List ℕ
bytes_at_part v k = bytes_of (block_at_part v k)

-- where the header stands
abbrev pub header_place : Store → ℕ
header_place v = place_at_part v header

-- the block is this part of an array
pub record IsBlock (k : Part) (b : BlockView) : Type 0 where
  pub len : length b.bytes ≡ length_of k
  pub links : b.links ≡ links_of k
  pub turn : b.turn ≡ number_of k
  pub in_place : b.in_place ≡ stays_in_place k
  pub sealed : b.sealed ≡ length_of k
  pub signed : take (length (sign_of k)) b.bytes ≡ sign_of k

-- it names the header, which stands at a place, and its first slot: so do all blocks that are made here
abbrev pub HasHead : ℕ → Part → BlockView → Type 0
HasHead at k b = take (length (head_of at k)) b.bytes ≡ head_of at k

-- the addresses in it are the places of the blocks that it names, undefined of those that have none
abbrev pub Names : Store → Part → BlockView → Type 0
Names v k b = numbers_in b.bytes (length (children k)) (names_from k) ≡ map (place_at_part v) (children k)

-- a block that did not change since it was written has a place, and ends in its sum
pub record IsWhole (v : Store) (k : Part) (b : BlockView) : Type 0 where
  pub placed : place_at_part v k ≢ undefined
  pub sealed : is_sealed b.bytes ≡ true

-- What a store of an array is.
pub record IsArray (v : Store) : Type 0 where
  pub count : length v.blocks ≡ number_count
  pub each_place : length v.places ≡ number_count
  pub below : (n : ℕ) → place_of v n < 2 ^ 64
  -- what is kept is a part of the array
  pub known : (n : ℕ) → IsSome (block_of v n) → (k : Part) × IsPart k × (number_of k ≡ n)
  pub each : (k : Part) → IsPart k → IfSome (block_at_part v k) (IsBlock k)
  pub names : (k : Part) → IsPart k → IfSome (block_at_part v k) (Names v k)
  -- index block and header are kept, and have places; with a block that which names it is kept
  pub in_place : (k : Part) → IsPart k → stays_in_place k ≡ true → IsSome (block_at_part v k) × (place_at_part v k ≢ undefined)
  pub held : (k : Part) → IsPart k → IsSome (block_at_part v k) → IsSome (block_at_part v (parent k))
  -- what is not kept has no place
  pub unplaced : (k : Part) → IsPart k → block_at_part v k ≡ None → place_at_part v k ≡ undefined
  -- with a block that which names it is changed; what is changed is kept
  pub marked : (k : Part) → IsPart k → is_changed v (number_of k) ≡ true → is_changed v (number_of (parent k)) ≡ true
  pub kept : (n : ℕ) → is_changed v n ≡ true → IsSome (block_of v n)
  -- header and index block change together
  pub together : is_changed v (number_of header) ≡ true → is_changed v (number_of index_block) ≡ true
  pub whole : (k : Part) → IsPart k → is_changed v (number_of k) ≡ false → IfSome (block_at_part v k) (IsWhole v k)

-- each block names the header and its first slot, as in an array that was made here
abbrev pub IsHeaded : Store → Type 0
IsHeaded v = (k : Part) → IsPart k → IfSome (block_at_part v k) (HasHead (header_place v) k)

-- ---- A new array

-- the header of an array without chunks, whose index block stands at a place
abbrev pub created_header : ℕ → BlockView
created_header place = record {
  bytes = eahd_bytes (record { numbers = 0 ∷ 0 ∷ 0 ∷ 0 ∷ 0 ∷ 4 ∷ []; block = place });
  links = links_of header;
  turn = number_of header;
  in_place = true;
  sealed = eahd_len;
}

-- its index block, whose header stands at a place
abbrev pub created_index : ℕ → BlockView
created_index at = record {
  bytes = eaib_bytes (record { header = at; slots = replicate 4 undefined; first = replicate 6 undefined; second = replicate 25 undefined });
  links = links_of index_block;
  turn = number_of index_block;
  in_place = true;
  sealed = eaib_len;
}

-- the store keeps these two at their places, and nothing else; nothing is changed
pub record IsCreated (at place : ℕ) (v : Store) : Type 0 where
  pub count : length v.blocks ≡ number_count
  pub each_place : length v.places ≡ number_count
  pub has_header : block_at_part v header ≡ Some (created_header place)
  pub has_index : block_at_part v index_block ≡ Some (created_index at)
  pub header_at : place_at_part v header ≡ at
  pub index_at : place_at_part v index_block ≡ place
  pub none : (n : ℕ) → n ≢ number_of header → n ≢ number_of index_block → (block_of v n ≡ None) × (place_of v n ≡ undefined)
  pub changed : v.changed ≡ []

-- ---- The map

-- the address in the eight bytes of a block from a place on, where there is a block
abbrev pub address_in : Option BlockView → ℕ → ℕ
address_in None place = undefined
address_in (Some b) place = field b.bytes place 8

-- the address of chunk number i, undefined where it has none
abbrev pub map_of : Store → ℕ → ℕ
map_of v i = if nat_lt i format_limits.array then address_in (block_at_part v (holder i)) (slot_offset i) else undefined

-- ---- Its ranges

-- those of the blocks in place
abbrev pub fixed_of : Store → List Used
fixed_of v = block_at (header_place v) eahd_len ∷ block_at (place_at_part v index_block) eaib_len ∷ []

-- what those say
abbrev pub blocks_in_place : Store → InPlace
blocks_in_place v = in_array (eaib_fields (bytes_at_part v index_block))

-- the slots of a block
abbrev pub slots_in : Option BlockView → Part → List ℕ
slots_in None k = []
slots_in (Some b) k = numbers_in b.bytes (slot_count k) (slots_from k)

-- the ranges of the chunks that have an address among these, each of so many bytes
abbrev pub chunks_in : ℕ → List ℕ → List Used
chunks_in bytes [] = []
chunks_in bytes (a ∷ rest) = if a == undefined then chunks_in bytes rest else chunk_at a bytes ∷ chunks_in bytes rest

-- the range of a block, where it has a place
abbrev pub own_range : Store → Part → List Used
own_range v k = if place_at_part v k == undefined then [] else block_at (place_at_part v k) (length_of k) ∷ []

-- that, and those of the chunks that it names
abbrev pub ranges_of : ℕ → Store → Part → List Used
ranges_of bytes v k = own_range v k ++ chunks_in bytes (slots_in (block_at_part v k) k)

-- The ranges behind the blocks in place, in the order of a check: of each block that has a place, and of each chunk that has an address,
-- also where the block that names it has no place yet.
abbrev pub behind_of : ℕ → Store → List Used
behind_of bytes v = chunks_in bytes (slots_in (block_at_part v index_block) index_block) ++ flat_map (ranges_of bytes v) visit_order

-- ---- The six numbers of the header

-- the sum of a weight over the data blocks and secondary blocks that are kept
abbrev pub total : (Part → ℕ) → Store → ℕ
total weight v = sum_by (λ k. cond (is_some (block_at_part v k)) (weight k) 0) visit_order

abbrev pub one_secondary : Part → ℕ
one_secondary (data_of s b) = 0
one_secondary (secondary_of s) = 1
one_secondary index_block = 0
one_secondary header = 0

abbrev pub one_data : Part → ℕ
one_data (data_of s b) = 1
one_data (secondary_of s) = 0
one_data index_block = 0
one_data header = 0

abbrev pub secondary_bytes : Part → ℕ
secondary_bytes k = one_secondary k * length_of k

abbrev pub data_bytes : Part → ℕ
data_bytes k = one_data k * length_of k

-- one more than the greatest chunk number that has an address, 0 where none has
pub record IsMaxSet (v : Store) (m : ℕ) : Type 0 where
  pub above : (i : ℕ) → map_of v i ≢ undefined → i < m
  pub least : (m ≡ 0) ⊎ (map_of v (m - 1) ≢ undefined)

-- how many secondary blocks there are, their bytes, how many data blocks, their bytes, one more than the greatest chunk number
-- that has an address, and how many slots
pub record IsNumbered (v : Store) : Type 0 where
  pub max : ℕ
  pub greatest : IsMaxSet v max
  pub six : numbers_in (bytes_at_part v header) 6 12
      ≡ total one_secondary v ∷ total secondary_bytes v ∷ total one_data v ∷ total data_bytes v ∷ max ∷ (4 + total slot_count v) ∷ []
