-- The store of an array while its blocks are loaded, one after another.
use Rattle.std.specs.Prelude.{◌≡◌, ℕ, ◌+◌, ◌-◌, ◌*◌, ◌^◌, ◌<◌, ◌≤◌, true, false, [], length, nat_lt, if◌then◌else◌, None, IsSome, IfSome}
use Rattle.h5w_model.specs.Numbers.{undefined}
use Rattle.h5w_model.specs.Arrays.{blocks_before}
use Rattle.h5w_cache.specs.Stores.{Store, block_of, place_of}
use Rattle.h5w_array_laws.specs.Parts.{Part, data_of, secondary_of, index_block, header, IsPart, number_of, number_count, parent, stays_in_place}
use Rattle.h5w_array_laws.specs.ArrayStores.{IsBlock, IsWhole, address_in, block_at_part, header_place, place_at_part}
use Rattle.h5w_ea_index.specs.declared.copied.Copied.{Copied}
use Rattle.h5w_ea_index.specs.declared.copied.Copied.TheVariants.{Data, Secondary}

abbrev pub copied_part : Copied → Part
copied_part (Data s b) = data_of s b
copied_part (Secondary s) = secondary_of s

-- where it stands in the order in which blocks are loaded
abbrev pub rank : Part → ℕ
rank (data_of s b) = 65 * s + 1 + b
rank (secondary_of s) = 65 * s
rank index_block = 0
rank header = 0

-- where its address begins in the block that names it
abbrev pub name_offset : Part → ℕ
name_offset (data_of s b) = if nat_lt s 4 then 46 + 8 * (blocks_before s + b) else 18 + 8 * b
name_offset (secondary_of s) = 94 + 8 * (s - 4)
name_offset index_block = 60
name_offset header = 60

-- what the block that names it says of its place
abbrev pub named_place : Store → Part → ℕ
named_place v k = address_in (block_at_part v (parent k)) (name_offset k)

-- The header is kept, which stands at a place, and the index block, and the blocks before this one in the order, where they stand; no others. Each is
-- whole.
pub record IsLoading (at m : ℕ) (v : Store) : Type 0 where
  pub top : header_place v ≡ at
  pub count : length v.blocks ≡ number_count
  pub each_place : length v.places ≡ number_count
  pub below : (n : ℕ) → place_of v n < 2 ^ 64
  pub known : (n : ℕ) → IsSome (block_of v n) → (k : Part) × IsPart k × (number_of k ≡ n)
  pub each : (k : Part) → IsPart k → IfSome (block_at_part v k) (IsBlock k)
  pub whole : (k : Part) → IsPart k → IfSome (block_at_part v k) (IsWhole v k)
  pub in_place : (k : Part) → IsPart k → stays_in_place k ≡ true → IsSome (block_at_part v k)
  pub held : (k : Part) → IsPart k → IsSome (block_at_part v k) → IsSome (block_at_part v (parent k))
  pub unplaced : (k : Part) → IsPart k → block_at_part v k ≡ None → place_at_part v k ≡ undefined
  pub changed : v.changed ≡ []
  pub headed : named_place v index_block ≡ place_at_part v index_block
  pub named : (k : Part) → IsPart k → stays_in_place k ≡ false → rank k < m → named_place v k ≡ place_at_part v k
  pub later : (k : Part) → IsPart k → stays_in_place k ≡ false → m ≤ rank k → block_at_part v k ≡ None
