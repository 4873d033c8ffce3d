-- An array that is opened: what its blocks are on the image, and which of them is refused.
use Rattle.std.specs.Prelude.{◌≡◌, ◌≢◌, ◌⊎◌, ℕ, ◌+◌, ◌-◌, ◌*◌, ◌<◌, ◌≤◌, ◌==◌, Bool, true, false, List, length, replicate, nat_lt, if◌then◌else◌, Option, Some, None, IfSome, Result, Ok, Err}
use Rattle.h5w_model.specs.Causes.{Rose}
use Rattle.h5w_model.specs.Numbers.{field, range, undefined}
use Rattle.h5w_model.specs.Checksum.{is_sealed}
use Rattle.h5w_model.specs.Images.{At}
use Rattle.h5w_model.specs.Arrays.{EahdFields, blocks_before, eahd_at, eahd_len, eaib_at, eaib_len, eadb_at, easb_at, numbers_in, slots_len, super_block_of}
use Rattle.h5w_model.specs.declared.refusal.BlockFault.{BlockFault}
use Rattle.h5w_model.specs.Tables.{format_limits}
use Rattle.h5w_image.specs.View.{ImageView, Looked}
use Rattle.h5w_image.specs.declared.fault.ImageError.{ImageError}
use Rattle.h5w_image.specs.declared.fault.ImageError.TheVariants as image_errors
use Rattle.h5w_looks.specs.Still.{IsStill}
use Rattle.h5w_cache.specs.Blocks.{BlockView}
use Rattle.h5w_cache.specs.Stores.{Store}
use Rattle.h5w_array_laws.specs.Parts.{Part, data_of, secondary_of, index_block, header, IsPart, children, length_of, names_from}
use Rattle.h5w_array_laws.specs.ArrayStores.{IsBlock, block_at_part, place_at_part}
use Rattle.h5w_array_laws.specs.ArrayImages.{HeaderStands}
use Rattle.h5w_ea_index.specs.Fresh.{IsFresh}
use Rattle.h5w_ea_index.specs.declared.error.OpenArrayError.{OpenArrayError}
use Rattle.h5w_ea_index.specs.declared.error.OpenArrayError.TheVariants.{Damaged, Failed, OutOfMemory}

-- what an image's failure is to who opens an array
abbrev pub outside : ImageError → OpenArrayError
outside image_errors.Failed = Failed
outside image_errors.OutOfMemory = OutOfMemory

-- ---- One block

-- the refusal of what is refused
abbrev pub refusal : {A : Type 0} → Result A BlockFault → Option BlockFault
refusal (Ok a) = None
refusal (Err f) = Some f

-- why these bytes at a place are not this part of an array
abbrev pub refusal_of : Part → List ℕ → ℕ → Option BlockFault
refusal_of (data_of s b) bytes at = refusal (eadb_at bytes at (super_block_of s).slots)
refusal_of (secondary_of s) bytes at = refusal (easb_at bytes at (super_block_of s).blocks)
refusal_of index_block bytes at = refusal (eaib_at bytes at)
refusal_of header bytes at = refusal (eahd_at bytes at)

-- the same of what an image has at a place
abbrev pub refused_on : List ℕ → Part → ℕ → Option BlockFault
refused_on img k at = refusal_of k (range img at (length_of k)) at

-- one more than the greatest chunk number to whose slot it leads
abbrev pub past : Part → ℕ
past (data_of s b) = 4 + (super_block_of s).start + (b + 1) * (super_block_of s).slots
past (secondary_of s) = 4 + (super_block_of s).start + (super_block_of s).blocks * (super_block_of s).slots
past index_block = format_limits.array
past header = format_limits.array

-- it is this part, and ends in its sum
pub record IsSound (k : Part) (b : BlockView) : Type 0 where
  pub block : IsBlock k b
  pub sealed : is_sealed b.bytes ≡ true

-- the block of these bytes
pub record IsBlockOf (k : Part) (bytes : List ℕ) (b : BlockView) : Type 0 where
  pub bytes_are : b.bytes ≡ bytes
  pub sound : (at : ℕ) → refusal_of k bytes at ≡ None → IsSound k b

-- these bytes at a place are a header, which names an index block at another
pub record NamesBlock (bytes : List ℕ) (at block : ℕ) : Type 0 where
  pub fields : EahdFields
  pub read : eahd_at bytes at ≡ Ok fields
  pub names : fields.block ≡ block

-- a header of these bytes stands there, and names an index block at a place
pub record IsHeaderAt (img : List ℕ) (at : ℕ) (bytes : List ℕ) (block : ℕ) : Type 0 where
  pub there : At img at bytes
  pub fields : EahdFields
  pub read : eahd_at (range img at eahd_len) at ≡ Ok fields
  pub names : fields.block ≡ block

-- a header stands there, and names no index block
pub record NamesNone (img : List ℕ) (at : ℕ) : Type 0 where
  pub fields : EahdFields
  pub read : eahd_at (range img at eahd_len) at ≡ Ok fields
  pub none : fields.block ≡ undefined

-- ---- The blocks of an image

-- the address in a block of so many bytes that stands at a place, undefined where that is
abbrev pub address_on : List ℕ → ℕ → ℕ → ℕ → ℕ
address_on img place len offset = if place == undefined then undefined else field (range img place len) offset 8

-- where the blocks of an image say that a part of an array stands, whose header is at a place
abbrev pub index_on : List ℕ → ℕ → ℕ
index_on img at = field (range img at eahd_len) 60 8

abbrev pub secondary_on : List ℕ → ℕ → ℕ → ℕ
secondary_on img at s = address_on img (index_on img at) eaib_len (94 + 8 * (s - 4))

abbrev pub named_on : List ℕ → ℕ → Part → ℕ
named_on img at (data_of s b) =
    if nat_lt s 4 then address_on img (index_on img at) eaib_len (46 + 8 * (blocks_before s + b))
    else address_on img (secondary_on img at s) (slots_len (super_block_of s).blocks) (18 + 8 * b)
named_on img at (secondary_of s) = secondary_on img at s
named_on img at index_block = index_on img at
named_on img at header = at

-- the order in which they are looked at: that of a check
abbrev pub look_order : Part → ℕ
look_order (data_of s b) = 65 * s + 3 + b
look_order (secondary_of s) = 65 * s + 2
look_order index_block = 1
look_order header = 0

-- it is not there, or not refused
abbrev pub IsPassable : List ℕ → ℕ → Part → Type 0
IsPassable img at k = (named_on img at k ≡ undefined) ⊎ (refused_on img k (named_on img at k) ≡ None)

-- ---- The blocks of a store

-- it stands there, and is not refused
pub record IsThere (img : List ℕ) (k : Part) (at : ℕ) (b : BlockView) : Type 0 where
  pub there : At img at b.bytes
  pub sound : refused_on img k at ≡ None

-- it is refused at this place, and leads to no chunk from number `first` on; the block that is kept for it names no other
pub record IsPassed (img : List ℕ) (first : ℕ) (k : Part) (at : ℕ) (b : BlockView) : Type 0 where
  pub early : past k ≤ first
  pub fault : BlockFault
  pub refused : refused_on img k at ≡ Some fault
  pub unnamed : numbers_in b.bytes (length (children k)) (names_from k) ≡ replicate (length (children k)) undefined

-- it stands there, or was passed over, and an empty one is kept for it
abbrev pub StandsAt : List ℕ → ℕ → Part → ℕ → BlockView → Type 0
StandsAt img first k at b = IsThere img k at b ⊎ IsPassed img first k at b

-- The blocks of the store are those that stand on the image, but for those that were passed over.
pub record IsOpened (img : List ℕ) (first : ℕ) (v : Store) : Type 0 where
  pub headed : HeaderStands v img
  pub each : (k : Part) → IsPart k → IfSome (block_at_part v k) (StandsAt img first k (place_at_part v k))

-- ---- Bytes that were read

-- these bytes are the block, or are refused, and it leads to no chunk from number `first` on
pub record IsJudged (k : Part) (bytes : List ℕ) (at first : ℕ) (whole : Bool) : Type 0 where
  pub sound : whole ≡ true → refusal_of k bytes at ≡ None
  pub early : whole ≡ false → past k ≤ first
  pub refused : whole ≡ false → (f : BlockFault) × (refusal_of k bytes at ≡ Some f)

-- the block of these bytes, or a new one
pub record IsMade (top : ℕ) (k : Part) (bytes : List ℕ) (whole : Bool) (b : BlockView) : Type 0 where
  pub same : whole ≡ true → IsBlockOf k bytes b
  pub fresh : whole ≡ false → IsFresh top k b

-- ---- Refusals

-- it leads to a chunk from number `first` on, and is refused there
abbrev pub Refuses : List ℕ → ℕ → Part → ℕ → BlockFault → Type 0
Refuses img first k at f = (first < past k) × (refused_on img k at ≡ Some f)

-- the first block that is refused of those that lead to a chunk from number `first` on, of the array whose header is at a place
pub record IsDamaged (img : List ℕ) (top first at : ℕ) (f : BlockFault) : Type 0 where
  pub k : Part
  pub part : IsPart k
  pub named : named_on img top k ≡ at
  pub placed : k ≢ header → at ≢ undefined
  pub is : Refuses img first k at f
  pub before : (j : Part) → IsPart j → look_order j < look_order k → first < past j → IsPassable img top j

abbrev pub IfDamaged : OpenArrayError → (ℕ → BlockFault → Type 0) → Type 0
IfDamaged (Damaged at f) P = P at f
IfDamaged Failed P = Unit {0}
IfDamaged OutOfMemory P = Unit {0}

abbrev pub OnDamaged : {A : Type 0} → Result A OpenArrayError → (ℕ → BlockFault → Type 0) → Type 0
OnDamaged (Ok a) P = Unit {0}
OnDamaged (Err e) P = IfDamaged e P

-- What a call says of an image at which it looked, beside its value: where it answers that a block is damaged, this holds of it.
pub record Loads {A : Type 0} (v w : ImageView) (Says : List ℕ → ℕ → BlockFault → Type 0) (answer : Result A OpenArrayError) : Type 0 where
  pub looked : Looked v w
  pub cause : answer ≡ Err Failed → Rose v.faults w.faults
  pub damaged : (img : List ℕ) → IsStill v img → OnDamaged answer (Says img)

-- ---- What was found

abbrev pub IfFound : {A : Type 0} → Result (Option A) OpenArrayError → (A → Type 0) → Type 0
IfFound (Ok (Some a)) P = P a
IfFound (Ok None) P = Unit {0}
IfFound (Err e) P = Unit {0}

-- no index block is named
abbrev pub IfNowhere : {A : Type 0} → Result (Option A) OpenArrayError → Type 0 → Type 0
IfNowhere (Ok (Some a)) P = Unit {0}
IfNowhere (Ok None) P = P
IfNowhere (Err e) P = Unit {0}
