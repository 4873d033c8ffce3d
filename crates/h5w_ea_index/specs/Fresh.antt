-- A new block of an array: nothing is named in it yet.
use Rattle.std.specs.Prelude.{◌≡◌, ℕ, true, length, replicate}
use Rattle.h5w_model.specs.Numbers.{undefined}
use Rattle.h5w_model.specs.Checksum.{is_sealed}
use Rattle.h5w_model.specs.Arrays.{numbers_in}
use Rattle.h5w_cache.specs.Blocks.{BlockView}
use Rattle.h5w_array_laws.specs.Parts.{Part, data_of, index_block, children, names_from, slot_count, slots_from}
use Rattle.h5w_array_laws.specs.ArrayStores.{HasHead, IsBlock}
use Rattle.h5w_ea_index.specs.declared.slot.Holder.{Holder}
use Rattle.h5w_ea_index.specs.declared.slot.Holder.TheVariants.{Index, Data}

-- the part that has a slot
abbrev pub part_of : Holder → Part
part_of Index = index_block
part_of (Data s b) = data_of s b

-- the block is this part of the array whose header stands at a place; no slot has an address, and no block is named
pub record IsFresh (at : ℕ) (k : Part) (b : BlockView) : Type 0 where
  pub block : IsBlock k b
  pub head : HasHead at k b
  pub whole : is_sealed b.bytes ≡ true
  pub empty : numbers_in b.bytes (slot_count k) (slots_from k) ≡ replicate (slot_count k) undefined
  pub unnamed : numbers_in b.bytes (length (children k)) (names_from k) ≡ replicate (length (children k)) undefined
