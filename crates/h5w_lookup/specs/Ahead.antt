-- Addresses of chunks whose slots stand one behind another in a data block that is kept.
use Rattle.std.specs.Prelude.{◌≡◌, ◌≢◌, ℕ, ◌+◌, ◌<◌, ◌≤◌, List, ◌++◌, length, get_or, Some, Result}
use Rattle.h5w_model.specs.Programs.{Prog, Kept, kept_bytes, used}
use Rattle.h5w_model.specs.Numbers.{undefined}
use Rattle.h5w_model.specs.Arrays.{EaibFields, super_block_of, eadb_at, easb_at, slots_len}
use Rattle.h5w_model.specs.Datasets.{Described}
use Rattle.h5w_model.specs.Tables.{Reading, InPlace, array_slot, data_block, secondary_block}
use Rattle.h5w_model.specs.declared.refusal.ReadError.{ReadError}
use Rattle.h5w_lookup.specs.Blocks.{GivesSlots}
use Rattle.h5w_lookup.specs.Seeking.{store_rest, next_rest}
use Rattle.h5w_lookup.specs.Slots.{slots_rest}
use Rattle.h5w_lookup.specs.Unknown.{needed_with}
use Rattle.h5w_lookup.specs.declared.wait.DataWait.{DataWait}

-- with these blocks kept, from the chunk on that is the first without a known address, but for those of which one was found
abbrev pub found_rest : ℕ → List ℕ → Described → InPlace → List Kept → List ℕ → Prog (Result Reading ReadError)
found_rest at known d p ks found = slots_rest at known d p ks (length (needed_with known d found)) (needed_with known d found)

-- a slot of a data block that was kept, and was used
pub record IsDataUsed (at n slot : ℕ) (old new : List Kept) (w : DataWait) : Type 0 where
  pub at_is : w.at ≡ at
  pub n_is : w.n ≡ n
  pub slot_is : w.slot ≡ slot
  pub there : at ≢ undefined
  pub bytes : List ℕ
  pub slots : List ℕ
  pub is_kept : kept_bytes data_block at (slots_len n) old ≡ Some bytes
  pub gives : GivesSlots slots (eadb_at bytes at n)
  pub then_used : new ≡ used 16 data_block at (slots_len n) bytes old

-- behind a secondary block that was kept, and was used before
pub record IsSecondUsed (at sblock block slot : ℕ) (old new : List Kept) (w : DataWait) : Type 0 where
  pub there : at ≢ undefined
  pub bytes : List ℕ
  pub slots : List ℕ
  pub is_kept : kept_bytes secondary_block at (slots_len (super_block_of sblock).blocks) old ≡ Some bytes
  pub gives : GivesSlots slots (easb_at bytes at (super_block_of sblock).blocks)
  pub last : IsDataUsed (get_or slots block undefined) (super_block_of sblock).slots slot (used 16 secondary_block at (slots_len (super_block_of sblock).blocks) bytes old) new w

-- the address of chunk i is in a slot of this data block, which is kept, and so are those of the chunks behind it, as far as its slots go
pub record IsAtHand (ks : List Kept) (e : EaibFields) (i : ℕ) (w : DataWait) : Type 0 where
  pub bytes : List ℕ
  pub is_kept : kept_bytes data_block w.at (slots_len w.n) ks ≡ Some bytes
  pub stand : (slots : List ℕ) → GivesSlots slots (eadb_at bytes w.at w.n) → (k : ℕ) → w.slot + k < w.n → (next : ℕ → Prog (Result Reading ReadError)) → store_rest ks (array_slot e (i + k)) next ≡ next_rest ks next (get_or slots (w.slot + k) undefined)

-- at most so many addresses were put behind those that were found, which are those of chunk i and of the chunks behind it
pub record IsTaken (ks : List Kept) (e : EaibFields) (i most : ℕ) (old new : List ℕ) : Type 0 where
  pub more : List ℕ
  pub items : new ≡ old ++ more
  pub few : length more ≤ most
  pub stand : (k : ℕ) → k < length more → (next : ℕ → Prog (Result Reading ReadError)) → store_rest ks (array_slot e (i + k)) next ≡ next_rest ks next (get_or more k undefined)
