-- The store of an attempt: the blocks that it keeps, the last used first.
use Rattle.std.specs.Prelude.{◌≡◌, ◌⊎◌, ℕ, List, Some, Result, Ok, Err}
use Rattle.h5w_model.specs.Programs.{Kept, kept_bytes}
use Rattle.h5w_model.specs.declared.refusal.BlockFault.{BlockFault}
use Rattle.h5w_model.specs.declared.refusal.BlockFault.TheVariants.{OutOfMemory}
use Rattle.h5w_lookup.specs.Blocks.{IsRead}
use Rattle.h5w_lookup.specs.Contents.{bytes_in}
use Rattle.h5w_lookup.specs.Keyed.{kept_entries}
use Rattle.h5w_lookup.specs.declared.content.Content.{Content}
use Rattle.h5w_lookup.specs.declared.block.Block.{Block}
use Rattle.h5w_lookup.specs.declared.store.Store.{Store}

abbrev pub kept : Store → List Kept
kept s = kept_entries s.cache.entries

-- a block is kept, and says this
pub record Keeps (kind place len : ℕ) (ks : List Kept) (content : Content) : Type 0 where
  pub bytes : List ℕ
  pub is_kept : kept_bytes kind place len ks ≡ Some bytes
  pub read : IsRead kind place len bytes content

-- the block that these bytes are, or why they are none
pub record IsBlockOf (kind place len : ℕ) (bytes : List ℕ) (b : Block) : Type 0 where
  pub kind_is : b.kind ≡ kind
  pub place_is : b.place ≡ place
  pub len_is : b.len ≡ len
  pub bytes_are : bytes_in b.content ≡ bytes

abbrev pub IsBlock : {A : Type 0} → ℕ → ℕ → ℕ → List ℕ → Result A BlockFault → Result Block BlockFault → Type 0
IsBlock kind place len bytes given (Ok b) = IsBlockOf kind place len bytes b
IsBlock kind place len bytes given (Err fault) = (fault ≡ OutOfMemory) ⊎ (given ≡ Err fault)
