-- The blocks behind those in place, as an attempt keeps them.
use Rattle.std.specs.Prelude.{◌≡◌, ℕ, zero, suc, ◌+◌, ◌*◌, ◌^◌, ◌≤◌, List, [], Result, Ok, IsOkAnd}
use Rattle.h5w_model.specs.Arrays.{SlotsFields, eadb_at, easb_at, slots_len}
use Rattle.h5w_model.specs.Trees.{BtinFields, btlf_at, btin_at, btlf_len, btin_len}
use Rattle.h5w_model.specs.Datasets.{then_also}
use Rattle.h5w_model.specs.Tables.{data_block, secondary_block, tree_leaf, tree_node}
use Rattle.h5w_model.specs.declared.refusal.BlockFault.{BlockFault}
use Rattle.h5w_lookup.specs.Contents.{slots_in, records_in, inner_in}
use Rattle.h5w_lookup.specs.declared.content.Content.{Content}

-- a block's number, by its kind, its place and how many bytes it has
abbrev pub block_number : ℕ → ℕ → ℕ → ℕ
block_number kind place len = (kind * 2 ^ 32 + len) * 2 ^ 64 + place

-- a node of a depth with n records; a leaf has no children
abbrev pub node_at : ℕ → List ℕ → ℕ → ℕ → Result BtinFields BlockFault
node_at zero b place n = then_also (btlf_at b place n) (λ rs. Ok (record { records = rs; children = [] }))
node_at (suc depth) b place n = btin_at b place n (suc depth)

-- it is a whole block with these slots
abbrev pub GivesSlots : List ℕ → Result SlotsFields BlockFault → Type 0
GivesSlots slots given = IsOkAnd given (λ fields. fields.slots ≡ slots)

-- these bytes are a block of this kind and length at a place, and say this
pub record IsRead (kind place len : ℕ) (bytes : List ℕ) (content : Content) : Type 0 where
  pub of_data : (n : ℕ) → kind ≡ data_block → len ≡ slots_len n → GivesSlots (slots_in content) (eadb_at bytes place n)
  pub of_second : (n : ℕ) → kind ≡ secondary_block → len ≡ slots_len n → GivesSlots (slots_in content) (easb_at bytes place n)
  pub of_leaf : (n : ℕ) → kind ≡ tree_leaf → len ≡ btlf_len n → btlf_at bytes place n ≡ Ok (records_in content)
  pub of_inner : (depth n : ℕ) → suc depth ≤ 3 → kind ≡ tree_node (suc depth) → len ≡ btin_len n (suc depth) → btin_at bytes place n (suc depth) ≡ Ok (inner_in content)
