-- What is left of looking up one chunk, behind the blocks in place.
use Rattle.std.specs.Prelude.{ℕ, zero, suc, List, [], get_or, Result, Ok, Err}
use Rattle.h5w_model.specs.Programs.{Prog, ret, bind, and_then, lowered, Kept, used}
use Rattle.h5w_model.specs.Numbers.{undefined}
use Rattle.h5w_model.specs.Arrays.{super_block_of, eadb_at, easb_at, slots_len}
use Rattle.h5w_model.specs.Datasets.{then_also, refused_as}
use Rattle.h5w_model.specs.Tables.{Reading, data_block, secondary_block, tree_node, data_slot, in_leaf, in_node, tree_lookup}
use Rattle.h5w_model.specs.Trees.{btlf_at, btin_at}
use Rattle.h5w_model.specs.declared.cell.Key.{Key}
use Rattle.h5w_model.specs.declared.refusal.ReadError.{ReadError}
use Rattle.h5w_model.specs.declared.refusal.ReadError.TheVariants.{Damaged}
use Rattle.h5w_bt.specs.Lengths.{node_len}
use Rattle.h5w_lookup.specs.Gathering.{cut_behind}
use Rattle.h5w_lookup.specs.declared.wait.Wait.{Wait}
use Rattle.h5w_lookup.specs.declared.wait.Wait.TheVariants.{Data, Second, Node}

-- with these blocks kept, an address is looked up, and what comes next goes on with it
unfoldable pub store_rest : List Kept → Prog (Result ℕ ReadError) → (ℕ → Prog (Result Reading ReadError)) → Prog (Result Reading ReadError)
store_rest ks p next = lowered 16 ks (and_then p next)

-- what comes next, with these blocks kept
unfoldable pub next_rest : List Kept → (ℕ → Prog (Result Reading ReadError)) → ℕ → Prog (Result Reading ReadError)
next_rest ks next a = lowered 16 ks (next a)

-- given a data block's bytes
abbrev pub data_given : ℕ → ℕ → ℕ → List ℕ → Prog (Result ℕ ReadError)
data_given at n slot b = ret (then_also (refused_as (Damaged at) (eadb_at b at n)) (λ d. Ok (get_or d.slots slot undefined)))

-- given a secondary block's bytes
abbrev pub second_given : ℕ → ℕ → ℕ → ℕ → List ℕ → Prog (Result ℕ ReadError)
second_given at sblock block slot b =
    elim (easb_at b at (super_block_of sblock).blocks) [
      | Ok s ↦ data_slot (get_or s.slots block undefined) (super_block_of sblock).slots slot
      | Err f ↦ ret (Err (Damaged at f))
    ]

-- given the bytes of a node of a depth with n records
abbrev pub node_given : ℕ → Key → ℕ → ℕ → List ℕ → Prog (Result ℕ ReadError)
node_given zero key at n b = ret (then_also (refused_as (Damaged at) (btlf_at b at n)) (λ rs. Ok (in_leaf key rs)))
node_given (suc depth) key at n b =
    elim (btin_at b at n (suc depth)) [
      | Ok t ↦ in_node (λ c. tree_lookup depth key c.address c.records) key t.records t.children
      | Err f ↦ ret (Err (Damaged at f))
    ]

-- the block that is looked at next
abbrev pub wait_at : Wait → ℕ
wait_at (Data w) = w.at
wait_at (Second w) = w.at
wait_at (Node w) = w.at

abbrev pub wait_len : Wait → ℕ
wait_len (Data w) = slots_len w.n
wait_len (Second w) = slots_len (super_block_of w.sblock).blocks
wait_len (Node w) = node_len w.depth w.n

-- given its bytes; it is kept then
abbrev pub wait_given : List Kept → Wait → (ℕ → Prog (Result Reading ReadError)) → List ℕ → Prog (Result Reading ReadError)
wait_given ks (Data w) next b = store_rest (used 16 data_block w.at (slots_len w.n) b ks) (data_given w.at w.n w.slot b) next
wait_given ks (Second w) next b = store_rest (used 16 secondary_block w.at (slots_len (super_block_of w.sblock).blocks) b ks) (second_given w.at w.sblock w.block w.slot b) next
wait_given ks (Node w) next b = store_rest (used 16 (tree_node w.depth) w.at (node_len w.depth w.n) b ks) (node_given w.depth w.key w.at w.n b) next

abbrev pub wait_rest : List Kept → Wait → (ℕ → Prog (Result Reading ReadError)) → Prog (Result Reading ReadError)
wait_rest ks w next = bind (cut_behind [] (wait_at w) (wait_len w)) (wait_given ks w next)
