-- The bytes of a node: how many they are, and the zeros behind them.
use Rattle.std.proofs.Common.{◌≡◌, ℕ, zero, suc, ◌+◌, ◌-◌, ◌*◌, ◌≤◌, List, [], ◌∷◌, ◌++◌, length, flat_map, take, drop, replicate, refl, sym, ap, ◌∙◌, arith, codes, length-append}
use Rattle.h5w_model.specs.Trees.{RecordFields, BtinFields, btlf_bytes, btlf_len, btin_bytes, btin_len, capacity_of, record_bytes, child_bytes, pointer_size}
use Rattle.h5w_model.proofs.ChecksumLemmas.{length-sealed_block}
use Rattle.h5w_bt.proofs.Writing.{length-record_bytes, length-child_bytes, length-each}
use Rattle.h5w_bt.proofs.Tables.{capacity-fits, capacity_row}
use Rattle.h5w_bt_nodes.specs.Blocks.{padded}

pub leaf_length : (rs : List RecordFields) (n : ℕ) → length rs ≡ n → length (btlf_bytes rs) ≡ btlf_len n
leaf_length rs n e =
    let head : List ℕ = codes "BTLF" ++ 0 ∷ 10 ∷ [] in
    omega (arith, length-sealed_block (head ++ flat_map record_bytes rs), length-append head (flat_map record_bytes rs), length-each record_bytes 24 length-record_bytes rs, ap (λ k. k * 24) e)

pub inner_length : (t : BtinFields) (n depth : ℕ) → 1 ≤ depth → length t.records ≡ n → length t.children ≡ n + 1 → length (btin_bytes t depth) ≡ btin_len n depth
inner_length t n depth deep e f =
    let head : List ℕ = codes "BTIN" ++ 0 ∷ 10 ∷ [] in
    let front : List ℕ = head ++ flat_map record_bytes t.records in
    let more : List ℕ = flat_map (child_bytes depth) t.children in
    omega (
      arith,
      length-sealed_block (front ++ more),
      length-append front more,
      length-append head (flat_map record_bytes t.records),
      length-each record_bytes 24 length-record_bytes t.records,
      length-each (child_bytes depth) (pointer_size depth) (λ c. length-child_bytes depth c deep) t.children,
      ap (λ k. k * 24) e,
      ap (λ k. k * pointer_size depth) f,
    )

pub inner_fits : (n depth : ℕ) → depth ≤ 3 → n ≤ capacity_of depth → btin_len n depth ≤ 2048
inner_fits n depth low h = capacity-fits depth n low (omega (arith, h, capacity_row depth low))

abbrev zeros : ℕ → List ℕ
zeros n = replicate n 0

drop_zeros : (k n : ℕ) → drop k (zeros n) ≡ zeros (n - k)
drop_zeros zero n = ap zeros (let e : n ≡ n - 0 = omega arith in e)
drop_zeros (suc k) zero = ap zeros (let e : 0 ≡ 0 - suc k = omega arith in e)
drop_zeros (suc k) (suc n) = drop_zeros k n ∙ ap zeros (let e : n - k ≡ suc n - suc k = omega arith in e)

pub take_whole : (l : List ℕ) → take (length l) l ≡ l
take_whole [] = refl
take_whole (x ∷ l) = ap (λ (r : List ℕ). x ∷ r) (take_whole l)

-- bytes that were written to the front of so many zeros
pub zeros_padded : (b new : List ℕ) (k : ℕ) → new ≡ b ++ drop k (zeros 2048) → length b ≡ k → new ≡ padded b
zeros_padded b new k spelled long =
    spelled ∙ ap (λ (l : List ℕ). b ++ l) (drop_zeros k 2048) ∙ ap (λ (j : ℕ). b ++ zeros (2048 - j)) (sym long)
