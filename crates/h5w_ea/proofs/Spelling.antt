-- A block of slots, written field by field.
use Rattle.std.proofs.Common.{◌≡◌, ℕ, ◌+◌, ◌-◌, ◌*◌, ◌∷◌, ◌++◌, [], List, sym, ap, ◌∙◌, take, drop, length, length-append, append_assoc, arith}
use Rattle.h5w_model.specs.Numbers.{le}
use Rattle.h5w_model.specs.Checksum.{sealed_block}
use Rattle.h5w_model.specs.Arrays.{number_bytes, SlotsFields, slots_bytes, slots_len}
use Rattle.h5w_model.proofs.NumberLemmas.{length-le}
use Rattle.h5w_model.proofs.ArrayLemmas.{length-number_bytes}
use Rattle.h5w_model.proofs.PutLemmas.{put-next, put-sealed}

-- what stands in the buffer after each field
pub record IsWritten (signature : List ℕ) (t : SlotsFields) (old headed addressed numbered filled : List ℕ) : Type 0 where
  pub four : length signature ≡ 4
  pub head : headed ≡ (signature ++ 0 ∷ 0 ∷ []) ++ drop 6 old
  pub address : addressed ≡ (take 6 headed ++ le 8 t.header) ++ drop 14 headed
  pub number : numbered ≡ (take 14 addressed ++ le 4 t.offset) ++ drop 18 addressed
  pub slots : filled ≡ (take 18 numbered ++ number_bytes t.slots) ++ drop (18 + 8 * length t.slots) numbered

pub slots-sealed : (signature : List ℕ) (t : SlotsFields) (old headed addressed numbered filled : List ℕ) → IsWritten signature t old headed addressed numbered filled →
    sealed_block (take (22 + 8 * length t.slots - 4) filled) ++ drop (22 + 8 * length t.slots) filled ≡ slots_bytes signature t ++ drop (slots_len (length t.slots)) old
slots-sealed signature t old headed addressed numbered filled w =
    let n : ℕ = length t.slots in
    let b0 : List ℕ = signature ++ 0 ∷ 0 ∷ [] in
    let b1 : List ℕ = b0 ++ le 8 t.header in
    let b2 : List ℕ = b1 ++ le 4 t.offset in
    let b3 : List ℕ = b2 ++ number_bytes t.slots in
    let n0 : length b0 ≡ 6 = omega (arith, length-append signature (0 ∷ 0 ∷ []), w.four) in
    let n1 : length b1 ≡ 14 = omega (arith, length-append b0 (le 8 t.header), length-le 8 t.header) in
    let n2 : length b2 ≡ 18 = omega (arith, length-append b1 (le 4 t.offset), length-le 4 t.offset) in
    let n3 : length b3 ≡ 18 + 8 * n = omega (arith, length-append b2 (number_bytes t.slots), length-number_bytes t.slots) in
    let s1 : addressed ≡ b1 ++ drop 14 old = w.address ∙ put-next old headed b0 (le 8 t.header) 6 8 w.head n0 in
    let s2 : numbered ≡ b2 ++ drop 18 old = w.number ∙ put-next old addressed b1 (le 4 t.offset) 14 4 s1 n1 in
    let s3 : filled ≡ b3 ++ drop (18 + 8 * n) old = w.slots ∙ put-next old numbered b2 (number_bytes t.slots) 18 (8 * n) s2 n2 in
    let low : 22 + 8 * n - 4 ≡ 18 + 8 * n = omega arith in
    let high : 22 + 8 * n ≡ 18 + 8 * n + 4 = omega arith in
    ap (λ k. sealed_block (take k filled) ++ drop (22 + 8 * n) filled) low
    ∙ ap (λ k. sealed_block (take (18 + 8 * n) filled) ++ drop k filled) high
    ∙ put-sealed old filled b3 (18 + 8 * n) s3 n3
    ∙ ap (λ k. sealed_block b3 ++ drop k old) (sym high)
    ∙ ap (λ l. sealed_block ((l ++ le 4 t.offset) ++ number_bytes t.slots) ++ drop (22 + 8 * n) old) (append_assoc signature (0 ∷ 0 ∷ []) (le 8 t.header))
