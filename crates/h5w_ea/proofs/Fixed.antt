-- Bytes that have one value each, tried one by one.
use Rattle.std.proofs.Common.{◌≡◌, ℕ, ◌+◌, ◌*◌, ◌<◌, ◌++◌, take, false, cond, ◌==◌, List, length, get_or, drop, Err, Result, ap, ◌∙◌, arith, eq-eqb}
use Rattle.std.proofs.lemmas.List.{drop_more}
use Rattle.std.proofs.lemmas.Bool.Decides.{nat_tests}
use Rattle.h5w_model.specs.Arrays.{number_bytes}
use Rattle.h5w_model.proofs.PutLemmas.{put-next}
use Rattle.h5w_model.specs.Numbers.{field}
use Rattle.h5w_model.specs.Checked.{checked}
use Rattle.h5w_model.specs.declared.refusal.BlockFault.{BlockFault}
use Rattle.h5w_model.specs.declared.refusal.BlockFault.TheVariants.{Field}
use Rattle.h5w_ea.specs.Fields.{byte_tests}

abbrev pub left : List ℕ → ℕ → List ℕ → ℕ → Result (Unit {0}) BlockFault
left b place wanted i = checked (byte_tests b place (4 + i) (drop i wanted)) (tt {0})

pub left-more : (b : List ℕ) (place : ℕ) (wanted : List ℕ) (i : ℕ) → i < length wanted →
    left b place wanted i ≡ cond (field b (4 + i) 1 == get_or wanted i 0) (left b place wanted (i + 1)) (Err (Field (place + (4 + i)) (field b (4 + i) 1)))
left-more b place wanted i h =
    let e : 4 + i + 1 ≡ 4 + (i + 1) = omega arith in
    ap (λ l. checked (byte_tests b place (4 + i) l) (tt {0})) (drop_more wanted i 0 h)
    ∙ ap (λ o. cond (field b (4 + i) 1 == get_or wanted i 0) (checked (byte_tests b place o (drop (i + 1) wanted)) (tt {0})) (Err (Field (place + (4 + i)) (field b (4 + i) 1)))) e

pub left-passes : (b : List ℕ) (place : ℕ) (wanted : List ℕ) (i : ℕ) → i < length wanted → field b (4 + i) 1 ≡ get_or wanted i 0 → left b place wanted i ≡ left b place wanted (i + 1)
left-passes b place wanted i h e =
    left-more b place wanted i h
    ∙ ap (λ t. cond t (left b place wanted (i + 1)) (Err (Field (place + (4 + i)) (field b (4 + i) 1)))) (eq-eqb (field b (4 + i) 1) (get_or wanted i 0) e)

eqb_off : (m n : ℕ) → ((m ≡ n) → ⊥) → (m == n) ≡ false
eqb_off m n h = grind (arith, nat_tests)

pub left-fails : (b : List ℕ) (place : ℕ) (wanted : List ℕ) (i : ℕ) → i < length wanted → ((field b (4 + i) 1 ≡ get_or wanted i 0) → ⊥) → left b place wanted i ≡ Err (Field (place + (4 + i)) (field b (4 + i) 1))
left-fails b place wanted i h ne =
    left-more b place wanted i h
    ∙ ap (λ t. cond t (left b place wanted (i + 1)) (Err (Field (place + (4 + i)) (field b (4 + i) 1)))) (eqb_off (field b (4 + i) 1) (get_or wanted i 0) ne)

-- numbers behind the front, up to place `end`
pub put-numbers : (old cur front numbers : List ℕ) (at end : ℕ) → cur ≡ front ++ drop at old → length front ≡ at → at + 8 * length numbers ≡ end →
    (take at cur ++ number_bytes numbers) ++ drop (at + 8 * length numbers) cur ≡ (front ++ number_bytes numbers) ++ drop end old
put-numbers old cur front numbers at end e n m =
    put-next old cur front (number_bytes numbers) at (8 * length numbers) e n ∙ ap (λ k. (front ++ number_bytes numbers) ++ drop k old) m
