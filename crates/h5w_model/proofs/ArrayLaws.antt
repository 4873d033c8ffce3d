-- The blocks of an extensible array as they are written, and that they are read back.
use Rattle.std.proofs.Common.{◌≡◌, ℕ, ◌+◌, ◌^◌, ◌<◌, ◌≤◌, Bool, true, nat_eq, nat_le, List, [], ◌∷◌, ◌++◌, length, take, Ok, refl, sym, ap, ◌∙◌, arith, append_assoc, length-append, codes}
use Rattle.std.proofs.lemmas.List.{take_all}
use Rattle.std.proofs.lemmas.Bool.Decides.{nat_tests}
use Rattle.std.specs.List.{All, starts_with}
use Rattle.h5w_model.specs.Numbers.{num, le, field}
use Rattle.h5w_model.specs.Checksum.{sealed_block, is_sealed, sum_of}
use Rattle.h5w_model.specs.Blocks.{block_tests}
use Rattle.h5w_model.specs.Arrays.{number_bytes, numbers_in, EahdFields, eahd_at, eahd_bytes, parameter_tests, eahd_fields, EaibFields, eaib_at, eaib_bytes, eaib_fields, array_tests, SlotsFields, slots_at, slots_bytes, slots_fields, slots_len, eadb_at, eadb_bytes, easb_at, easb_bytes}
use Rattle.h5w_model.proofs.NumberLemmas.{length-le, field-at}
use Rattle.h5w_model.proofs.ChecksumLemmas.{is_sealed-sealed_block, length-sealed_block}
use Rattle.h5w_model.proofs.CheckedLemmas.{AllPass, checked-ok}
use Rattle.h5w_model.proofs.ArrayLemmas.{length-number_bytes, numbers_in-number_bytes}

pub AllPass-append : {E : Type 0} (xs ys : List (Bool × E)) → AllPass xs → AllPass ys → AllPass (xs ++ ys)
AllPass-append [] ys p q = q
AllPass-append (x ∷ xs) ys p q = (p.0, AllPass-append xs ys p.1 q)

pub long_enough : (m n : ℕ) → m ≤ n → nat_le m n ≡ true
long_enough m n h = grind (arith, nat_tests)

-- a sealed block of just this length passes the tests that come first
pub sealed-passes : (signature body : List ℕ) (len : ℕ) → length body + 4 ≡ len → starts_with nat_eq (sealed_block body) signature ≡ true → AllPass (block_tests signature len (sealed_block body))
sealed-passes signature body len n s =
    let whole : take len (sealed_block body) ≡ sealed_block body = take_all len (sealed_block body) (omega (arith, length-sealed_block body)) in
    (long_enough len (length (sealed_block body)) (omega (arith, length-sealed_block body)), (s, (ap is_sealed whole ∙ is_sealed-sealed_block body, tt)))

pub eahd_head : List ℕ
eahd_head = codes "EAHD" ++ 0 ∷ 0 ∷ 8 ∷ 32 ∷ 4 ∷ 16 ∷ 4 ∷ 10 ∷ []

-- the header's bytes: what is fixed, the six numbers, the block's address, the sum
pub eahd_at-eahd_bytes : (t : EahdFields) (place : ℕ) → length t.numbers ≡ 6 → All (λ x. x < 2 ^ 64) t.numbers → t.block < 2 ^ 64 → eahd_at (eahd_bytes t) place ≡ Ok t
unfolding num eahd_head
eahd_at-eahd_bytes t place n fits block =
    let front : List ℕ = eahd_head ++ number_bytes t.numbers in
    let body : List ℕ = front ++ le 8 t.block in
    let sum : List ℕ = le 4 (sum_of body) in
    let len : length front ≡ 60 = omega (arith, length-append eahd_head (number_bytes t.numbers), length-number_bytes t.numbers) in
    let whole : length body + 4 ≡ 72 = omega (arith, length-append front (le 8 t.block), length-le 8 t.block) in
    let numbers : numbers_in (sealed_block body) 6 12 ≡ t.numbers =
    ap (λ l. numbers_in l 6 12) (append_assoc front (le 8 t.block) sum) ∙ numbers_in-number_bytes eahd_head t.numbers (le 8 t.block ++ sum) 6 12 n refl fits in
    let address : field (sealed_block body) 60 8 ≡ t.block = field-at front sum 60 8 t.block len block in
    let tests : AllPass (block_tests (codes "EAHD") 72 (sealed_block body) ++ parameter_tests (sealed_block body) place) =
    AllPass-append (block_tests (codes "EAHD") 72 (sealed_block body)) (parameter_tests (sealed_block body) place) (sealed-passes (codes "EAHD") body 72 whole refl)
    (refl, (refl, (refl, (refl, (refl, (refl, (refl, (refl, tt)))))))) in
    checked-ok (block_tests (codes "EAHD") 72 (sealed_block body) ++ parameter_tests (sealed_block body) place) (eahd_fields (sealed_block body)) tests
    ∙ λ i. Ok (record { numbers = numbers i; block = address i })

pub eaib_head : List ℕ
eaib_head = codes "EAIB" ++ 0 ∷ 0 ∷ []

-- the index block's bytes: what is fixed, the header's address, slots and addresses, the sum
pub eaib_at-eaib_bytes : (t : EaibFields) (place : ℕ) → t.header < 2 ^ 64 → length t.slots ≡ 4 → All (λ x. x < 2 ^ 64) t.slots → length t.first ≡ 6 → All (λ x. x < 2 ^ 64) t.first → length t.second ≡ 25 → All (λ x. x < 2 ^ 64) t.second →
    eaib_at (eaib_bytes t) place ≡ Ok t
unfolding num eaib_head
eaib_at-eaib_bytes t place header n1 f1 n2 f2 n3 f3 =
    let b1 : List ℕ = eaib_head ++ le 8 t.header in
    let b2 : List ℕ = b1 ++ number_bytes t.slots in
    let b3 : List ℕ = b2 ++ number_bytes t.first in
    let body : List ℕ = b3 ++ number_bytes t.second in
    let sum : List ℕ = le 4 (sum_of body) in
    let l1 : length b1 ≡ 14 = omega (arith, length-append eaib_head (le 8 t.header), length-le 8 t.header) in
    let l2 : length b2 ≡ 46 = omega (arith, length-append b1 (number_bytes t.slots), length-number_bytes t.slots) in
    let l3 : length b3 ≡ 94 = omega (arith, length-append b2 (number_bytes t.first), length-number_bytes t.first) in
    let whole : length body + 4 ≡ 298 = omega (arith, length-append b3 (number_bytes t.second), length-number_bytes t.second) in
    let s3 : sealed_block body ≡ b3 ++ (number_bytes t.second ++ sum) = append_assoc b3 (number_bytes t.second) sum in
    let s2 : sealed_block body ≡ b2 ++ (number_bytes t.first ++ (number_bytes t.second ++ sum)) = s3 ∙ append_assoc b2 (number_bytes t.first) (number_bytes t.second ++ sum) in
    let s1 : sealed_block body ≡ b1 ++ (number_bytes t.slots ++ (number_bytes t.first ++ (number_bytes t.second ++ sum))) = s2 ∙ append_assoc b1 (number_bytes t.slots) (number_bytes t.first ++ (number_bytes t.second ++ sum)) in
    let address : field (sealed_block body) 6 8 ≡ t.header = ap (λ l. field l 6 8) s1 ∙ field-at eaib_head (number_bytes t.slots ++ (number_bytes t.first ++ (number_bytes t.second ++ sum))) 6 8 t.header refl header in
    let slots : numbers_in (sealed_block body) 4 14 ≡ t.slots = ap (λ l. numbers_in l 4 14) s2 ∙ numbers_in-number_bytes b1 t.slots (number_bytes t.first ++ (number_bytes t.second ++ sum)) 4 14 n1 l1 f1 in
    let first : numbers_in (sealed_block body) 6 46 ≡ t.first = ap (λ l. numbers_in l 6 46) s3 ∙ numbers_in-number_bytes b2 t.first (number_bytes t.second ++ sum) 6 46 n2 l2 f2 in
    let second : numbers_in (sealed_block body) 25 94 ≡ t.second = numbers_in-number_bytes b3 t.second sum 25 94 n3 l3 f3 in
    let tests : AllPass (block_tests (codes "EAIB") 298 (sealed_block body) ++ array_tests (sealed_block body) place) =
    AllPass-append (block_tests (codes "EAIB") 298 (sealed_block body)) (array_tests (sealed_block body) place) (sealed-passes (codes "EAIB") body 298 whole refl) (refl, (refl, tt)) in
    checked-ok (block_tests (codes "EAIB") 298 (sealed_block body) ++ array_tests (sealed_block body) place) (eaib_fields (sealed_block body)) tests
    ∙ λ i. Ok (record { header = address i; slots = slots i; first = first i; second = second i })

-- a secondary block or a data block: signature, version and client, the header's address, the offset, the slots, the sum
pub slots_at-slots_bytes : (signature : List ℕ) (t : SlotsFields) (place n : ℕ) → starts_with nat_eq (slots_bytes signature t) signature ≡ true → AllPass (array_tests (slots_bytes signature t) place) →
    length signature ≡ 4 → t.header < 2 ^ 64 → t.offset < 2 ^ 32 → length t.slots ≡ n → All (λ x. x < 2 ^ 64) t.slots → slots_at signature (slots_bytes signature t) place n ≡ Ok t
slots_at-slots_bytes signature t place n starts bytes four header offset count fits =
    let b0 : List ℕ = signature ++ 0 ∷ 0 ∷ [] in
    let b1 : List ℕ = b0 ++ le 8 t.header in
    let b2 : List ℕ = b1 ++ le 4 t.offset in
    let body : List ℕ = ((signature ++ 0 ∷ 0 ∷ le 8 t.header) ++ le 4 t.offset) ++ number_bytes t.slots in
    let sum : List ℕ = le 4 (sum_of body) in
    let e1 : signature ++ 0 ∷ 0 ∷ le 8 t.header ≡ b1 = sym (append_assoc signature (0 ∷ 0 ∷ []) (le 8 t.header)) in
    let l0 : length b0 ≡ 6 = omega (arith, length-append signature (0 ∷ 0 ∷ [])) in
    let l1 : length b1 ≡ 14 = omega (arith, length-append b0 (le 8 t.header), length-le 8 t.header) in
    let l2 : length b2 ≡ 18 = omega (arith, length-append b1 (le 4 t.offset), length-le 4 t.offset) in
    let e2 : (signature ++ 0 ∷ 0 ∷ le 8 t.header) ++ le 4 t.offset ≡ b2 = ap (λ l. l ++ le 4 t.offset) e1 in
    let s3 : sealed_block body ≡ (b2 ++ number_bytes t.slots) ++ sum = ap (λ l. (l ++ number_bytes t.slots) ++ sum) e2 in
    let s2 : sealed_block body ≡ b2 ++ (number_bytes t.slots ++ sum) = s3 ∙ append_assoc b2 (number_bytes t.slots) sum in
    let s1 : sealed_block body ≡ b1 ++ (le 4 t.offset ++ (number_bytes t.slots ++ sum)) = s2 ∙ append_assoc b1 (le 4 t.offset) (number_bytes t.slots ++ sum) in
    let whole : length body + 4 ≡ slots_len n = omega (arith, ap length e2, length-append ((signature ++ 0 ∷ 0 ∷ le 8 t.header) ++ le 4 t.offset) (number_bytes t.slots), length-number_bytes t.slots) in
    let address : field (sealed_block body) 6 8 ≡ t.header = ap (λ l. field l 6 8) s1 ∙ field-at b0 (le 4 t.offset ++ (number_bytes t.slots ++ sum)) 6 8 t.header l0 header in
    let number : field (sealed_block body) 14 4 ≡ t.offset = ap (λ l. field l 14 4) s2 ∙ field-at b1 (number_bytes t.slots ++ sum) 14 4 t.offset l1 offset in
    let slots : numbers_in (sealed_block body) n 18 ≡ t.slots = ap (λ l. numbers_in l n 18) s3 ∙ numbers_in-number_bytes b2 t.slots sum n 18 count l2 fits in
    let tests : AllPass (block_tests signature (slots_len n) (sealed_block body) ++ array_tests (sealed_block body) place) =
    AllPass-append (block_tests signature (slots_len n) (sealed_block body)) (array_tests (sealed_block body) place) (sealed-passes signature body (slots_len n) whole starts) bytes in
    checked-ok (block_tests signature (slots_len n) (sealed_block body) ++ array_tests (sealed_block body) place) (slots_fields (sealed_block body) n) tests
    ∙ λ i. Ok (record { header = address i; offset = number i; slots = slots i })

pub eadb_at-eadb_bytes : (t : SlotsFields) (place n : ℕ) → t.header < 2 ^ 64 → t.offset < 2 ^ 32 → length t.slots ≡ n → All (λ x. x < 2 ^ 64) t.slots → eadb_at (eadb_bytes t) place n ≡ Ok t
unfolding num
eadb_at-eadb_bytes t place n header offset count fits = slots_at-slots_bytes (codes "EADB") t place n refl (refl, (refl, tt)) refl header offset count fits

pub easb_at-easb_bytes : (t : SlotsFields) (place n : ℕ) → t.header < 2 ^ 64 → t.offset < 2 ^ 32 → length t.slots ≡ n → All (λ x. x < 2 ^ 64) t.slots → easb_at (easb_bytes t) place n ≡ Ok t
unfolding num
easb_at-easb_bytes t place n header offset count fits = slots_at-slots_bytes (codes "EASB") t place n refl (refl, (refl, tt)) refl header offset count fits
