-- Blocks of an extensible array that begin as they are to and end in their sum are decoded.
use Rattle.std.proofs.Common.{◌≡◌, ℕ, true, nat_eq, List, [], ◌∷◌, ◌++◌, length, take, drop, Ok, refl, sym, ap, ◌∙◌, subst, arith, codes}
use Rattle.std.specs.List.{starts_with}
use Rattle.std.proofs.lemmas.List.{take_all, take-append-drop}
use Rattle.h5w_model.specs.Numbers.{num}
use Rattle.h5w_model.specs.Checksum.{is_sealed}
use Rattle.h5w_model.specs.Blocks.{block_tests}
use Rattle.h5w_model.specs.Arrays.{eahd_at, eahd_len, eahd_fields, parameter_tests, eaib_at, eaib_len, eaib_fields, array_tests, slots_fields, slots_len, eadb_at, easb_at}
use Rattle.h5w_model.proofs.CheckedLemmas.{AllPass, checked-ok}
use Rattle.h5w_model.proofs.ArrayLaws.{AllPass-append, long_enough}

-- what the blocks begin with: signature, version and client; a header's parameters
abbrev pub data_head : List ℕ
data_head = codes "EADB" ++ 0 ∷ 0 ∷ []

abbrev pub secondary_head : List ℕ
secondary_head = codes "EASB" ++ 0 ∷ 0 ∷ []

abbrev pub index_head : List ℕ
index_head = codes "EAIB" ++ 0 ∷ 0 ∷ []

abbrev pub header_head : List ℕ
header_head = codes "EAHD" ++ 0 ∷ 0 ∷ 8 ∷ 32 ∷ 4 ∷ 16 ∷ 4 ∷ 10 ∷ []

-- a block of some length that begins with these bytes, and ends in its sum
pub record IsSealed (head : List ℕ) (len : ℕ) (b : List ℕ) : Type 0 where
  pub long : length b ≡ len
  pub begins : take (length head) b ≡ head
  pub sealed : is_sealed b ≡ true

pub first_tests : (head signature : List ℕ) (len : ℕ) (b : List ℕ) → IsSealed head len b → starts_with nat_eq b signature ≡ true → AllPass (block_tests signature len b)
first_tests head signature len b s starts =
    let whole : take len b ≡ b = take_all len b (omega (arith, s.long)) in
    (long_enough len (length b) (omega (arith, s.long)), (starts, (ap is_sealed whole ∙ s.sealed, tt)))

pub parts : (head : List ℕ) (len : ℕ) (b : List ℕ) → IsSealed head len b → head ++ drop (length head) b ≡ b
parts head len b s = ap (λ l. l ++ drop (length head) b) (sym s.begins) ∙ take-append-drop (length head) b

pub data_decoded : (n place : ℕ) (b : List ℕ) → IsSealed data_head (slots_len n) b → eadb_at b place n ≡ Ok (slots_fields b n)
unfolding num
data_decoded n place b s =
    let e = parts data_head (slots_len n) b s in
    let starts : starts_with nat_eq b (codes "EADB") ≡ true = subst (λ (x : List ℕ). starts_with nat_eq x (codes "EADB") ≡ true) e refl in
    let bytes : AllPass (array_tests b place) = subst (λ (x : List ℕ). AllPass (array_tests x place)) e (refl, (refl, tt)) in
    checked-ok (block_tests (codes "EADB") (slots_len n) b ++ array_tests b place) (slots_fields b n)
    (AllPass-append (block_tests (codes "EADB") (slots_len n) b) (array_tests b place) (first_tests data_head (codes "EADB") (slots_len n) b s starts) bytes)

pub secondary_decoded : (n place : ℕ) (b : List ℕ) → IsSealed secondary_head (slots_len n) b → easb_at b place n ≡ Ok (slots_fields b n)
unfolding num
secondary_decoded n place b s =
    let e = parts secondary_head (slots_len n) b s in
    let starts : starts_with nat_eq b (codes "EASB") ≡ true = subst (λ (x : List ℕ). starts_with nat_eq x (codes "EASB") ≡ true) e refl in
    let bytes : AllPass (array_tests b place) = subst (λ (x : List ℕ). AllPass (array_tests x place)) e (refl, (refl, tt)) in
    checked-ok (block_tests (codes "EASB") (slots_len n) b ++ array_tests b place) (slots_fields b n)
    (AllPass-append (block_tests (codes "EASB") (slots_len n) b) (array_tests b place) (first_tests secondary_head (codes "EASB") (slots_len n) b s starts) bytes)

pub index_decoded : (place : ℕ) (b : List ℕ) → IsSealed index_head eaib_len b → eaib_at b place ≡ Ok (eaib_fields b)
unfolding num
index_decoded place b s =
    let e = parts index_head eaib_len b s in
    let starts : starts_with nat_eq b (codes "EAIB") ≡ true = subst (λ (x : List ℕ). starts_with nat_eq x (codes "EAIB") ≡ true) e refl in
    let bytes : AllPass (array_tests b place) = subst (λ (x : List ℕ). AllPass (array_tests x place)) e (refl, (refl, tt)) in
    checked-ok (block_tests (codes "EAIB") eaib_len b ++ array_tests b place) (eaib_fields b)
    (AllPass-append (block_tests (codes "EAIB") eaib_len b) (array_tests b place) (first_tests index_head (codes "EAIB") eaib_len b s starts) bytes)

pub header_decoded : (place : ℕ) (b : List ℕ) → IsSealed header_head eahd_len b → eahd_at b place ≡ Ok (eahd_fields b)
unfolding num
header_decoded place b s =
    let e = parts header_head eahd_len b s in
    let starts : starts_with nat_eq b (codes "EAHD") ≡ true = subst (λ (x : List ℕ). starts_with nat_eq x (codes "EAHD") ≡ true) e refl in
    let bytes : AllPass (parameter_tests b place) = subst (λ (x : List ℕ). AllPass (parameter_tests x place)) e (refl, (refl, (refl, (refl, (refl, (refl, (refl, (refl, tt)))))))) in
    checked-ok (block_tests (codes "EAHD") eahd_len b ++ parameter_tests b place) (eahd_fields b)
    (AllPass-append (block_tests (codes "EAHD") eahd_len b) (parameter_tests b place) (first_tests header_head (codes "EAHD") eahd_len b s starts) bytes)
