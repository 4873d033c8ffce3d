-- What bytes are that are decoded as a block of an array.
use Rattle.std.proofs.Common.{◌≡◌, ℕ, ◌≤◌, List, [], ◌∷◌, ◌++◌, length, take, true, Result, Ok, Err, refl, sym, ap, ◌∙◌, arith, codes}
use Rattle.std.proofs.lemmas.Bool.Decides.{nat_tests}
use Rattle.std.proofs.lemmas.List.{take_all}
use Rattle.std.specs.Prelude.{None, nat_le, ◌==◌}
use Rattle.std.specs.Cmp.Lexicographic.{bytes_decides}
use Rattle.h5w_model.specs.Numbers.{field, num}
use Rattle.h5w_model.specs.Checksum.{is_sealed}
use Rattle.h5w_model.specs.Blocks.{block_tests}
use Rattle.h5w_model.specs.Arrays.{SlotsFields, array_tests, parameter_tests, eahd_at, eahd_fields, eahd_len, eaib_at, eaib_fields, eaib_len, eadb_at, easb_at, slots_fields, slots_len, super_block_of}
use Rattle.h5w_model.specs.declared.refusal.BlockFault.{BlockFault}
use Rattle.h5w_model.proofs.CheckedLemmas.{AllPass, checked-passed}
use Rattle.h5w_cache.specs.Blocks.{BlockView}
use Rattle.h5w_array_laws.specs.Parts.{Part, data_of, secondary_of, index_block, header, number_of, length_of, links_of, sign_of, stays_in_place}
use Rattle.h5w_ea_index.specs.Opened.{IsSound, refusal, refusal_of}

-- ---- The front

front6 : (p q r s : ℕ) (b : List ℕ) → take 4 b ≡ p ∷ q ∷ r ∷ s ∷ [] → field b 4 1 ≡ 0 → field b 5 1 ≡ 0 → 6 ≤ length b → take 6 b ≡ p ∷ q ∷ r ∷ s ∷ 0 ∷ 0 ∷ []
unfolding num
front6 p q r s [] e f g h = absurd (omega arith)
front6 p q r s (a0 ∷ []) e f g h = absurd (omega arith)
front6 p q r s (a0 ∷ a1 ∷ []) e f g h = absurd (omega arith)
front6 p q r s (a0 ∷ a1 ∷ a2 ∷ []) e f g h = absurd (omega arith)
front6 p q r s (a0 ∷ a1 ∷ a2 ∷ a3 ∷ []) e f g h = absurd (omega arith)
front6 p q r s (a0 ∷ a1 ∷ a2 ∷ a3 ∷ a4 ∷ []) e f g h = absurd (omega arith)
front6 p q r s (a0 ∷ a1 ∷ a2 ∷ a3 ∷ a4 ∷ a5 ∷ rest) e f g h =
    let x : a4 ≡ 0 = omega arith in
    let y : a5 ≡ 0 = omega arith in
    cc

front12 : (p q r s : ℕ) (b : List ℕ) → take 4 b ≡ p ∷ q ∷ r ∷ s ∷ [] → field b 4 1 ≡ 0 → field b 5 1 ≡ 0 → field b 6 1 ≡ 8 → field b 7 1 ≡ 32 → field b 8 1 ≡ 4 → field b 9 1 ≡ 16 → field b 10 1 ≡ 4 → field b 11 1 ≡ 10 → 12 ≤ length b
    → take 12 b ≡ p ∷ q ∷ r ∷ s ∷ 0 ∷ 0 ∷ 8 ∷ 32 ∷ 4 ∷ 16 ∷ 4 ∷ 10 ∷ []
unfolding num
front12 p q r s [] e f4 f5 f6 f7 f8 f9 fa fb h = absurd (omega arith)
front12 p q r s (a0 ∷ []) e f4 f5 f6 f7 f8 f9 fa fb h = absurd (omega arith)
front12 p q r s (a0 ∷ a1 ∷ []) e f4 f5 f6 f7 f8 f9 fa fb h = absurd (omega arith)
front12 p q r s (a0 ∷ a1 ∷ a2 ∷ []) e f4 f5 f6 f7 f8 f9 fa fb h = absurd (omega arith)
front12 p q r s (a0 ∷ a1 ∷ a2 ∷ a3 ∷ []) e f4 f5 f6 f7 f8 f9 fa fb h = absurd (omega arith)
front12 p q r s (a0 ∷ a1 ∷ a2 ∷ a3 ∷ a4 ∷ []) e f4 f5 f6 f7 f8 f9 fa fb h = absurd (omega arith)
front12 p q r s (a0 ∷ a1 ∷ a2 ∷ a3 ∷ a4 ∷ a5 ∷ []) e f4 f5 f6 f7 f8 f9 fa fb h = absurd (omega arith)
front12 p q r s (a0 ∷ a1 ∷ a2 ∷ a3 ∷ a4 ∷ a5 ∷ a6 ∷ []) e f4 f5 f6 f7 f8 f9 fa fb h = absurd (omega arith)
front12 p q r s (a0 ∷ a1 ∷ a2 ∷ a3 ∷ a4 ∷ a5 ∷ a6 ∷ a7 ∷ []) e f4 f5 f6 f7 f8 f9 fa fb h = absurd (omega arith)
front12 p q r s (a0 ∷ a1 ∷ a2 ∷ a3 ∷ a4 ∷ a5 ∷ a6 ∷ a7 ∷ a8 ∷ []) e f4 f5 f6 f7 f8 f9 fa fb h = absurd (omega arith)
front12 p q r s (a0 ∷ a1 ∷ a2 ∷ a3 ∷ a4 ∷ a5 ∷ a6 ∷ a7 ∷ a8 ∷ a9 ∷ []) e f4 f5 f6 f7 f8 f9 fa fb h = absurd (omega arith)
front12 p q r s (a0 ∷ a1 ∷ a2 ∷ a3 ∷ a4 ∷ a5 ∷ a6 ∷ a7 ∷ a8 ∷ a9 ∷ aa ∷ []) e f4 f5 f6 f7 f8 f9 fa fb h = absurd (omega arith)
front12 p q r s (a0 ∷ a1 ∷ a2 ∷ a3 ∷ a4 ∷ a5 ∷ a6 ∷ a7 ∷ a8 ∷ a9 ∷ aa ∷ ab ∷ rest) e f4 f5 f6 f7 f8 f9 fa fb h =
    let x4 : a4 ≡ 0 = omega arith in
    let x5 : a5 ≡ 0 = omega arith in
    let x6 : a6 ≡ 8 = omega arith in
    let x7 : a7 ≡ 32 = omega arith in
    let x8 : a8 ≡ 4 = omega arith in
    let x9 : a9 ≡ 16 = omega arith in
    let xa : aa ≡ 4 = omega arith in
    let xb : ab ≡ 10 = omega arith in
    cc

-- ---- The tests that it passed

-- bytes that begin and end as this part does
pub record IsDecoded (k : Part) (b : List ℕ) : Type 0 where
  pub long : length_of k ≤ length b
  pub signed : take (length (sign_of k)) b ≡ sign_of k
  pub sealed : is_sealed (take (length_of k) b) ≡ true

enough : (a b : ℕ) → nat_le a b ≡ true → a ≤ b
enough a b h = grind (arith, nat_tests)

is_byte : (b : List ℕ) (o v : ℕ) → (field b o 1 == v) ≡ true → field b o 1 ≡ v
is_byte b o v h = grind (arith, nat_tests)

pub refusal_none : {A : Type 0} (r : Result A BlockFault) → refusal r ≡ None → (a : A) × (r ≡ Ok a)
refusal_none (Ok a) h = (a, refl)
refusal_none (Err f) h = absurd (cc)

slots_decoded : (p q r s n place : ℕ) (b : List ℕ) (f : SlotsFields) → AllPass (block_tests (p ∷ q ∷ r ∷ s ∷ []) (slots_len n) b ++ array_tests b place)
    → (slots_len n ≤ length b) × (take 6 b ≡ p ∷ q ∷ r ∷ s ∷ 0 ∷ 0 ∷ []) × (is_sealed (take (slots_len n) b) ≡ true)
slots_decoded p q r s n place b f t =
    let long : slots_len n ≤ length b = enough (slots_len n) (length b) t.0 in
    let same : p ∷ q ∷ r ∷ s ∷ [] ≡ take 4 b = (bytes_decides (p ∷ q ∷ r ∷ s ∷ []) (take 4 b)).0 t.1.0 in
    (long, front6 p q r s b (sym same) (is_byte b 4 0 t.1.1.1.0) (is_byte b 5 0 t.1.1.1.1.0) (omega arith), t.1.1.0)

pub decoded : (k : Part) (b : List ℕ) (place : ℕ) → refusal_of k b place ≡ None → IsDecoded k b
decoded (data_of s c) b place h =
    let n : ℕ = (super_block_of s).slots in
    let f = refusal_none (eadb_at b place n) h in
    let t = (checked-passed (block_tests (codes "EADB") (slots_len n) b ++ array_tests b place) (slots_fields b n) f.0 f.1).0 in
    let d = slots_decoded 69 65 68 66 n place b f.0 t in
    record { long = d.0; signed = d.1; sealed = d.2 }
decoded (secondary_of s) b place h =
    let n : ℕ = (super_block_of s).blocks in
    let f = refusal_none (easb_at b place n) h in
    let t = (checked-passed (block_tests (codes "EASB") (slots_len n) b ++ array_tests b place) (slots_fields b n) f.0 f.1).0 in
    let d = slots_decoded 69 65 83 66 n place b f.0 t in
    record { long = d.0; signed = d.1; sealed = d.2 }
decoded index_block b place h =
    let f = refusal_none (eaib_at b place) h in
    let t = (checked-passed (block_tests (codes "EAIB") eaib_len b ++ array_tests b place) (eaib_fields b) f.0 f.1).0 in
    let long : eaib_len ≤ length b = enough eaib_len (length b) t.0 in
    let same : codes "EAIB" ≡ take 4 b = (bytes_decides (codes "EAIB") (take 4 b)).0 t.1.0 in
    record { long = long; signed = front6 69 65 73 66 b (sym same) (is_byte b 4 0 t.1.1.1.0) (is_byte b 5 0 t.1.1.1.1.0) (omega arith); sealed = t.1.1.0 }
decoded header b place h =
    let f = refusal_none (eahd_at b place) h in
    let t = (checked-passed (block_tests (codes "EAHD") eahd_len b ++ parameter_tests b place) (eahd_fields b) f.0 f.1).0 in
    let long : eahd_len ≤ length b = enough eahd_len (length b) t.0 in
    let same : codes "EAHD" ≡ take 4 b = (bytes_decides (codes "EAHD") (take 4 b)).0 t.1.0 in
    let u = t.1.1.1 in
    record {
      long = long;
      signed = front12 69 65 72 68 b (sym same) (is_byte b 4 0 u.0) (is_byte b 5 0 u.1.0) (is_byte b 6 8 u.1.1.0) (is_byte b 7 32 u.1.1.1.0) (is_byte b 8 4 u.1.1.1.1.0) (is_byte b 9 16 u.1.1.1.1.1.0) (is_byte b 10 4 u.1.1.1.1.1.1.0) (is_byte b 11 10 u.1.1.1.1.1.1.1.0) (omega arith);
      sealed = t.1.1.0;
    }

-- a block of such bytes, of just its length
pub sound_block : (k : Part) (b : BlockView) (bytes : List ℕ) (place : ℕ) → b.bytes ≡ bytes → length bytes ≡ length_of k → refusal_of k bytes place ≡ None → b.links ≡ links_of k → b.turn ≡ number_of k → b.in_place ≡ stays_in_place k → b.sealed ≡ length_of k → IsSound k b
sound_block k b bytes place e len h links turn in' sealed =
    let d = decoded k bytes place h in
    record {
      block = record {
        len = ap length e ∙ len;
        links = links;
        turn = turn;
        in_place = in';
        sealed = sealed;
        signed = ap (take (length (sign_of k))) e ∙ d.signed;
      };
      sealed = ap is_sealed e ∙ sym (ap is_sealed (take_all (length_of k) bytes (omega (arith, len)))) ∙ d.sealed;
    }
