-- The bytes of a new block.
use Rattle.std.proofs.Common.{◌≡◌, ℕ, zero, suc, ◌+◌, ◌*◌, ◌^◌, ◌<◌, ◌≤◌, List, [], ◌∷◌, ◌++◌, length, take, drop, map, replicate, false, refl, sym, ap, ◌∙◌, arith, append_assoc, append-nil, length-append, mul-le-mul}
use Rattle.std.proofs.lemmas.List.{length-replicate, length-map, map-append, take_at}
use Rattle.std.proofs.lemmas.List.FromFn.{length-range_with_len}
use Rattle.std.proofs.Math.ListN.{drop_of_length-le}
use Rattle.std.proofs.lemmas.List.Elements.{All-nil, All-cons}
use Rattle.std.specs.Prelude.{codes}
use Rattle.std.specs.List.{All, range_with_len}
use Rattle.h5w_model.specs.Numbers.{le, undefined}
use Rattle.h5w_model.specs.Checksum.{is_sealed, sum_of}
use Rattle.h5w_model.specs.Arrays.{SlotsFields, eadb_bytes, easb_bytes, slots_bytes, slots_len, number_bytes, numbers_in, super_block_of}
use Rattle.h5w_model.proofs.NumberLemmas.{length-le}
use Rattle.h5w_model.proofs.ArrayLemmas.{length-number_bytes, numbers_in-number_bytes}
use Rattle.h5w_model.proofs.ChecksumLemmas.{length-sealed_block, is_sealed-sealed_block}
use Rattle.h5w_cache.specs.Blocks.{BlockView, AreInside}
use Rattle.h5w_cache.specs.declared.block.Link.{Link}
use Rattle.h5w_array_laws.specs.Parts.{Part, data_of, secondary_of, IsPart, number_of, links_of, links_from, offset_of}
use Rattle.h5w_array_laws.specs.ArrayStores.{HasHead}
use Rattle.h5w_array_laws.proofs.KeptLemmas.{begins_shorter}
use Rattle.h5w_array_laws.proofs.FoundLemmas.{count_blocks}
use Rattle.h5w_ea_index.specs.Fresh.{IsFresh}

-- ---- Bytes

all_undefined : (n : ℕ) → All (λ (x : ℕ). x < 2 ^ 64) (replicate n undefined)
all_undefined zero = All-nil (λ (x : ℕ). x < 2 ^ 64)
all_undefined (suc n) = All-cons (λ (x : ℕ). x < 2 ^ 64) undefined (replicate n undefined) (omega arith) (all_undefined n)

-- the front of such a block
abbrev pub front : List ℕ → ℕ → ℕ → List ℕ
front signature at o = (signature ++ 0 ∷ 0 ∷ le 8 at) ++ le 4 o

length-front : (signature : List ℕ) (at o : ℕ) → length signature ≡ 4 → length (front signature at o) ≡ 18
length-front signature at o h =
    let a = length-append (signature ++ 0 ∷ 0 ∷ le 8 at) (le 4 o) in
    let b = length-append signature (0 ∷ 0 ∷ le 8 at) in
    let c = length-le 8 at in
    let d = length-le 4 o in
    omega arith

abbrev pub empty_fields : ℕ → ℕ → ℕ → SlotsFields
empty_fields at o n = record { header = at; offset = o; slots = replicate n undefined }

pub length-empty : (signature : List ℕ) (at o n : ℕ) → length signature ≡ 4 → length (slots_bytes signature (empty_fields at o n)) ≡ slots_len n
length-empty signature at o n h =
    let f = length-front signature at o h in
    let xs : List ℕ = number_bytes (replicate n undefined) in
    let a = length-append (front signature at o) xs in
    let b = length-number_bytes (replicate n undefined) in
    let c = length-replicate n undefined in
    length-sealed_block (front signature at o ++ xs) ∙ (let e : length (front signature at o ++ xs) + 4 ≡ 22 + 8 * n = omega arith in e)

pub head-empty : (signature : List ℕ) (at o n : ℕ) → length signature ≡ 4 → take 18 (slots_bytes signature (empty_fields at o n)) ≡ front signature at o
head-empty signature at o n h =
    let xs : List ℕ = number_bytes (replicate n undefined) in
    let sum : List ℕ = le 4 (sum_of (front signature at o ++ xs)) in
    ap (take 18) (append_assoc (front signature at o) xs sum) ∙ take_at (front signature at o) (xs ++ sum) 18 (length-front signature at o h)

pub numbers-empty : (signature : List ℕ) (at o n : ℕ) → length signature ≡ 4 → numbers_in (slots_bytes signature (empty_fields at o n)) n 18 ≡ replicate n undefined
numbers-empty signature at o n h =
    let xs : List ℕ = number_bytes (replicate n undefined) in
    numbers_in-number_bytes (front signature at o) (replicate n undefined) (le 4 (sum_of (front signature at o ++ xs))) n 18 (length-replicate n undefined) (length-front signature at o h) (all_undefined n)

no_numbers : (b : List ℕ) (p : ℕ) → numbers_in b 0 p ≡ []
unfolding numbers_in
no_numbers b p = refl

pub fresh_data : (at s b : ℕ) (v : BlockView) → IsPart (data_of s b) → v.bytes ≡ eadb_bytes (empty_fields at (offset_of (data_of s b)) (super_block_of s).slots) → v.links ≡ [] → v.turn ≡ 65 * s + b → v.in_place ≡ false → v.sealed ≡ slots_len (super_block_of s).slots
    → IsFresh at (data_of s b) v
fresh_data at s b v p bytes links turn in' sealed =
    let o : ℕ = offset_of (data_of s b) in
    let n : ℕ = (super_block_of s).slots in
    let head : HasHead at (data_of s b) v = ap (λ k. take k v.bytes) (length-front (codes "EADB") at o refl) ∙ ap (take 18) bytes ∙ head-empty (codes "EADB") at o n refl in
    record {
      block = record {
        len = ap length bytes ∙ length-empty (codes "EADB") at o n refl;
        links = links;
        turn = turn;
        in_place = in';
        sealed = sealed;
        signed = begins_shorter (codes "EADB" ++ 0 ∷ 0 ∷ []) (le 8 at ++ le 4 o) v.bytes head;
      };
      head = head;
      whole = ap is_sealed bytes ∙ is_sealed-sealed_block (front (codes "EADB") at o ++ number_bytes (replicate n undefined));
      empty = ap (λ l. numbers_in l n 18) bytes ∙ numbers-empty (codes "EADB") at o n refl;
      unnamed = no_numbers v.bytes 18;
    }

pub fresh_secondary : (at s : ℕ) (v : BlockView) → IsPart (secondary_of s) → v.bytes ≡ easb_bytes (empty_fields at (offset_of (secondary_of s)) (super_block_of s).blocks) → v.links ≡ links_of (secondary_of s) → v.turn ≡ 65 * s + 64 → v.in_place ≡ false → v.sealed ≡ slots_len (super_block_of s).blocks
    → IsFresh at (secondary_of s) v
fresh_secondary at s v p bytes links turn in' sealed =
    let o : ℕ = offset_of (secondary_of s) in
    let n : ℕ = (super_block_of s).blocks in
    let head : HasHead at (secondary_of s) v = ap (λ k. take k v.bytes) (length-front (codes "EASB") at o refl) ∙ ap (take 18) bytes ∙ head-empty (codes "EASB") at o n refl in
    record {
      block = record {
        len = ap length bytes ∙ length-empty (codes "EASB") at o n refl;
        links = links;
        turn = turn;
        in_place = in';
        sealed = sealed;
        signed = begins_shorter (codes "EASB" ++ 0 ∷ 0 ∷ []) (le 8 at ++ le 4 o) v.bytes head;
      };
      head = head;
      whole = ap is_sealed bytes ∙ is_sealed-sealed_block (front (codes "EASB") at o ++ number_bytes (replicate n undefined));
      empty = no_numbers v.bytes 18;
      unnamed = ap (λ k. numbers_in v.bytes k 18) (count_blocks s) ∙ ap (λ l. numbers_in l n 18) bytes ∙ numbers-empty (codes "EASB") at o n refl ∙ ap (λ k. replicate k undefined) (sym (count_blocks s));
    }

-- ---- Links

pub links-push : (p : ℕ) (ks : List Part) (k : Part) → links_from p (ks ++ k ∷ []) ≡ links_from p ks ++ record { offset = p + 8 * length ks; child = number_of k } ∷ []
links-push p [] k = let e : p ≡ p + 8 * 0 = omega arith in ap (λ o. record { offset = o; child = number_of k } ∷ []) e
links-push p (x ∷ ks) k =
    let e : p + 8 + 8 * length ks ≡ p + 8 * suc (length ks) = omega arith in
    ap (λ l. record { offset = p; child = number_of x } ∷ l) (links-push (p + 8) ks k ∙ ap (λ o. links_from (p + 8) ks ++ record { offset = o; child = number_of k } ∷ []) e)

pub links_inside : (p : ℕ) (ks : List Part) (n : ℕ) → p + 8 * length ks ≤ n → AreInside (links_from p ks) n
links_inside p [] n h = All-nil (λ (l : Link). l.offset + 8 ≤ n)
links_inside p (k ∷ ks) n h = All-cons (λ (l : Link). l.offset + 8 ≤ n) (record { offset = p; child = number_of k }) (links_from (p + 8) ks) (omega arith) (links_inside (p + 8) ks n (omega arith))

-- ---- Sizes

pub same_data_bytes : (at o p : ℕ) (xs ys : List ℕ) → o ≡ p → xs ≡ ys → eadb_bytes (record { header = at; offset = o; slots = xs }) ≡ eadb_bytes (record { header = at; offset = p; slots = ys })
same_data_bytes at o p xs ys e f = λ i. eadb_bytes (record { header = at; offset = e i; slots = f i })

pub same_secondary_bytes : (at o p : ℕ) (xs ys : List ℕ) → o ≡ p → xs ≡ ys → easb_bytes (record { header = at; offset = o; slots = xs }) ≡ easb_bytes (record { header = at; offset = p; slots = ys })
same_secondary_bytes at o p xs ys e f = λ i. easb_bytes (record { header = at; offset = e i; slots = f i })

range-more : (a n : ℕ) → range_with_len a (n + 1) ≡ range_with_len a n ++ (a + n) ∷ []
range-more a zero = let e : a ≡ a + 0 = omega arith in ap (λ x. x ∷ []) e
range-more a (suc n) =
    let e : suc n + 1 ≡ suc (n + 1) = omega arith in
    let f : a + 1 + n ≡ a + suc n = omega arith in
    ap (range_with_len a) e ∙ ap (λ l. a ∷ l) (range-more (a + 1) n ∙ ap (λ x. range_with_len (a + 1) n ++ x ∷ []) f)

pub links_next : (s n : ℕ) (before after : List Link) → before ≡ links_from 18 (map (data_of s) (range_with_len 0 n)) → after ≡ before ++ record { offset = 18 + 8 * n; child = 65 * s + n } ∷ [] → after ≡ links_from 18 (map (data_of s) (range_with_len 0 (n + 1)))
links_next s n before after e f =
    let ks : List Part = map (data_of s) (range_with_len 0 n) in
    let l : length ks ≡ n = length-map (range_with_len 0 n) (data_of s) ∙ length-range_with_len 0 n in
    let m : map (data_of s) (range_with_len 0 (n + 1)) ≡ ks ++ data_of s n ∷ [] = ap (map (data_of s)) (range-more 0 n ∙ (let z : 0 + n ≡ n = omega arith in ap (λ x. range_with_len 0 n ++ x ∷ []) z)) ∙ map-append (data_of s) (range_with_len 0 n) (n ∷ []) in
    f ∙ ap (λ xs. xs ++ record { offset = 18 + 8 * n; child = 65 * s + n } ∷ []) e
    ∙ sym (ap (links_from 18) m ∙ links-push 18 ks (data_of s n) ∙ ap (λ k. links_from 18 ks ++ record { offset = 18 + 8 * k; child = 65 * s + n } ∷ []) l)

pub links_fit : (s n m : ℕ) → n ≤ m → AreInside (links_from 18 (map (data_of s) (range_with_len 0 n))) (22 + 8 * m)
links_fit s n m h =
    let l : length (map (data_of s) (range_with_len 0 n)) ≡ n = length-map (range_with_len 0 n) (data_of s) ∙ length-range_with_len 0 n in
    links_inside 18 (map (data_of s) (range_with_len 0 n)) (22 + 8 * m) (omega arith)
