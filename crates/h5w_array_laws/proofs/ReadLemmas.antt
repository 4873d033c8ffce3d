-- Where the blocks behind those in place stand, a check behind the index block finds their ranges.
use Rattle.std.proofs.Common.{◌≡◌, ◌≢◌, ℕ, zero, suc, ◌+◌, ◌*◌, ◌<◌, ◌≤◌, cond, List, [], ◌∷◌, ◌++◌, length, Ok, refl, sym, ap, ◌∙◌, arith, append-nil}
use Rattle.std.specs.Prelude.{◌==◌, None, nat_lt, map, flat_map}
use Rattle.std.specs.List.{AllByRecursion, range_with_len}
use Rattle.std.proofs.lemmas.Grind.{flat_map-append}
use Rattle.std.proofs.lemmas.Bool.{le-ltb, lt-ltb, cond-true, cond-false}
use Rattle.h5w_model.specs.Numbers.{undefined, field}
use Rattle.h5w_model.specs.Images.{At}
use Rattle.h5w_model.specs.Programs.{ret, eval}
use Rattle.h5w_model.specs.Arrays.{super_block_of, slots_len, numbers_in}
use Rattle.h5w_model.specs.Tables.{super_block_of_first}
use Rattle.h5w_model.specs.Findings.{Used, both, first_visits, second_visits, data_block_visit, secondary_block_visit}
use Rattle.h5w_cache.specs.Blocks.{BlockView}
use Rattle.h5w_cache.specs.Stores.{Store}
use Rattle.h5w_step_laws.specs.Ranges.{AllEndBy, block_at}
use Rattle.h5w_step_laws.proofs.RangeLemmas.{ends_left, ends_right}
use Rattle.h5w_array_laws.specs.Parts.{Part, data_of, secondary_of, IsPart, number_of, length_of, data_blocks_of}
use Rattle.h5w_array_laws.specs.ArrayStores.{IsArray, block_at_part, place_at_part, bytes_at_part, chunks_in, slots_in, own_range, ranges_of}
use Rattle.h5w_array_laws.specs.ArrayImages.{BehindStands}
use Rattle.h5w_array_laws.proofs.BlockLemmas.{data_head, secondary_head}
use Rattle.h5w_array_laws.proofs.InPlaceLemmas.{unequal}
use Rattle.h5w_array_laws.proofs.VisitLemmas.{IsThere, with_behind, both_from}
use Rattle.h5w_array_laws.proofs.KeptLemmas.{IsKept, KeptOrNone, kept_or_none, kept_placed, kept_there, data_sealed, secondary_sealed, unchanged}

-- ---- Lists

-- numbers one after another, in two parts
pub numbers_in-parts : (b : List ℕ) (n m place : ℕ) → numbers_in b (n + m) place ≡ numbers_in b n place ++ numbers_in b m (place + 8 * n)
unfolding numbers_in
numbers_in-parts b zero m place =
    let e : 0 + m ≡ m = omega arith in
    let p : place ≡ place + 8 * 0 = omega arith in
    ap (λ k. numbers_in b k place) e ∙ ap (numbers_in b m) p
numbers_in-parts b (suc n) m place =
    let e : suc n + m ≡ suc (n + m) = omega arith in
    let p : (place + 8) + 8 * n ≡ place + 8 * suc n = omega arith in
    ap (λ k. numbers_in b k place) e
    ∙ ap (λ l. field b place 8 ∷ l) (numbers_in-parts b n m (place + 8) ∙ ap (λ q. numbers_in b n (place + 8) ++ numbers_in b m q) p)

pub flat_map-flat_map : {X Y A : Type 0} (f : Y → List A) (g : X → List Y) (xs : List X) → flat_map f (flat_map g xs) ≡ flat_map (λ x. flat_map f (g x)) xs
flat_map-flat_map f g [] = refl
flat_map-flat_map f g (x ∷ xs) = flat_map-append f (g x) (flat_map g xs) ∙ ap (λ l. flat_map f (g x) ++ l) (flat_map-flat_map f g xs)

pub flat_map-none : {X A : Type 0} (f : X → List A) (xs : List X) → AllByRecursion (λ x. f x ≡ []) xs → flat_map f xs ≡ []
flat_map-none f [] h = refl
flat_map-none f (x ∷ xs) h = ap (λ l. l ++ flat_map f xs) h.0 ∙ flat_map-none f xs h.1

pub ends_each : {X : Type 0} (end : ℕ) (f : X → List Used) (xs : List X) → AllEndBy end (flat_map f xs) → AllByRecursion (λ x. AllEndBy end (f x)) xs
ends_each end f [] h = tt
ends_each end f (x ∷ xs) h = (ends_left end (f x) (flat_map f xs) h, ends_each end f xs (ends_right end (f x) (flat_map f xs) h))

-- what holds of each data block of a super block
pub each_data : (P : Part → Type 0) (s from n total : ℕ) → from + n ≡ total → ((b : ℕ) → b < total → P (data_of s b)) → AllByRecursion P (map (data_of s) (range_with_len from n))
each_data P s from zero total e h = tt
each_data P s from (suc n) total e h = (h from (omega arith), each_data P s (from + 1) n total (omega arith) h)

pub all_data : (P : Part → Type 0) (s : ℕ) → ((b : ℕ) → b < (super_block_of s).blocks → P (data_of s b)) → AllByRecursion P (data_blocks_of s)
all_data P s h = each_data P s 0 (super_block_of s).blocks (super_block_of s).blocks (omega arith) h

pub all_both : {X : Type 0} (P Q R : X → Type 0) (xs : List X) → ((x : X) → P x → Q x → R x) → AllByRecursion P xs → AllByRecursion Q xs → AllByRecursion R xs
all_both P Q R [] f h g = tt
all_both P Q R (x ∷ xs) f h g = (f x h.0 g.0, all_both P Q R xs f h.1 g.1)

-- ---- What the index block names

abbrev pub FirstsFound : List ℕ → ℕ → ℕ → (Part → ℕ) → (Part → List Used) → ℕ → List Part → Type 0
FirstsFound img end bytes place ranges from [] = Unit {0}
FirstsFound img end bytes place ranges from (k ∷ ks) =
    (eval img (data_block_visit end bytes (super_block_of (super_block_of_first from)).slots (place k)) ≡ Ok (ranges k)) × FirstsFound img end bytes place ranges (from + 1) ks

pub firsts_found : (img : List ℕ) (end bytes : ℕ) (place : Part → ℕ) (ranges : Part → List Used) (from : ℕ) (ks : List Part) → FirstsFound img end bytes place ranges from ks
    → eval img (first_visits end bytes from (map place ks)) ≡ Ok (flat_map ranges ks)
firsts_found img end bytes place ranges from [] h = refl
firsts_found img end bytes place ranges from (k ∷ ks) h =
    both_from img (data_block_visit end bytes (super_block_of (super_block_of_first from)).slots (place k)) (first_visits end bytes (from + 1) (map place ks)) (ranges k) (flat_map ranges ks) h.0
    (firsts_found img end bytes place ranges (from + 1) ks h.1)

abbrev pub SecondsFound : List ℕ → ℕ → ℕ → (Part → ℕ) → (Part → List Used) → ℕ → List Part → Type 0
SecondsFound img end bytes place ranges from [] = Unit {0}
SecondsFound img end bytes place ranges from (k ∷ ks) = (eval img (secondary_block_visit end bytes from (place k)) ≡ Ok (ranges k)) × SecondsFound img end bytes place ranges (from + 1) ks

-- what stands behind the addresses of super blocks up to 12 is passed over
pub seconds_found : (img : List ℕ) (end bytes : ℕ) (place : Part → ℕ) (ranges : Part → List Used) (from : ℕ) (ks : List Part) (more : List ℕ) → from + length ks ≡ 13 → SecondsFound img end bytes place ranges from ks
    → eval img (second_visits end bytes from (map place ks ++ more)) ≡ Ok (flat_map ranges ks)
seconds_found img end bytes place ranges from [] [] e h = refl
seconds_found img end bytes place ranges from [] (a ∷ more) e h =
    ap (eval img) (cond-true (nat_lt 12 from) (ret (Ok [])) (both (secondary_block_visit end bytes from a) (second_visits end bytes (from + 1) more)) (lt-ltb 12 from (omega arith)))
seconds_found img end bytes place ranges from (k ∷ ks) more e h =
    ap (eval img) (cond-false (nat_lt 12 from) (ret (Ok [])) (both (secondary_block_visit end bytes from (place k)) (second_visits end bytes (from + 1) (map place ks ++ more))) (le-ltb 12 from (omega arith)))
    ∙ both_from img (secondary_block_visit end bytes from (place k)) (second_visits end bytes (from + 1) (map place ks ++ more)) (ranges k) (flat_map ranges ks) h.0
    (seconds_found img end bytes place ranges (from + 1) ks more (omega arith) h.1)

-- ---- Ranges of one block

-- a block that is nowhere has none
pub ranges_none : (bytes : ℕ) (v : Store) (k : Part) → block_at_part v k ≡ None → place_at_part v k ≡ undefined → ranges_of bytes v k ≡ []
ranges_none bytes v k none e =
    ap (λ p. cond (p == undefined) [] (block_at p (length_of k) ∷ []) ++ chunks_in bytes (slots_in (block_at_part v k) k)) e
    ∙ ap (λ o. chunks_in bytes (slots_in o k)) none

pub own_some : (place len : ℕ) (us : List Used) → place ≢ undefined → cond (place == undefined) [] (block_at place len ∷ []) ++ us ≡ with_behind place len us
own_some place len us n =
    ap (λ c. cond c [] (block_at place len ∷ []) ++ us) (unequal place undefined n) ∙ sym (ap (λ c. cond c [] (block_at place len ∷ us)) (unequal place undefined n))

pub data_ranges : (bytes : ℕ) (v : Store) (s n : ℕ) (b : BlockView) → IsKept v (data_of s n) b
    → ranges_of bytes v (data_of s n) ≡ with_behind (place_at_part v (data_of s n)) (slots_len (super_block_of s).slots) (chunks_in bytes (numbers_in b.bytes (super_block_of s).slots 18))
data_ranges bytes v s n b h =
    own_some (place_at_part v (data_of s n)) (slots_len (super_block_of s).slots) (chunks_in bytes (slots_in (block_at_part v (data_of s n)) (data_of s n))) h.whole.placed
    ∙ ap (λ o. with_behind (place_at_part v (data_of s n)) (slots_len (super_block_of s).slots) (chunks_in bytes (slots_in o (data_of s n)))) h.kept

pub secondary_ranges : (bytes : ℕ) (v : Store) (s : ℕ) (b : BlockView) (us : List Used) → IsKept v (secondary_of s) b
    → ranges_of bytes v (secondary_of s) ++ us ≡ with_behind (place_at_part v (secondary_of s)) (slots_len (super_block_of s).blocks) us
unfolding numbers_in
secondary_ranges bytes v s b us h =
    let own : List Used = own_range v (secondary_of s) in
    ap (λ o. (own ++ chunks_in bytes (slots_in o (secondary_of s))) ++ us) h.kept
    ∙ ap (λ l. l ++ us) (append-nil own)
    ∙ own_some (place_at_part v (secondary_of s)) (slots_len (super_block_of s).blocks) us h.whole.placed

-- ---- What stands on an image

module _ (v : Store) (img : List ℕ) (a : IsArray v) (clean : v.changed ≡ []) (stands : BehindStands v img) where
  pub fate : (k : Part) → IsPart k → KeptOrNone v k
  fate k is = kept_or_none v a k is (unchanged v clean (number_of k))

  pub stands_at : (k : Part) (b : BlockView) → number_of k < 845 → IsKept v k b → At img (place_at_part v k) (bytes_at_part v k)
  stands_at k b low h = stands (number_of k) (kept_placed v k b h) low

  pub data_there : (s n : ℕ) (b : BlockView) → s ≤ 12 → n < 64 → IsKept v (data_of s n) b → IsThere img data_head (slots_len (super_block_of s).slots) (place_at_part v (data_of s n)) b.bytes
  data_there s n b low few h = kept_there v img (data_of s n) b data_head (slots_len (super_block_of s).slots) h (data_sealed v s n b h) (stands_at (data_of s n) b (omega arith) h)

  pub secondary_there : (s : ℕ) (b : BlockView) → s ≤ 12 → IsKept v (secondary_of s) b → IsThere img secondary_head (slots_len (super_block_of s).blocks) (place_at_part v (secondary_of s)) b.bytes
  secondary_there s b low h = kept_there v img (secondary_of s) b secondary_head (slots_len (super_block_of s).blocks) h (secondary_sealed v s b h) (stands_at (secondary_of s) b (omega arith) h)
