-- The six numbers of an array's header: a number that is written, blocks that are counted, and the greatest chunk number with an address.
use Rattle.std.proofs.Common.{◌≡◌, ◌≢◌, inl, inr, ℕ, zero, suc, ◌+◌, ◌-◌, ◌*◌, ◌^◌, ◌<◌, ◌≤◌, Bool, List, [], ◌∷◌, length, map, true, false, refl, sym, ap, subst, ◌∙◌, arith}
use Rattle.std.proofs.Math.ListN.{set}
use Rattle.std.proofs.Math.Nat.{add-mul}
use Rattle.std.proofs.lemmas.Bool.{cases_eq, cases_Bool}
use Rattle.std.proofs.lemmas.Bool.Decides.{nat_tests}
use Rattle.std.proofs.lemmas.List.Sums.{sum_by-le-sum_by, sum_by-cons}
use Rattle.std.specs.Prelude.{Option, Some, None, IsSome, IfSome, is_some, cond, nat_lt, ◌==◌}
use Rattle.std.specs.List.{sum_by, AllByRecursion}
use Rattle.h5w_model.specs.Arrays.{numbers_in, super_block_of}
use Rattle.h5w_cache.specs.Blocks.{BlockView, numbered}
use Rattle.h5w_cache.specs.Plans.{bytes_of, bytes_in}
use Rattle.h5w_cache.specs.Stores.{Store, block_of, is_changed, is_listed, times, changed_to}
use Rattle.h5w_cache.proofs.PlannedLemmas.{times-same, times-other}
use Rattle.h5w_laws.proofs.ApartLemmas.{all_as}
use Rattle.h5w_array_laws.specs.Parts.{Part, data_of, secondary_of, header, IsPart, number_of, slot_count, slots_from, holder, slot_offset, visit_order}
use Rattle.h5w_array_laws.specs.ArrayStores.{IsArray, IsBlock, Names, block_at_part, address_in, slots_in, chunks_in, total, one_secondary, one_data, secondary_bytes, data_bytes}
use Rattle.h5w_ea_index.specs.Steps.{IsHeld}
use Rattle.h5w_ea_index.specs.Counts.{IsCounted, with_at}
use Rattle.h5w_ea_index.specs.Reach.{six}
use Rattle.h5w_ea_index.proofs.ByteLemmas.{length-with_number, take-with_number, numbers_in-with_other, numbers_in-with_number}
use Rattle.h5w_ea_index.proofs.PartLemmas.{number_decides, held_at}
use Rattle.h5w_ea_index.proofs.StoreLemmas.{none-listed, set-same, set-other, set-cases}
use Rattle.h5w_ea_index.proofs.ArrayLemmas.{Suits, changed_array, headed_changed, part_inside}
use Rattle.h5w_ea_index.proofs.TouchLemmas.{touch_changed, touch_onward}
use Rattle.h5w_ea_index.proofs.OrderLemmas.{visited_parts}
use Rattle.h5w_ea_index.proofs.StepLemmas.{IsLater, held_from, held_onward, map-from, behind_same}

-- ---- The header

-- the header as it is kept
pub record IsHeader (v : Store) (b : BlockView) : Type 0 where
  pub array : IsArray v
  pub is : block_at_part v header ≡ Some b
  pub changed : is_changed v 846 ≡ true

header_block : (v : Store) (b : BlockView) → IsHeader v b → IsBlock header b
header_block v b h = subst (λ o. IfSome o (IsBlock header)) h.is (h.array.each header tt)

header_suits : (v : Store) (b : BlockView) (i x : ℕ) → IsHeader v b → i < 6 → Suits v header (numbered (12 + 8 * i) x b)
header_suits v b i x h lt =
    let s = header_block v b h in
    let len = s.len in
    let inside : 12 + 8 * i + 8 ≤ length b.bytes = omega arith in
    record {
      block = record {
        len = length-with_number (12 + 8 * i) x b.bytes inside ∙ s.len;
        links = s.links;
        turn = s.turn;
        in_place = s.in_place;
        sealed = s.sealed;
        signed = take-with_number (12 + 8 * i) x b.bytes 12 inside (omega arith) ∙ s.signed;
      };
      names = numbers_in-with_other (12 + 8 * i) x b.bytes 1 60 inside (inr (omega arith)) ∙ subst (λ o. IfSome o (Names v header)) h.is (h.array.names header tt);
    }

abbrev pub with_six : Store → ℕ → ℕ → BlockView → Store
with_six v i x b = changed_to 846 (numbered (12 + 8 * i) x b) v

header_inside : (v : Store) → IsArray v → 846 < length v.blocks
header_inside v a = part_inside v header tt a

header_later : (v : Store) (b : BlockView) (i x : ℕ) → IsHeader v b → i < 6 → IsLater v (with_six v i x b)
header_later v b i x h lt =
    let c : BlockView = numbered (12 + 8 * i) x b in
    let inside = header_inside v h.array in
    let len = (header_block v b h).len in
    let kept : IsSome (block_of v 846) = h.array.kept 846 h.changed in
    record {
      places = λ k. refl;
      marks = λ k m. m;
      kept = λ k p. elim (cases_eq 846 k) [ inl e ↦ subst (λ y. IsSome (block_of v y)) e kept | inr ne ↦ subst IsSome (set-other v.blocks 846 k c ne) p.kept ];
      lengths = λ k p. set-cases (λ o. length (bytes_of o) ≡ length (bytes_in v.blocks k)) v.blocks 846 k c inside
          (λ e. length-with_number (12 + 8 * i) x b.bytes (omega arith) ∙ sym (ap (λ o. length (bytes_of o)) (subst (λ y. block_of v y ≡ Some b) e h.is))) (λ ne. refl);
      clean = λ k p t. set-cases (λ o. o ≡ block_of v k) v.blocks 846 k c inside
          (λ e. absurd (let l : is_listed k v.changed ≡ true = subst (λ y. is_listed y v.changed ≡ true) e h.changed in let z = none-listed k v.changed t in cc)) (λ ne. refl);
    }

no_slots : (bytes : ℕ) (o : Option BlockView) (k : Part) → slot_count k ≡ 0 → chunks_in bytes (slots_in o k) ≡ []
unfolding numbers_in
no_slots bytes None k e = refl
no_slots bytes (Some b) k e = ap (λ n. chunks_in bytes (numbers_in b.bytes n (slots_from k))) e

pub holder_other : (i : ℕ) → i < 131060 → 846 ≢ number_of (holder i)
holder_other i lt e =
    let h = held_at i lt in
    let same : header ≡ holder i = number_decides header (holder i) tt h.part e in
    let none : slot_count (holder i) ≡ 0 = ap slot_count (sym same) in
    let some = h.inside in
    absurd (omega arith)

header_held : (v : Store) (b : BlockView) (i x : ℕ) → IsHeader v b → i < 6 → IsHeld v (with_six v i x b)
header_held v b i x h lt =
    let c : BlockView = numbered (12 + 8 * i) x b in
    let inside = header_inside v h.array in
    let len = (header_block v b h).len in
    held_from v (with_six v i x b) (header_later v b i x h lt)
    (map-from v (with_six v i x b) (λ j l. ap (λ o. address_in o (slot_offset j)) (set-other v.blocks 846 (number_of (holder j)) c (holder_other j l))))
    (λ bytes. behind_same bytes v (with_six v i x b) (λ k p. refl)
    (λ k p. set-cases (λ o. chunks_in bytes (slots_in o k) ≡ chunks_in bytes (slots_in (block_at_part v k) k)) v.blocks 846 (number_of k) c inside
    (λ e. let same : header ≡ k = number_decides header k tt p e in
    no_slots bytes (Some c) k (ap slot_count (sym same)) ∙ sym (no_slots bytes (block_at_part v k) k (ap slot_count (sym same))))
    (λ ne. refl)))
    (headed_changed v header b c tt h.array h.is (λ e. take-with_number (12 + 8 * i) x b.bytes 12 (omega arith) (omega arith) ∙ e))

-- one of the six is written
pub six_written : (v : Store) (b : BlockView) (i x : ℕ) → IsHeader v b → i < 6 → x < 2 ^ 64 → IsCounted (with_at i x (six v)) v (with_six v i x b)
six_written v b i x h lt fits =
    let c : BlockView = numbered (12 + 8 * i) x b in
    let inside = header_inside v h.array in
    let len = (header_block v b h).len in
    record {
      array = changed_array v header c tt h.array h.changed (header_suits v b i x h lt);
      held = header_held v b i x h lt;
      six = ap (λ o. numbers_in (bytes_of o) 6 12) (set-same v.blocks 846 c inside) ∙ numbers_in-with_number x b.bytes 6 12 i lt (omega arith) fits ∙ ap (λ o. set (numbers_in (bytes_of o) 6 12) i x) (sym h.is);
      kept = λ n. set-cases (λ o. is_some o ≡ is_some (block_of v n)) v.blocks 846 n c inside (λ e. ap is_some (sym (subst (λ y. block_of v y ≡ Some b) e h.is))) (λ ne. refl);
      others = touch_changed v 846 c;
    }

pub counted_onward : (ms ns : List ℕ) (u v w : Store) → IsCounted ms u v → IsCounted ns v w → IsCounted ns u w
counted_onward ms ns u v w a b = record { array = b.array; held = held_onward u v w a.held b.held; six = b.six; kept = λ n. b.kept n ∙ a.kept n; others = touch_onward (λ n. n ≡ number_of header) u v w a.others b.others }

-- ---- Blocks are counted

-- each is visited
abbrev pub all_to : ℕ → (ℕ → Bool) → Bool
all_to zero p = true
all_to (suc n) p = cond (p n) (all_to n p) false

all_below : (n : ℕ) (p : ℕ → Bool) (k : ℕ) → all_to n p ≡ true → k < n → p k ≡ true
all_below zero p k h lt = absurd (omega arith)
all_below (suc n) p k h lt =
    elim (cases_Bool (p n)) [
      | inl this ↦
          elim (cases_eq k n) [
            | inl e ↦ subst (λ y. p y ≡ true) (sym e) this
            | inr ne ↦ all_below n p k (sym (ap (λ t. cond t (all_to n p) false) this) ∙ h) (omega arith)
          ]
      | inr other ↦ let t : cond (p n) (all_to n p) false ≡ false = ap (λ t. cond t (all_to n p) false) other in absurd (cc)
    ]

abbrev pub is_once : ℕ → Bool
is_once n = times n (map number_of visit_order) == 1

once-is : (n : ℕ) → is_once n ≡ true → times n (map number_of visit_order) ≡ 1
once-is n h = grind (arith, nat_tests)

-- the data blocks of each super block, and each secondary block, are in the order once
abbrev pub family_once : ℕ → Bool
family_once s = all_to (super_block_of s).blocks (λ b. is_once (65 * s + b))

families_once : all_to 13 family_once ≡ true
unfolding visit_order
families_once = refl

seconds_once : all_to 9 (λ j. is_once (65 * (j + 4) + 64)) ≡ true
unfolding visit_order
seconds_once = refl

pub data_once : (s b : ℕ) → IsPart (data_of s b) → times (number_of (data_of s b)) (map number_of visit_order) ≡ 1
data_once s b p = let le = p.0 in once-is (65 * s + b) (all_below (super_block_of s).blocks (λ b. is_once (65 * s + b)) b (all_below 13 family_once s families_once (omega arith)) p.1)

pub secondary_once : (s : ℕ) → IsPart (secondary_of s) → times (number_of (secondary_of s)) (map number_of visit_order) ≡ 1
secondary_once s p =
    let low = p.0 in
    let high = p.1 in
    let e : s - 4 + 4 ≡ s = omega arith in
    once-is (65 * s + 64) (subst (λ k. is_once (65 * k + 64) ≡ true) e (all_below 9 (λ j. is_once (65 * (j + 4) + 64)) (s - 4) seconds_once (omega arith)))

one_more : (n x : ℕ) → (1 + n) * x ≡ x + n * x
one_more n x = add-mul 1 n x ∙ (let z : 1 * x + n * x ≡ x + n * x = omega arith in z)

sum_same : (f g : Part → ℕ) (ks : List Part) → ((k : Part) → f k ≡ g k) → sum_by f ks ≡ sum_by g ks
sum_same f g [] h = refl
sum_same f g (k ∷ ks) h = sum_by-cons f k ks ∙ (λ i. h k i + sum_same f g ks h i) ∙ sym (sum_by-cons g k ks)

cond_le : (b : Bool) (n : ℕ) → cond b n 0 ≤ n
cond_le true n = omega arith
cond_le false n = omega arith

-- a block that is added counts once
sum_once : (f g : Part → ℕ) (n x : ℕ) (ks : List Part) → AllByRecursion (λ k. (number_of k ≡ n → f k ≡ g k + x) × (number_of k ≢ n → f k ≡ g k)) ks → sum_by f ks ≡ sum_by g ks + times n (map number_of ks) * x
sum_once f g n x [] h = omega arith
sum_once f g n x (k ∷ ks) h =
    let rest = sum_once f g n x ks h.1 in
    let a = sum_by-cons f k ks in
    let b = sum_by-cons g k ks in
    elim (cases_eq (number_of k) n) [
      | inl e ↦
          let t = times-same n (number_of k) (map number_of ks) e in
          let here = h.0.0 e in
          let m : times n (map number_of (k ∷ ks)) * x ≡ x + times n (map number_of ks) * x = ap (λ c. c * x) t ∙ one_more (times n (map number_of ks)) x in
          omega arith
      | inr ne ↦
          let t = times-other n (number_of k) (map number_of ks) ne in
          let here = h.0.1 ne in
          let m : times n (map number_of (k ∷ ks)) * x ≡ times n (map number_of ks) * x = ap (λ c. c * x) t in
          omega arith
    ]

-- one block more is kept
pub record IsMore (v w : Store) (k : Part) : Type 0 where
  pub none : is_some (block_at_part v k) ≡ false
  pub some : is_some (block_at_part w k) ≡ true
  pub others : (n : ℕ) → n ≢ number_of k → is_some (block_of w n) ≡ is_some (block_of v n)

abbrev pub weight_in : (Part → ℕ) → Store → Part → ℕ
weight_in weight v k = cond (is_some (block_at_part v k)) (weight k) 0

counts_more : (weight : Part → ℕ) (v w : Store) (k m : Part) → IsPart k → IsMore v w k → IsPart m
    → (number_of m ≡ number_of k → weight_in weight w m ≡ weight_in weight v m + weight k) × (number_of m ≢ number_of k → weight_in weight w m ≡ weight_in weight v m)
counts_more weight v w k m p h q = (
  λ e.
      let same : k ≡ m = number_decides k m p q (sym e) in
      subst (λ (x : Part). weight_in weight w x ≡ weight_in weight v x + weight k) same
      (ap (λ t. cond t (weight k) 0) h.some ∙ (let z : weight k ≡ 0 + weight k = omega arith in z) ∙ sym (ap (λ t. cond t (weight k) 0 + weight k) h.none)),
  λ ne. ap (λ t. cond t (weight m) 0) (h.others (number_of m) ne),
)

pub total_more : (weight : Part → ℕ) (v w : Store) (k : Part) → IsPart k → times (number_of k) (map number_of visit_order) ≡ 1 → IsMore v w k → total weight w ≡ total weight v + weight k
total_more weight v w k p once h =
    let s = sum_once (weight_in weight w) (weight_in weight v) (number_of k) (weight k) visit_order
    (all_as IsPart (λ m. (number_of m ≡ number_of k → weight_in weight w m ≡ weight_in weight v m + weight k) × (number_of m ≢ number_of k → weight_in weight w m ≡ weight_in weight v m)) visit_order (λ m q. counts_more weight v w k m p h q) visited_parts) in
    let o : times (number_of k) (map number_of visit_order) * weight k ≡ weight k = ap (λ c. c * weight k) once ∙ (let z : 1 * weight k ≡ weight k = omega arith in z) in
    omega arith

pub total_same : (weight : Part → ℕ) (v w : Store) → ((n : ℕ) → is_some (block_of w n) ≡ is_some (block_of v n)) → total weight w ≡ total weight v
total_same weight v w h = sum_same (weight_in weight w) (weight_in weight v) visit_order (λ k. ap (λ t. cond t (weight k) 0) (h (number_of k)))

-- ---- There is room above the numbers

total_most : (weight : Part → ℕ) (v : Store) → total weight v ≤ sum_by weight visit_order
total_most weight v = sum_by-le-sum_by (weight_in weight v) weight visit_order (λ k. cond_le (is_some (block_at_part v k)) (weight k))

pub secondaries_few : nat_lt (sum_by one_secondary visit_order) (2 ^ 40) ≡ true
unfolding visit_order
secondaries_few = refl

pub secondary_bytes_few : nat_lt (sum_by secondary_bytes visit_order) (2 ^ 40) ≡ true
unfolding visit_order
secondary_bytes_few = refl

pub data_few : nat_lt (sum_by one_data visit_order) (2 ^ 40) ≡ true
unfolding visit_order
data_few = refl

pub data_bytes_few : nat_lt (sum_by data_bytes visit_order) (2 ^ 40) ≡ true
unfolding visit_order
data_bytes_few = refl

pub slots_few : nat_lt (sum_by slot_count visit_order) (2 ^ 40) ≡ true
unfolding visit_order
slots_few = refl

pub below_that : (weight : Part → ℕ) (v : Store) → nat_lt (sum_by weight visit_order) (2 ^ 40) ≡ true → total weight v < 2 ^ 40
below_that weight v h =
    let most = total_most weight v in
    let few : sum_by weight visit_order < 2 ^ 40 = grind (arith, nat_tests) in
    omega arith
