-- A block of an array after the places of the blocks that it names were written in it, and its sum.
use Rattle.std.proofs.Common.{◌≡◌, ℕ, zero, suc, ◌+◌, ◌*◌, ◌^◌, ◌<◌, ◌≤◌, true, cond, List, [], ◌∷◌, ◌++◌, length, refl, sym, ap, ◌∙◌, inl, inr, arith, length-append}
use Rattle.std.specs.Prelude.{map}
use Rattle.std.specs.List.{AllByRecursion, range_with_len}
use Rattle.std.proofs.lemmas.Bool.{cases_eq, le-ltb}
use Rattle.std.proofs.lemmas.List.Elements.{All-nil, All-cons}
use Rattle.h5w_model.specs.Numbers.{num, le, range, field, undefined}
use Rattle.h5w_model.specs.Checksum.{is_sealed}
use Rattle.h5w_model.specs.Images.{Apart}
use Rattle.h5w_model.specs.Arrays.{numbers_in}
use Rattle.h5w_model.proofs.NumberLemmas.{length-le}
use Rattle.h5w_cache.specs.Blocks.{BlockView, AreInside, linked, patched, sealed_front, spelled}
use Rattle.h5w_cache.specs.declared.block.Link.{Link}
use Rattle.h5w_array_laws.specs.Parts.{Part, data_of, secondary_of, index_block, header, IsPart, number_of, length_of, children, names_from, links_from, parent, head_of, sign_of, offset_of, first_parts, second_parts}
use Rattle.h5w_array_laws.specs.ArrayStores.{HasHead, IsBlock}
use Rattle.h5w_array_laws.proofs.NumberLemmas.{numbers_in-same, field-with_number, length-sealed_front, is_sealed-sealed_front, range-sealed_front}
use Rattle.h5w_array_laws.proofs.LinkLemmas.{AreBeside, inside, linked-none, linked-some, length-linked, range-linked, length-patched, range-patched}
use Rattle.h5w_array_laws.proofs.ReadLemmas.{all_data}
use Rattle.h5w_array_laws.proofs.FoundLemmas.{count_blocks}

-- ---- Links one after another

pub links_inside : (place : ℕ) (ks : List Part) (n : ℕ) → place + 8 * length ks ≤ n → AreInside (links_from place ks) n
links_inside place [] n h = All-nil (inside n)
links_inside place (k ∷ ks) n h = All-cons (inside n) (record { offset = place; child = number_of k }) (links_from (place + 8) ks) (omega arith) (links_inside (place + 8) ks n (omega arith))

pub links_behind : (place : ℕ) (ks : List Part) (at n : ℕ) → at + n ≤ place → AreBeside (links_from place ks) at n
links_behind place [] at n h = All-nil (λ (m : Link). Apart m.offset 8 at n)
links_behind place (k ∷ ks) at n h = All-cons (λ (m : Link). Apart m.offset 8 at n) (record { offset = place; child = number_of k }) (links_from (place + 8) ks) (inr h) (links_behind (place + 8) ks at n (omega arith))

pub links_before : (place : ℕ) (ks : List Part) (at n : ℕ) → place + 8 * length ks ≤ at → AreBeside (links_from place ks) at n
links_before place [] at n h = All-nil (λ (m : Link). Apart m.offset 8 at n)
links_before place (k ∷ ks) at n h = All-cons (λ (m : Link). Apart m.offset 8 at n) (record { offset = place; child = number_of k }) (links_from (place + 8) ks) (inl (omega arith)) (links_before (place + 8) ks at n (omega arith))

-- what is asked of the block under a number: its place fits eight bytes, and where it has none none was named
pub record MayName (P : ℕ → ℕ) (old : Part → ℕ) (k : Part) : Type 0 where
  pub fits : P (number_of k) < 2 ^ 64
  pub none : P (number_of k) ≡ undefined → old k ≡ undefined

pub linked_number : (P : ℕ → ℕ) (old : Part → ℕ) (k : Part) (place : ℕ) (b : List ℕ) → place + 8 ≤ length b → MayName P old k → field b place 8 ≡ old k
    → field (linked P (record { offset = place; child = number_of k }) b) place 8 ≡ P (number_of k)
linked_number P old k place b h may was =
    let l : Link = record { offset = place; child = number_of k } in
    elim (cases_eq (P (number_of k)) undefined) as (λ _. field (linked P (record { offset = place; child = number_of k }) b) place 8 ≡ P (number_of k)) [
      | inl e ↦ ap (λ x. field x place 8) (linked-none P l b e) ∙ was ∙ may.none e ∙ sym e
      | inr n ↦ ap (λ x. field x place 8) (linked-some P l b n) ∙ field-with_number place (P (number_of k)) b h may.fits
    ]

pub patched_numbers : (P : ℕ → ℕ) (old : Part → ℕ) (ks : List Part) (place : ℕ) (b : List ℕ) → place + 8 * length ks ≤ length b → AllByRecursion (MayName P old) ks
    → numbers_in b (length ks) place ≡ map old ks → numbers_in (patched P (links_from place ks) b) (length ks) place ≡ map (λ k. P (number_of k)) ks
unfolding numbers_in
patched_numbers P old [] place b h may was = refl
patched_numbers P old (k ∷ ks) place b h may was =
    let l : Link = record { offset = place; child = number_of k } in
    let ls : List Link = links_from (place + 8) ks in
    let c : List ℕ = linked P l b in
    let own : place + 8 ≤ length b = omega arith in
    let same : length c ≡ length b = length-linked P l b own in
    let first_was : field b place 8 ≡ old k = cc in
    let rest_was : numbers_in b (length ks) (place + 8) ≡ map old ks = cc in
    let first : field (patched P ls c) place 8 ≡ P (number_of k) =
    ap num (range-patched P ls c place 8 (links_inside (place + 8) ks (length c) (omega (arith, same, h))) (links_behind (place + 8) ks place 8 (omega arith)) (omega (arith, same, own)))
    ∙ linked_number P old k place b own may.0 first_was in
    let kept : numbers_in c (length ks) (place + 8) ≡ map old ks =
    numbers_in-same b c (length ks) (place + 8) (place + 8) (λ i lt. ap num (range-linked P l b ((place + 8) + 8 * i) 8 own (inl (omega arith)) (omega arith))) ∙ rest_was in
    let rest : numbers_in (patched P ls c) (length ks) (place + 8) ≡ map (λ k. P (number_of k)) ks = patched_numbers P old ks (place + 8) c (omega (arith, same, h)) may.1 kept in
    λ i. first i ∷ rest i

-- ---- Where things stand in a block

pub names_inside : (k : Part) → names_from k + 8 * length (children k) + 4 ≤ length_of k
names_inside (data_of s b) = omega arith
names_inside (secondary_of s) = omega (arith, count_blocks s)
names_inside index_block = omega arith
names_inside header = omega arith

pub head_before : (at : ℕ) (k : Part) → length (head_of at k) ≤ names_from k
head_before at (data_of s b) = omega (arith, length-append (le 8 at) (le 4 (offset_of (data_of s b))), length-le 8 at, length-le 4 (offset_of (data_of s b)))
head_before at (secondary_of s) = omega (arith, length-append (le 8 at) (le 4 (offset_of (secondary_of s))), length-le 8 at, length-le 4 (offset_of (secondary_of s)))
head_before at index_block = omega (arith, length-le 8 at)
head_before at header = omega arith

pub sign_before : (k : Part) → length (sign_of k) ≤ names_from k
sign_before (data_of s b) = omega arith
sign_before (secondary_of s) = omega arith
sign_before index_block = omega arith
sign_before header = omega arith

-- ---- A block that is spelled

module _ (P : ℕ → ℕ) (k : Part) (b : BlockView) (is : IsBlock k b) where
  pub patched_as : patched P b.links b.bytes ≡ patched P (links_from (names_from k) (children k)) b.bytes
  patched_as = ap (λ ls. patched P ls b.bytes) is.links

  pub patched_length : length (patched P b.links b.bytes) ≡ length_of k
  patched_length =
      ap length patched_as
      ∙ length-patched P (links_from (names_from k) (children k)) b.bytes (links_inside (names_from k) (children k) (length b.bytes) (omega (arith, is.len, names_inside k)))
      ∙ is.len

  pub spelled_as : (spelled P b).bytes ≡ sealed_front (length_of k) (patched P b.links b.bytes)
  spelled_as = ap (λ n. sealed_front n (patched P b.links b.bytes)) is.sealed

  pub spelled_length : length (spelled P b).bytes ≡ length_of k
  spelled_length = ap length spelled_as ∙ length-sealed_front (length_of k) (patched P b.links b.bytes) patched_length (omega (arith, names_inside k))

  pub spelled_sealed : is_sealed (spelled P b).bytes ≡ true
  spelled_sealed = ap is_sealed spelled_as ∙ is_sealed-sealed_front (length_of k) (patched P b.links b.bytes) patched_length

  -- bytes beside the links
  pub spelled_range : (from n : ℕ) → AreBeside (links_from (names_from k) (children k)) from n → from + n + 4 ≤ length_of k → range (spelled P b).bytes from n ≡ range b.bytes from n
  spelled_range from n beside low =
      ap (λ x. range x from n) spelled_as
      ∙ range-sealed_front (length_of k) (patched P b.links b.bytes) from n patched_length low
      ∙ ap (λ x. range x from n) patched_as
      ∙ range-patched P (links_from (names_from k) (children k)) b.bytes from n
      (links_inside (names_from k) (children k) (length b.bytes) (omega (arith, is.len, names_inside k))) beside (omega (arith, is.len, low))

  pub spelled_front : (from n : ℕ) → from + n ≤ names_from k → range (spelled P b).bytes from n ≡ range b.bytes from n
  spelled_front from n h = spelled_range from n (links_behind (names_from k) (children k) from n h) (omega (arith, h, names_inside k))

  pub spelled_back : (from n : ℕ) → names_from k + 8 * length (children k) ≤ from → from + n + 4 ≤ length_of k → range (spelled P b).bytes from n ≡ range b.bytes from n
  spelled_back from n h low = spelled_range from n (links_before (names_from k) (children k) from n h) low

  pub spelled_block : IsBlock k (spelled P b)
  spelled_block = record {
    len = spelled_length;
    links = is.links;
    turn = is.turn;
    in_place = is.in_place;
    sealed = is.sealed;
    signed = spelled_front 0 (length (sign_of k)) (omega (arith, sign_before k)) ∙ is.signed;
  }

  pub spelled_head : (at : ℕ) → HasHead at k b → HasHead at k (spelled P b)
  spelled_head at h = spelled_front 0 (length (head_of at k)) (omega (arith, head_before at k)) ∙ h

  pub spelled_numbers_back : (n place : ℕ) → names_from k + 8 * length (children k) ≤ place → place + 8 * n + 4 ≤ length_of k → numbers_in (spelled P b).bytes n place ≡ numbers_in b.bytes n place
  spelled_numbers_back n place h low = numbers_in-same b.bytes (spelled P b).bytes n place place (λ i lt. ap num (spelled_back (place + 8 * i) 8 (omega (arith, h)) (omega (arith, low, lt))))

  -- the links themselves
  pub spelled_names : (old : Part → ℕ) → AllByRecursion (MayName P old) (children k) → numbers_in b.bytes (length (children k)) (names_from k) ≡ map old (children k)
      → numbers_in (spelled P b).bytes (length (children k)) (names_from k) ≡ map (λ c. P (number_of c)) (children k)
  spelled_names old may was =
      let x : List ℕ = patched P b.links b.bytes in
      numbers_in-same x (spelled P b).bytes (length (children k)) (names_from k) (names_from k) (λ i lt.
      ap (λ y. field y (names_from k + 8 * i) 8) spelled_as
      ∙ ap num (range-sealed_front (length_of k) x (names_from k + 8 * i) 8 patched_length (omega (arith, names_inside k, lt))))
      ∙ ap (λ y. numbers_in y (length (children k)) (names_from k)) patched_as
      ∙ patched_numbers P old (children k) (names_from k) b.bytes (omega (arith, is.len, names_inside k)) may was

-- ---- Which block names which

pub all_joined : {X : Type 0} (Q : X → Type 0) (xs ys : List X) → AllByRecursion Q xs → AllByRecursion Q ys → AllByRecursion Q (xs ++ ys)
all_joined Q [] ys h g = g
all_joined Q (x ∷ xs) ys h g = (h.0, all_joined Q xs ys h.1 g)

abbrev pub IsChild : Part → Part → Type 0
IsChild k c = IsPart c × (parent c ≡ k)

pub secondary_children : (from n : ℕ) → 4 ≤ from → from + n ≡ 13 → AllByRecursion (IsChild index_block) (map secondary_of (range_with_len from n))
secondary_children from zero low e = tt
secondary_children from (suc n) low e = (((low, omega arith), refl), secondary_children (from + 1) n (omega arith) (omega arith))

pub children_known : (k : Part) → IsPart k → AllByRecursion (IsChild k) (children k)
children_known (data_of s b) h = tt
children_known (secondary_of s) h = all_data (IsChild (secondary_of s)) s (λ b inside. ((h.1, inside), ap (λ c. cond c index_block (secondary_of s)) (le-ltb s 4 h.0)))
children_known index_block h =
    all_joined (IsChild index_block) first_parts second_parts (
      ((omega arith, omega arith), refl),
      (
        ((omega arith, omega arith), refl),
        (((omega arith, omega arith), refl), (((omega arith, omega arith), refl), (((omega arith, omega arith), refl), (((omega arith, omega arith), refl), tt)))),
      ),
    ) (secondary_children 4 9 (omega arith) (omega arith))
children_known header h = ((tt, refl), tt)
