-- No block of an array is refused where a check of the index finds nothing.
use Rattle.std.proofs.Common.{◌≡◌, ◌≢◌, ℕ, ◌+◌, ◌-◌, ◌*◌, ◌<◌, ◌≤◌, false, cond, List, [], ◌∷◌, ◌++◌, length, get_or, Ok, Err, refl, sym, ap, ◌∙◌, subst, inl, inr, arith, ne_eqb}
use Rattle.std.specs.Prelude.{Some, None, ◌==◌, codes, nat_lt, if◌then◌else◌}
use Rattle.std.proofs.lemmas.Bool.{cases_eq, cases_lt, cond-false, cond_both, ltb-false, lt-ltb, le-ltb}
use Rattle.h5w_model.specs.Numbers.{field, range, undefined}
use Rattle.h5w_model.specs.Blocks.{block_tests}
use Rattle.h5w_model.specs.Programs.{ret, whole, eval, and_then}
use Rattle.h5w_model.specs.Arrays.{EahdFields, EaibFields, SlotsFields, array_tests, blocks_before, eadb_at, eahd_at, eahd_fields, eahd_len, eaib_at, eaib_fields, eaib_len, easb_at, numbers_in, parameter_tests, slots_fields, slots_len, super_block_of}
use Rattle.h5w_model.specs.Datasets.{Described}
use Rattle.h5w_model.specs.Tables.{super_block_of_first}
use Rattle.h5w_model.specs.Findings.{Visited, array_visit, block_in, both, chunk_bytes, chunk_ranges, data_block_visit, first_visits, found, index_block_visit, index_visit, second_visits, secondary_block_visit, tree_visit, visit_each}
use Rattle.h5w_model.specs.declared.cell.IndexKind.{IndexKind}
use Rattle.h5w_model.specs.declared.cell.IndexKind.TheVariants.{Array, Tree}
use Rattle.h5w_model.specs.declared.refusal.BlockFault.{BlockFault}
use Rattle.h5w_model.proofs.ArrayLemmas.{length-numbers_in}
use Rattle.h5w_model.proofs.CheckedLemmas.{checked-passed}
use Rattle.h5w_laws.proofs.ReachLemmas.{both_ok, each_ok, first_ok, second_ok}
use Rattle.h5w_laws.proofs.ResultLemmas.{HasAnswer, and_then_ok, choice_ok}
use Rattle.h5w_array_laws.specs.Parts.{Part, data_of, secondary_of, index_block, header, IsPart, length_of}
use Rattle.h5w_array_laws.proofs.GeometryLemmas.{first_number}
use Rattle.h5w_array_laws.proofs.NumberLemmas.{numbers_in-get}
use Rattle.h5w_ea_index.specs.Opened.{IsDamaged, Refuses, address_on, index_on, named_on, refusal, refused_on, secondary_on}

-- a block that was visited ends by the end
pub block_there : (img : List ℕ) (end place n : ℕ) (visit : List ℕ → Visited) → HasAnswer (eval img (block_in end place n visit)) → (place + n ≤ end) × HasAnswer (eval img (visit (range img place n)))
block_there img end place n visit (us, h) =
    cond_both (nat_lt end (place + n)) (ret (Err (found 18 place)))
    (whole place n (λ b. and_then (visit b) (λ us. ret (Ok (record { place = place; len = n; chunk = false } ∷ us)))))
    (λ (q : Visited). eval img q ≡ Ok us → (place + n ≤ end) × HasAnswer (eval img (visit (range img place n))))
    (λ t e. cc)
    (λ t e.
    let a = and_then_ok img (visit (range img place n)) (λ us. ret (Ok (record { place = place; len = n; chunk = false } ∷ us))) us e in
    (ltb-false end (place + n) t, (a.0, a.1)))
    h

-- where a place is one
placed : (img : List ℕ) (place : ℕ) (p : Visited) → place ≢ undefined → HasAnswer (eval img (cond (place == undefined) (ret (Ok [])) p)) → HasAnswer (eval img p)
placed img place p ne (us, h) = (us, ap (eval img) (sym (cond-false (place == undefined) (ret (Ok [])) p (ne_eqb place undefined ne))) ∙ h)

-- a block is not refused there, and ends by the end
pub record IsSoundAt (img : List ℕ) (end : ℕ) (k : Part) (place : ℕ) : Type 0 where
  pub sound : refused_on img k place ≡ None
  pub ends : place + length_of k ≤ end

data_there : (img : List ℕ) (end bytes s b place : ℕ) → HasAnswer (eval img (data_block_visit end bytes (super_block_of s).slots place)) → place ≢ undefined → IsSoundAt img end (data_of s b) place
data_there img end bytes s b place h ne =
    let n : ℕ = (super_block_of s).slots in
    let visit : List ℕ → Visited = λ b. elim (eadb_at b place n) as (λ _. Visited) [ Ok d ↦ ret (chunk_ranges end bytes d.slots) | Err f ↦ ret (Err (found 13 place)) ] in
    let there = block_there img end place (slots_len n) visit (placed img place (block_in end place (slots_len n) visit) ne h) in
    let decoded = choice_ok img (eadb_at (range img place (slots_len n)) place n) (λ d. ret (chunk_ranges end bytes d.slots)) (λ f. found 13 place) there.1.0 there.1.1 in
    record { sound = ap refusal decoded.1; ends = there.0 }

-- a secondary block, and what it names
record SecondThere (img : List ℕ) (end bytes s place : ℕ) : Type 0 where
  at : IsSoundAt img end (secondary_of s) place
  each : (n : ℕ) → n < (super_block_of s).blocks → HasAnswer (eval img (data_block_visit end bytes (super_block_of s).slots (field (range img place (slots_len (super_block_of s).blocks)) (18 + 8 * n) 8)))

second_there : (img : List ℕ) (end bytes s place : ℕ) → HasAnswer (eval img (secondary_block_visit end bytes s place)) → place ≢ undefined → SecondThere img end bytes s place
second_there img end bytes s place h ne =
    let n : ℕ = (super_block_of s).blocks in
    let m : ℕ = (super_block_of s).slots in
    let b : List ℕ = range img place (slots_len n) in
    let visit : List ℕ → Visited = λ b. elim (easb_at b place n) as (λ _. Visited) [ Ok s ↦ visit_each (data_block_visit end bytes m) s.slots | Err f ↦ ret (Err (found 12 place)) ] in
    let there = block_there img end place (slots_len n) visit (placed img place (block_in end place (slots_len n) visit) ne h) in
    let decoded = choice_ok img (easb_at b place n) (λ s. visit_each (data_block_visit end bytes m) s.slots) (λ f. found 12 place) there.1.0 there.1.1 in
    let fields : slots_fields b n ≡ decoded.0 = (checked-passed (block_tests (codes "EASB") (slots_len n) b ++ array_tests b place) (slots_fields b n) decoded.0 decoded.1).1 in
    let slots : numbers_in b n 18 ≡ decoded.0.slots = ap (λ (f : SlotsFields). f.slots) fields in
    record {
      at = record { sound = ap refusal decoded.1; ends = there.0 };
      each = λ k lt.
          let len : length decoded.0.slots ≡ n = sym (ap length slots) ∙ length-numbers_in b n 18 in
          let one = each_ok img (data_block_visit end bytes m) decoded.0.slots there.1.0 k decoded.2 (omega arith) in
          subst (λ q. HasAnswer (eval img (data_block_visit end bytes m q))) (ap (λ l. get_or l k undefined) (sym slots) ∙ numbers_in-get b n 18 k undefined lt) one;
    }

-- ---- The array at a place

module _ (img : List ℕ) (end bytes top : ℕ) (h : HasAnswer (eval img (array_visit end bytes top))) where
  abbrev head_visit : List ℕ → Visited
  head_visit b = elim (eahd_at b top) as (λ _. Visited) [ Ok h ↦ (if h.block == undefined then ret (Ok []) else index_block_visit end bytes h.block) | Err f ↦ ret (Err (found 10 top)) ]

  head_there : (top + eahd_len ≤ end) × HasAnswer (eval img (head_visit (range img top eahd_len)))
  head_there = block_there img end top eahd_len head_visit h

  record HeadRead : Type 0 where
    fields : EahdFields
    read : eahd_at (range img top eahd_len) top ≡ Ok fields
    rest : HasAnswer (eval img (cond (fields.block == undefined) (ret (Ok [])) (index_block_visit end bytes fields.block)))

  head_read : HeadRead
  head_read =
      let d = choice_ok img (eahd_at (range img top eahd_len) top) (λ h. if h.block == undefined then ret (Ok []) else index_block_visit end bytes h.block) (λ f. found 10 top) head_there.1.0 head_there.1.1 in
      record { fields = d.0; read = d.1; rest = (head_there.1.0, d.2) }

  head_sound : IsSoundAt img end header top
  head_sound = record { sound = ap refusal head_read.read; ends = head_there.0 }

  head_names : index_on img top ≡ head_read.fields.block
  head_names = ap (λ (f : EahdFields). f.block) (checked-passed (block_tests (codes "EAHD") eahd_len (range img top eahd_len) ++ parameter_tests (range img top eahd_len) top) (eahd_fields (range img top eahd_len)) head_read.fields head_read.read).1

  abbrev index_at : ℕ
  index_at = index_on img top

  abbrev index_bytes : List ℕ
  index_bytes = range img index_at eaib_len

  -- the index block, where it is named
  record IndexRead : Type 0 where
    at : IsSoundAt img end index_block index_at
    first : HasAnswer (eval img (first_visits end bytes 0 (numbers_in index_bytes 6 46)))
    second : HasAnswer (eval img (second_visits end bytes 4 (numbers_in index_bytes 25 94)))

  index_read : index_at ≢ undefined → IndexRead
  index_read ne =
      let rest : HasAnswer (eval img (cond (index_at == undefined) (ret (Ok [])) (index_block_visit end bytes index_at))) =
      subst (λ q. HasAnswer (eval img (cond (q == undefined) (ret (Ok [])) (index_block_visit end bytes q)))) (sym head_names) head_read.rest in
      let visit : List ℕ → Visited = λ b. elim (eaib_at b index_at) as (λ _. Visited) [
        | Ok e ↦ both (ret (chunk_ranges end bytes e.slots)) (both (first_visits end bytes 0 e.first) (second_visits end bytes 4 e.second))
        | Err f ↦ ret (Err (found 11 index_at))
      ] in
      let there = block_there img end index_at eaib_len visit (placed img index_at (block_in end index_at eaib_len visit) ne rest) in
      let d = choice_ok img (eaib_at index_bytes index_at) (λ e. both (ret (chunk_ranges end bytes e.slots)) (both (first_visits end bytes 0 e.first) (second_visits end bytes 4 e.second))) (λ f. found 11 index_at) there.1.0 there.1.1 in
      let fields : eaib_fields index_bytes ≡ d.0 = (checked-passed (block_tests (codes "EAIB") eaib_len index_bytes ++ array_tests index_bytes index_at) (eaib_fields index_bytes) d.0 d.1).1 in
      let one = both_ok img (ret (chunk_ranges end bytes d.0.slots)) (both (first_visits end bytes 0 d.0.first) (second_visits end bytes 4 d.0.second)) there.1.0 d.2 in
      let two = both_ok img (first_visits end bytes 0 d.0.first) (second_visits end bytes 4 d.0.second) one.1.0 one.1.1 in
      record {
        at = record { sound = ap refusal d.1; ends = there.0 };
        first = subst (λ (f : EaibFields). HasAnswer (eval img (first_visits end bytes 0 f.first))) (sym fields) two.0;
        second = subst (λ (f : EaibFields). HasAnswer (eval img (second_visits end bytes 4 f.second))) (sym fields) two.1;
      }

  -- an address that is one was read in a block that is there
  named_in : (place len offset : ℕ) → address_on img place len offset ≢ undefined → (place ≢ undefined) × (address_on img place len offset ≡ field (range img place len) offset 8)
  named_in place len offset ne = elim (cases_eq place undefined) [
    | inl e ↦ absurd (ne (subst (λ p. address_on img p len offset ≡ undefined) (sym e) refl))
    | inr t ↦ (t, cond-false (place == undefined) undefined (field (range img place len) offset 8) (ne_eqb place undefined t))
  ]

  second_read : (s : ℕ) → 4 ≤ s → s ≤ 12 → secondary_on img top s ≢ undefined → SecondThere img end bytes s (secondary_on img top s)
  second_read s far near ne =
      let named = named_in index_at eaib_len (94 + 8 * (s - 4)) ne in
      let x = index_read named.0 in
      let len = length-numbers_in index_bytes 25 94 in
      let one = second_ok img end bytes 4 (numbers_in index_bytes 25 94) x.second.0 (s - 4) x.second.1 (omega arith) (omega arith) in
      let back : 4 + (s - 4) ≡ s = omega arith in
      let at : get_or (numbers_in index_bytes 25 94) (s - 4) undefined ≡ secondary_on img top s = numbers_in-get index_bytes 25 94 (s - 4) undefined (omega arith) ∙ sym named.1 in
      second_there img end bytes s (secondary_on img top s)
      (subst (λ q. HasAnswer (eval img (secondary_block_visit end bytes s q))) at
      (subst (λ r. HasAnswer (eval img (secondary_block_visit end bytes r (get_or (numbers_in index_bytes 25 94) (s - 4) undefined)))) back one)) ne

  near_read : (s b : ℕ) → s < 4 → b < (super_block_of s).blocks → address_on img index_at eaib_len (46 + 8 * (blocks_before s + b)) ≢ undefined
      → IsSoundAt img end (data_of s b) (address_on img index_at eaib_len (46 + 8 * (blocks_before s + b)))
  near_read s b near inside ne =
      let k : ℕ = blocks_before s + b in
      let named = named_in index_at eaib_len (46 + 8 * k) ne in
      let x = index_read named.0 in
      let f = first_number s b near inside in
      let len = length-numbers_in index_bytes 6 46 in
      let one = first_ok img end bytes 0 (numbers_in index_bytes 6 46) x.first.0 k x.first.1 (let few = f.0 in omega arith) in
      let zero_less : 0 + k ≡ k = omega arith in
      let at : get_or (numbers_in index_bytes 6 46) k undefined ≡ address_on img index_at eaib_len (46 + 8 * k) = numbers_in-get index_bytes 6 46 k undefined f.0 ∙ sym named.1 in
      data_there img end bytes s b (address_on img index_at eaib_len (46 + 8 * k))
      (subst (λ q. HasAnswer (eval img (data_block_visit end bytes (super_block_of s).slots q))) at
      (subst (λ r. HasAnswer (eval img (data_block_visit end bytes (super_block_of r).slots (get_or (numbers_in index_bytes 6 46) k undefined)))) (ap super_block_of_first zero_less ∙ f.1) one)) ne

  far_read : (s b : ℕ) → 4 ≤ s → s ≤ 12 → b < (super_block_of s).blocks → address_on img (secondary_on img top s) (slots_len (super_block_of s).blocks) (18 + 8 * b) ≢ undefined
      → IsSoundAt img end (data_of s b) (address_on img (secondary_on img top s) (slots_len (super_block_of s).blocks) (18 + 8 * b))
  far_read s b far near inside ne =
      let named = named_in (secondary_on img top s) (slots_len (super_block_of s).blocks) (18 + 8 * b) ne in
      let x = second_read s far near named.0 in
      data_there img end bytes s b (address_on img (secondary_on img top s) (slots_len (super_block_of s).blocks) (18 + 8 * b))
      (subst (λ q. HasAnswer (eval img (data_block_visit end bytes (super_block_of s).slots q))) (sym named.1) (x.each b inside)) ne

  data_read : (s b : ℕ) → IsPart (data_of s b) → named_on img top (data_of s b) ≢ undefined → IsSoundAt img end (data_of s b) (named_on img top (data_of s b))
  data_read s b is ne = elim (cases_lt s 4) [
    | inl near ↦
        let c : named_on img top (data_of s b) ≡ address_on img index_at eaib_len (46 + 8 * (blocks_before s + b)) =
        ap (λ t. cond t (address_on img index_at eaib_len (46 + 8 * (blocks_before s + b))) (address_on img (secondary_on img top s) (slots_len (super_block_of s).blocks) (18 + 8 * b))) (lt-ltb s 4 near) in
        subst (IsSoundAt img end (data_of s b)) (sym c) (near_read s b near is.1 (λ e. ne (c ∙ e)))
    | inr far ↦
        let c : named_on img top (data_of s b) ≡ address_on img (secondary_on img top s) (slots_len (super_block_of s).blocks) (18 + 8 * b) =
        ap (λ t. cond t (address_on img index_at eaib_len (46 + 8 * (blocks_before s + b))) (address_on img (secondary_on img top s) (slots_len (super_block_of s).blocks) (18 + 8 * b))) (le-ltb s 4 far) in
        subst (IsSoundAt img end (data_of s b)) (sym c) (far_read s b far is.0 is.1 (λ e. ne (c ∙ e)))
  ]

  -- each part that is named stands there
  pub part_read : (k : Part) → IsPart k → (k ≢ header → named_on img top k ≢ undefined) → IsSoundAt img end k (named_on img top k)
  part_read (data_of s b) is ne = data_read s b is (ne (λ e. absurd cc))
  part_read (secondary_of s) is ne = (second_read s is.0 is.1 (ne (λ e. absurd cc))).at
  part_read index_block is ne = (index_read (ne (λ e. absurd cc))).at
  part_read header is ne = head_sound

-- the visit of an index is that of its kind
abbrev pub visit_by : ℕ → Described → IndexKind → Visited
visit_by end d k = elim k as (λ _. Visited) [ Array ↦ array_visit end (chunk_bytes d) d.layout.address | Tree ↦ tree_visit end (chunk_bytes d) d.layout.address ]

pub visit_of : (img : List ℕ) (end : ℕ) (d : Described) (k : IndexKind) → HasAnswer (eval img (index_visit end d)) → d.layout.index ≡ k → d.layout.address ≢ undefined → HasAnswer (eval img (visit_by end d k))
visit_of img end d k h kind ne =
    let there = placed img d.layout.address (visit_by end d d.layout.index) ne h in
    subst (λ (x : IndexKind). HasAnswer (eval img (visit_by end d x))) kind there

not_refused : (img : List ℕ) (end first : ℕ) (k : Part) (place : ℕ) (f : BlockFault) → IsSoundAt img end k place → Refuses img first k place f → ⊥
not_refused img end first k place f s refused = let e : Some f ≡ None = sym refused.1 ∙ s.sound in absurd cc

pub undamaged : (img : List ℕ) (end first at : ℕ) (d : Described) (f : BlockFault) → HasAnswer (eval img (index_visit end d)) → d.layout.index ≡ Array → d.layout.address ≢ undefined
    → IsDamaged img d.layout.address first at f → ⊥
undamaged img end first at d f h kind ne bad =
    let named : bad.k ≢ header → named_on img d.layout.address bad.k ≢ undefined = λ other e. bad.placed other (sym bad.named ∙ e) in
    not_refused img end first bad.k at f
    (subst (IsSoundAt img end bad.k) bad.named (part_read img end (chunk_bytes d) d.layout.address (visit_of img end d Array h kind ne) bad.k bad.part named)) bad.is

-- the header of an array ends by the end
pub array_ends : (img : List ℕ) (end : ℕ) (d : Described) → HasAnswer (eval img (index_visit end d)) → d.layout.index ≡ Array → d.layout.address ≢ undefined → d.layout.address + eahd_len ≤ end
array_ends img end d h kind ne = (part_read img end (chunk_bytes d) d.layout.address (visit_of img end d Array h kind ne) header tt (λ other. absurd (other refl))).ends
