-- Where the blocks of an image say that the parts of an array stand, and what was loaded of them.
use Rattle.std.proofs.Common.{◌≡◌, ◌≢◌, ◌⊎◌, inl, inr, ℕ, ◌+◌, ◌-◌, ◌*◌, ◌<◌, ◌≤◌, Bool, true, false, cond, List, ◌++◌, length, get_or, replicate, Ok, refl, sym, ap, subst, ◌∙◌, arith, ne_eqb}
use Rattle.std.proofs.lemmas.Bool.{cases_Bool, cond-false, ltb-false}
use Rattle.std.proofs.lemmas.List.{get_or-replicate}
use Rattle.std.specs.Prelude.{Some, None, nat_lt, ◌==◌, codes}
use Rattle.h5w_model.specs.Numbers.{field, range, undefined}
use Rattle.h5w_model.specs.Blocks.{block_tests}
use Rattle.h5w_model.specs.Arrays.{EahdFields, blocks_before, eahd_at, eahd_fields, eahd_len, eaib_len, numbers_in, parameter_tests, slots_len, super_block_of}
use Rattle.h5w_model.specs.declared.refusal.BlockFault.{BlockFault}
use Rattle.h5w_model.proofs.CheckedLemmas.{checked-passed}
use Rattle.h5w_cache.specs.Blocks.{BlockView}
use Rattle.h5w_cache.specs.Stores.{Store}
use Rattle.h5w_array_laws.specs.Parts.{Part, data_of, secondary_of, index_block, header, IsPart, children, data_blocks_of, length_of, names_from, stays_in_place}
use Rattle.h5w_array_laws.specs.ArrayStores.{IsBlock, IsWhole, address_in, block_at_part, header_place, place_at_part}
use Rattle.h5w_array_laws.proofs.FoundLemmas.{count_blocks}
use Rattle.h5w_array_laws.proofs.KeptLemmas.{is_some_of, of_some, some_or_none}
use Rattle.h5w_array_laws.proofs.NumberLemmas.{numbers_in-get}
use Rattle.h5w_ea_index.specs.Loading.{IsLoading, named_place, rank}
use Rattle.h5w_ea_index.specs.Opened.{IsDamaged, IsHeaderAt, IsOpened, IsPassable, IsPassed, IsThere, Refuses, StandsAt, address_on, index_on, look_order, named_on, past, refusal, refused_on, secondary_on}

-- ---- What leads to a chunk

more_slots : (b n m : ℕ) → b < n → (b + 1) * m ≤ n * m
more_slots b n m lt = grind arith

-- a block leads to no more than the one that names it
pub past_up : (s b : ℕ) → b < (super_block_of s).blocks → past (data_of s b) ≤ past (secondary_of s)
past_up s b lt =
    let m : ℕ = (super_block_of s).slots in
    let n : ℕ = (super_block_of s).blocks in
    let h : (b + 1) * m ≤ n * m = more_slots b n m lt in
    omega arith

order_is : (k : Part) → stays_in_place k ≡ false → look_order k ≡ rank k + 2
order_is (data_of s b) e = omega arith
order_is (secondary_of s) e = omega arith
order_is index_block e = absurd (cc)
order_is header e = absurd (cc)

-- a block that names none
unnamed_is : (s b : ℕ) (c : BlockView) → b < (super_block_of s).blocks → numbers_in c.bytes (length (children (secondary_of s))) (names_from (secondary_of s)) ≡ replicate (length (children (secondary_of s))) undefined
    → field c.bytes (18 + 8 * b) 8 ≡ undefined
unnamed_is s b c lt e =
    let n : ℕ = length (data_blocks_of s) in
    let inside : b < n = (let l = count_blocks s in omega arith) in
    sym (numbers_in-get c.bytes n 18 b undefined inside) ∙ ap (λ l. get_or l b undefined) e ∙ get_or-replicate n b undefined undefined inside

-- ---- The header and the index block

pub header_named : (img : List ℕ) (place : ℕ) (fields : EahdFields) → eahd_at (range img place eahd_len) place ≡ Ok fields → index_on img place ≡ fields.block
header_named img place fields read =
    let r : List ℕ = range img place eahd_len in
    ap (λ (f : EahdFields). f.block) (checked-passed (block_tests (codes "EAHD") eahd_len r ++ parameter_tests r place) (eahd_fields r) fields read).1

pub header_damaged : (img : List ℕ) (first top : ℕ) (f : BlockFault) → first < 131060 → refused_on img header top ≡ Some f → IsDamaged img top first top f
header_damaged img first top f low is = record {
  k = header;
  part = tt;
  named = refl;
  placed = λ ne. absurd (ne refl);
  is = (low, is);
  before = λ j p lt needed. absurd (omega arith);
}

pub index_damaged : (img : List ℕ) (first top place : ℕ) (bytes : List ℕ) (f : BlockFault) → first < 131060 → IsHeaderAt img top bytes place → place ≢ undefined → refused_on img index_block place ≡ Some f → IsDamaged img top first place f
index_damaged img first top place bytes f low h defined is = record {
  k = index_block;
  part = tt;
  named = header_named img top h.fields h.read ∙ h.names;
  placed = λ ne. defined;
  is = (low, is);
  before = λ j p lt needed. only_header j lt;
}
  where
    only_header : (j : Part) → look_order j < 1 → IsPassable img top j
    only_header (data_of s b) lt = absurd (omega arith)
    only_header (secondary_of s) lt = absurd (omega arith)
    only_header index_block lt = absurd (omega arith)
    only_header header lt = inr (ap refusal h.read)

-- ---- What was loaded

module _ (img : List ℕ) (top m first : ℕ) (v : Store) (l : IsLoading top m v) (o : IsOpened img first v) (low : first < 131060) where
  stands_as : (k : Part) → IsPart k → (b : BlockView) → block_at_part v k ≡ Some b → StandsAt img first k (place_at_part v k) b
  stands_as k p b e = of_some (StandsAt img first k (place_at_part v k)) (block_at_part v k) b e (o.each k p)

  needed_there : (k : Part) → IsPart k → first < past k → (b : BlockView) → block_at_part v k ≡ Some b → IsThere img k (place_at_part v k) b
  needed_there k p needed b e = go (stands_as k p b e)
    where
      go : StandsAt img first k (place_at_part v k) b → IsThere img k (place_at_part v k) b
      go (inl there) = there
      go (inr passed) = let h = passed.early in absurd (omega arith)

  index_placed : place_at_part v index_block ≡ index_on img top
  index_placed = sym o.headed.names ∙ sym (header_named img (header_place v) o.headed.fields o.headed.read) ∙ ap (index_on img) l.top

  -- an address in a block that stands there
  address_is : (k : Part) (p offset : ℕ) (b : BlockView) → IsPart k → block_at_part v k ≡ Some b → IsThere img k (place_at_part v k) b → place_at_part v k ≡ p → address_on img p (length_of k) offset ≡ address_in (block_at_part v k) offset
  address_is k p offset b part e there at =
      let placed = (of_some (IsWhole v k) (block_at_part v k) b e (l.whole k part)).placed in
      let len = (of_some (IsBlock k) (block_at_part v k) b e (l.each k part)).len in
      let bytes : range img (place_at_part v k) (length_of k) ≡ b.bytes = ap (range img (place_at_part v k)) (sym len) ∙ there.there in
      ap (λ q. address_on img q (length_of k) offset) (sym at)
      ∙ cond-false (place_at_part v k == undefined) undefined (field (range img (place_at_part v k) (length_of k)) offset 8) (ne_eqb (place_at_part v k) undefined placed)
      ∙ ap (λ x. field x offset 8) bytes
      ∙ sym (ap (λ x. address_in x offset) e)

  index_names : (offset : ℕ) → address_on img (index_on img top) eaib_len offset ≡ address_in (block_at_part v index_block) offset
  index_names offset =
      let t = is_some_of (block_at_part v index_block) (l.in_place index_block tt refl) in
      address_is index_block (index_on img top) offset t.0 tt t.1 (needed_there index_block tt low t.0 t.1) index_placed

  -- a secondary block that was reached before
  second_placed : (s : ℕ) → 4 ≤ s → s ≤ 12 → 65 * s < m → secondary_on img top s ≡ place_at_part v (secondary_of s)
  second_placed s far near lt = index_names (94 + 8 * (s - 4)) ∙ l.named (secondary_of s) (far, near) refl lt

  second_names : (s b : ℕ) → 4 ≤ s → s ≤ 12 → b < (super_block_of s).blocks → 65 * s < m → (first < past (data_of s b)) ⊎ (address_in (block_at_part v (secondary_of s)) (18 + 8 * b) ≢ undefined)
      → address_on img (secondary_on img top s) (slots_len (super_block_of s).blocks) (18 + 8 * b) ≡ address_in (block_at_part v (secondary_of s)) (18 + 8 * b)
  second_names s b far near inside lt why = go (some_or_none (block_at_part v (secondary_of s)))
    where
      passed : (c : BlockView) → block_at_part v (secondary_of s) ≡ Some c → IsPassed img first (secondary_of s) (place_at_part v (secondary_of s)) c → (first < past (data_of s b)) ⊎ (address_in (block_at_part v (secondary_of s)) (18 + 8 * b) ≢ undefined)
          → address_on img (secondary_on img top s) (slots_len (super_block_of s).blocks) (18 + 8 * b) ≡ address_in (block_at_part v (secondary_of s)) (18 + 8 * b)
      passed c e h (inl needed) = let up = past_up s b inside in let early = h.early in absurd (omega arith)
      passed c e h (inr named) = absurd (named (ap (λ x. address_in x (18 + 8 * b)) e ∙ unnamed_is s b c inside h.unnamed))

      stood : (c : BlockView) → block_at_part v (secondary_of s) ≡ Some c → StandsAt img first (secondary_of s) (place_at_part v (secondary_of s)) c
          → address_on img (secondary_on img top s) (slots_len (super_block_of s).blocks) (18 + 8 * b) ≡ address_in (block_at_part v (secondary_of s)) (18 + 8 * b)
      stood c e (inl there) = address_is (secondary_of s) (secondary_on img top s) (18 + 8 * b) c (far, near) e there (sym (second_placed s far near lt))
      stood c e (inr h) = passed c e h why

      go : (block_at_part v (secondary_of s) ≡ None) ⊎ ((c : BlockView) × (block_at_part v (secondary_of s) ≡ Some c))
          → address_on img (secondary_on img top s) (slots_len (super_block_of s).blocks) (18 + 8 * b) ≡ address_in (block_at_part v (secondary_of s)) (18 + 8 * b)
      go (inl none) =
          ap (λ q. address_on img q (slots_len (super_block_of s).blocks) (18 + 8 * b)) (second_placed s far near lt ∙ l.unplaced (secondary_of s) (far, near) none)
          ∙ sym (ap (λ x. address_in x (18 + 8 * b)) none)
      go (inr t) = stood t.0 t.1 (stands_as (secondary_of s) (far, near) t.0 t.1)

  -- the image names it where the store does
  pub named_is : (k : Part) → IsPart k → stays_in_place k ≡ false → rank k ≤ m → (first < past k) ⊎ (named_place v k ≢ undefined) → named_on img top k ≡ named_place v k
  named_is (data_of s b) p moves le why = go (cases_Bool (nat_lt s 4))
    where
      go : (nat_lt s 4 ≡ true) ⊎ (nat_lt s 4 ≡ false) → named_on img top (data_of s b) ≡ named_place v (data_of s b)
      go (inl t) =
          let on : Bool → ℕ = λ c. cond c (address_on img (index_on img top) eaib_len (46 + 8 * (blocks_before s + b))) (address_on img (secondary_on img top s) (slots_len (super_block_of s).blocks) (18 + 8 * b)) in
          let names : Bool → ℕ = λ c. address_in (block_at_part v (cond c index_block (secondary_of s))) (cond c (46 + 8 * (blocks_before s + b)) (18 + 8 * b)) in
          ap on t ∙ index_names (46 + 8 * (blocks_before s + b)) ∙ sym (ap names t)
      go (inr t) =
          let on : Bool → ℕ = λ c. cond c (address_on img (index_on img top) eaib_len (46 + 8 * (blocks_before s + b))) (address_on img (secondary_on img top s) (slots_len (super_block_of s).blocks) (18 + 8 * b)) in
          let names : Bool → ℕ = λ c. address_in (block_at_part v (cond c index_block (secondary_of s))) (cond c (46 + 8 * (blocks_before s + b)) (18 + 8 * b)) in
          let far = ltb-false s 4 t in
          ap on t ∙ second_names s b far p.0 p.1 (omega arith) (subst (λ q. (first < past (data_of s b)) ⊎ (q ≢ undefined)) (ap names t) why) ∙ sym (ap names t)
  named_is (secondary_of s) p moves le why = index_names (94 + 8 * (s - 4))
  named_is index_block p moves le why = absurd (cc)
  named_is header p moves le why = absurd (cc)

  -- what comes before it stands there, or is not there
  passable : (j : Part) → IsPart j → stays_in_place j ≡ false → rank j < m → first < past j → IsPassable img top j
  passable j p moves lt needed = go (some_or_none (block_at_part v j))
    where
      at : named_on img top j ≡ place_at_part v j
      at = named_is j p moves (omega arith) (inl needed) ∙ l.named j p moves lt

      go : (block_at_part v j ≡ None) ⊎ ((c : BlockView) × (block_at_part v j ≡ Some c)) → IsPassable img top j
      go (inl none) = inl (at ∙ l.unplaced j p none)
      go (inr t) = inr (ap (refused_on img j) at ∙ (needed_there j p needed t.0 t.1).sound)

  top_passable : IsPassable img top header
  top_passable =
      let t = is_some_of (block_at_part v header) (l.in_place header tt refl) in
      inr (ap (refused_on img header) (sym l.top) ∙ (needed_there header tt low t.0 t.1).sound)

  index_passable : IsPassable img top index_block
  index_passable =
      let t = is_some_of (block_at_part v index_block) (l.in_place index_block tt refl) in
      inr (ap (refused_on img index_block) (sym index_placed) ∙ (needed_there index_block tt low t.0 t.1).sound)

  before : (n : ℕ) → n ≡ m + 2 → (j : Part) → IsPart j → look_order j < n → first < past j → IsPassable img top j
  before n e (data_of s b) p lt needed = passable (data_of s b) p refl (omega arith) needed
  before n e (secondary_of s) p lt needed = passable (secondary_of s) p refl (omega arith) needed
  before n e index_block p lt needed = index_passable
  before n e header p lt needed = top_passable

  moving : (k : Part) → stays_in_place k ≡ false → k ≢ header
  moving k e is = let t : stays_in_place k ≡ true = ap stays_in_place is in absurd (cc)

  -- the block that comes next is refused
  pub next_damaged : (k : Part) (place : ℕ) (f : BlockFault) → IsPart k → stays_in_place k ≡ false → rank k ≡ m → place ≡ named_place v k → place ≢ undefined → Refuses img first k place f → IsDamaged img top first place f
  next_damaged k place f p moves next named defined is = record {
    k = k;
    part = p;
    named = named_is k p moves (omega arith) (inr (λ u. defined (named ∙ u))) ∙ sym named;
    placed = λ ne. defined;
    is = is;
    before = before (look_order k) (order_is k moves ∙ ap (λ r. r + 2) next);
  }
