-- In an array that a check passes no two slots have one chunk, where no two ranges meet.
use Rattle.std.proofs.Common.{◌≡◌, ◌≢◌, ◌⊎◌, ℕ, zero, suc, ◌+◌, ◌-◌, ◌*◌, ◌<◌, ◌≤◌, Bool, true, false, cond, List, [], ◌∷◌, ◌++◌, get_or, Result, Ok, Err, refl, sym, ◌∙◌, ap, subst, inl, inr, arith}
use Rattle.std.specs.Prelude.{◌==◌, nat_lt}
use Rattle.std.proofs.lemmas.Bool.{ltb-true, cases_lt, cases_eq, lt-ltb, le-ltb, cond-true, cond-false}
use Rattle.std.proofs.lemmas.Bool.Decides.{eqb_tells}
use Rattle.std.proofs.lemmas.List.{get_or_past}
use Rattle.h5w_model.specs.Numbers.{range, undefined}
use Rattle.h5w_model.specs.Programs.{Prog, ret, stored, eval}
use Rattle.h5w_model.specs.Arrays.{EaibFields, SlotsFields, easb_at, eadb_at, slots_len, super_block_of, SlotPlace, IsSlotPlace, blocks_before, place_of, named_place, slot_place_of}
use Rattle.h5w_model.specs.Datasets.{then_also, refused_as}
use Rattle.h5w_model.specs.Tables.{array_slot, data_slot, secondary_slot, super_block_of_first, data_block, secondary_block}
use Rattle.h5w_model.specs.Findings.{found, Used, Visited, block_in, both, visit_each, data_block_visit, secondary_block_visit, first_visits, second_visits, chunk_ranges, bad_data_block, bad_secondary_block, chunk_past_end}
use Rattle.h5w_model.specs.declared.cell.Place.{Place}
use Rattle.h5w_model.specs.declared.cell.Place.TheVariants.{Index, Direct, Second}
use Rattle.h5w_model.specs.declared.refusal.ReadError.{ReadError}
use Rattle.h5w_model.specs.declared.refusal.BlockFault.{BlockFault}
use Rattle.h5w_model.specs.declared.refusal.ReadError.TheVariants.{Damaged}
use Rattle.h5w_laws.proofs.ResultLemmas.{fails, then_ok, choice_ok}
use Rattle.h5w_laws.proofs.ReachLemmas.{IsNear, near_place}
use Rattle.h5w_model.proofs.ArrayGeometry.{slot_place-stands}
use Rattle.h5w_model.proofs.SlotLemmas.{slot_of}
use Rattle.h5w_laws.proofs.EndLemmas.{ranges_are, same_ranges}
use Rattle.h5w_step_laws.specs.Ranges.{Among, AreApart, Disjoint, block_at, chunk_at}
use Rattle.h5w_step_laws.proofs.RangeLemmas.{among_left, among_right}
use Rattle.h5w_step_laws.proofs.VisitTells.{both_parts, block_parts}
use Rattle.h5w_step_laws.proofs.ArrayVisits.{one_more, by_place}
use Rattle.h5w_flush_laws.proofs.PartLemmas.{meets_itself}

-- ---- A range that is there twice

abbrev pub Twice : Used → List Used → Type 0
Twice u [] = ⊥
Twice u (v ∷ us) = ((v ≡ u) × Among u us) ⊎ Twice u us

pub twice_never : (u : Used) (us : List Used) → Disjoint us → Twice u us → ⊥
twice_never u [] d t = t
twice_never u (v ∷ us) d (inl t) = meets_itself v d.0 (subst (λ (x : Used). AreApart v x) (sym t.0) (d.1 u t.1))
twice_never u (v ∷ us) d (inr t) = twice_never u us d.2 t

pub twice_both : (u : Used) (us vs : List Used) → Among u us → Among u vs → Twice u (us ++ vs)
twice_both u [] vs a b = absurd a
twice_both u (x ∷ us) vs (inl e) b = inl (e, among_right u us vs b)
twice_both u (x ∷ us) vs (inr a) b = inr (twice_both u us vs a b)

pub twice_left : (u : Used) (us vs : List Used) → Twice u us → Twice u (us ++ vs)
twice_left u [] vs t = absurd t
twice_left u (x ∷ us) vs (inl t) = inl (t.0, among_left u us vs t.1)
twice_left u (x ∷ us) vs (inr t) = inr (twice_left u us vs t)

pub twice_right : (u : Used) (us vs : List Used) → Twice u vs → Twice u (us ++ vs)
twice_right u [] vs t = t
twice_right u (x ∷ us) vs t = inr (twice_right u us vs t)

-- ---- Answers of which no two are one chunk

-- the address that a look-up gives, undefined where it is refused
abbrev pub address_in : Result ℕ ReadError → ℕ
address_in (Ok a) = a
address_in (Err e) = undefined

abbrev pub answer : List ℕ → Prog (Result ℕ ReadError) → ℕ
answer img p = address_in (eval img p)

-- each defined address is that of a chunk among the ranges, and one that two have is there twice
pub record Sep {K : Type 0} (bytes : ℕ) (us : List Used) (P : K → Type 0) (ans : K → ℕ) : Type 0 where
  pub among : (k : K) → P k → ans k ≢ undefined → Among (chunk_at (ans k) bytes) us
  pub twice : (j k : K) → P j → P k → j ≢ k → ans j ≢ undefined → ans k ≡ ans j → Twice (chunk_at (ans j) bytes) us

pub sep_nothing : {K : Type 0} (bytes : ℕ) (us : List Used) (P : K → Type 0) (ans : K → ℕ) → ((k : K) → P k → ans k ≡ undefined) → Sep bytes us P ans
sep_nothing bytes us P ans none = record { among = λ k p d. absurd (d (none k p)); twice = λ j k p q n d e. absurd (d (none j p)) }

pub sep_as : {K : Type 0} (bytes : ℕ) (us : List Used) (P : K → Type 0) (ans other : K → ℕ) → ((k : K) → P k → other k ≡ ans k) → Sep bytes us P ans → Sep bytes us P other
sep_as bytes us P ans other same s = record {
  among = λ k p d. subst (λ a. Among (chunk_at a bytes) us) (sym (same k p)) (s.among k p (λ e. d (same k p ∙ e)));
  twice = λ j k p q n d e. subst (λ a. Twice (chunk_at a bytes) us) (sym (same j p)) (s.twice j k p q n (λ x. d (same j p ∙ x)) (sym (same k q) ∙ e ∙ same j p));
}

pub sep_right : {K : Type 0} (bytes : ℕ) (us vs : List Used) (P : K → Type 0) (ans : K → ℕ) → Sep bytes vs P ans → Sep bytes (us ++ vs) P ans
sep_right bytes us vs P ans s = record { among = λ k p d. among_right (chunk_at (ans k) bytes) us vs (s.among k p d); twice = λ j k p q n d e. twice_right (chunk_at (ans j) bytes) us vs (s.twice j k p q n d e) }

-- said of fewer
pub sep_where : {K : Type 0} (bytes : ℕ) (us : List Used) (P Q : K → Type 0) (ans : K → ℕ) → ((k : K) → Q k → P k) → Sep bytes us P ans → Sep bytes us Q ans
sep_where bytes us P Q ans less s = record { among = λ k q d. s.among k (less k q) d; twice = λ j k p q n d e. s.twice j k (less j p) (less k q) n d e }

-- those of a first and those of later ones, by number
pub sep_cons : {K : Type 0} (bytes : ℕ) (us vs : List Used) (P : ℕ × K → Type 0) (ans : ℕ × K → ℕ) → Sep bytes us (λ s. P (zero, s)) (λ s. ans (zero, s)) → Sep bytes vs (λ (x : ℕ × K). P (suc x.0, x.1)) (λ (x : ℕ × K). ans (suc x.0, x.1))
    → Sep bytes (us ++ vs) P ans
sep_cons {K} bytes us vs P ans first later = record { among = λ k. among k.0 k.1; twice = λ j k. twice j.0 k.0 j.1 k.1 }
  where
    pair : ℕ → K → ℕ × K
    pair b s = (b, s)

    next : ℕ × K → ℕ × K
    next x = (suc x.0, x.1)

    among : (b : ℕ) (s : K) → P (b, s) → ans (b, s) ≢ undefined → Among (chunk_at (ans (b, s)) bytes) (us ++ vs)
    among zero s p d = among_left (chunk_at (ans (zero, s)) bytes) us vs (first.among s p d)
    among (suc b) s p d = among_right (chunk_at (ans (suc b, s)) bytes) us vs (later.among (b, s) p d)

    twice : (b c : ℕ) (s r : K) → P (b, s) → P (c, r) → ◌≢◌ {A = ℕ × K} (b, s) (c, r) → ans (b, s) ≢ undefined → ans (c, r) ≡ ans (b, s) → Twice (chunk_at (ans (b, s)) bytes) (us ++ vs)
    twice zero zero s r p q n d e = twice_left (chunk_at (ans (zero, s)) bytes) us vs (first.twice s r p q (λ same. n (ap (pair zero) same)) d e)
    twice zero (suc c) s r p q n d e =
        twice_both (chunk_at (ans (zero, s)) bytes) us vs (first.among s p d) (subst (λ a. Among (chunk_at a bytes) vs) e (later.among (c, r) q (λ x. d (sym e ∙ x))))
    twice (suc b) zero s r p q n d e =
        twice_both (chunk_at (ans (suc b, s)) bytes) us vs (subst (λ a. Among (chunk_at a bytes) us) e (first.among r q (λ x. d (sym e ∙ x)))) (later.among (b, s) p d)
    twice (suc b) (suc c) s r p q n d e =
        twice_right (chunk_at (ans (suc b, s)) bytes) us vs (later.twice (b, s) (c, r) p q (λ same. n (ap next same)) d e)

-- ---- Chunks

abbrev pub Always : {K : Type 0} → K → Type 0
Always k = Unit {0}

abbrev pub slot_in : List ℕ → ℕ → ℕ
slot_in places k = get_or places k undefined

pub chunks_apart : (end bytes : ℕ) (places : List ℕ) (us : List Used) → chunk_ranges end bytes places ≡ Ok us → Sep {K = ℕ} bytes us Always (slot_in places)
chunks_apart end bytes [] us h = sep_nothing bytes us Always (slot_in []) (λ k p. get_or_past [] k undefined (omega arith))
chunks_apart end bytes (a ∷ rest) us h = go (chunks_apart end bytes rest) (eqb_tells a undefined)
  where
    skipped : Sep {K = ℕ} bytes us Always (slot_in rest) → a ≡ undefined → Sep {K = ℕ} bytes us Always (slot_in (a ∷ rest))
    skipped s none = record { among = among; twice = twice }
      where
        among : (k : ℕ) → Unit {0} → slot_in (a ∷ rest) k ≢ undefined → Among (chunk_at (slot_in (a ∷ rest) k) bytes) us
        among zero p d = absurd (d none)
        among (suc k) p d = s.among k tt d

        twice : (j k : ℕ) → Unit {0} → Unit {0} → j ≢ k → slot_in (a ∷ rest) j ≢ undefined → slot_in (a ∷ rest) k ≡ slot_in (a ∷ rest) j → Twice (chunk_at (slot_in (a ∷ rest) j) bytes) us
        twice zero k p q n d e = absurd (d none)
        twice (suc j) zero p q n d e = absurd (d (sym e ∙ none))
        twice (suc j) (suc k) p q n d e = s.twice j k tt tt (λ x. n (ap suc x)) d e

    kept : (vs : List Used) → chunk_at a bytes ∷ vs ≡ us → Sep {K = ℕ} bytes vs Always (slot_in rest) → Sep {K = ℕ} bytes us Always (slot_in (a ∷ rest))
    kept vs is s = subst (λ (xs : List Used). Sep {K = ℕ} bytes xs Always (slot_in (a ∷ rest))) is (record { among = among; twice = twice })
      where
        among : (k : ℕ) → Unit {0} → slot_in (a ∷ rest) k ≢ undefined → Among (chunk_at (slot_in (a ∷ rest) k) bytes) (chunk_at a bytes ∷ vs)
        among zero p d = inl refl
        among (suc k) p d = inr (s.among k tt d)

        twice : (j k : ℕ) → Unit {0} → Unit {0} → j ≢ k → slot_in (a ∷ rest) j ≢ undefined → slot_in (a ∷ rest) k ≡ slot_in (a ∷ rest) j → Twice (chunk_at (slot_in (a ∷ rest) j) bytes) (chunk_at a bytes ∷ vs)
        twice zero zero p q n d e = absurd (n refl)
        twice zero (suc k) p q n d e = inl (refl, subst (λ x. Among (chunk_at x bytes) vs) e (s.among k tt (λ x. d (sym e ∙ x))))
        twice (suc j) zero p q n d e = inl (ap (λ x. chunk_at x bytes) e, s.among j tt d)
        twice (suc j) (suc k) p q n d e = inr (s.twice j k tt tt (λ x. n (ap suc x)) d e)

    go : ((vs : List Used) → chunk_ranges end bytes rest ≡ Ok vs → Sep {K = ℕ} bytes vs Always (slot_in rest))
        → ((a == undefined) ≡ true) × (a ≡ undefined) ⊎ ((a == undefined) ≡ false) × (a ≢ undefined) → Sep {K = ℕ} bytes us Always (slot_in (a ∷ rest))
    go later (inl t) = skipped (later us (ap (λ b. one_more b (nat_lt end (a + bytes)) bytes a (chunk_ranges end bytes rest)) (sym t.0) ∙ h)) t.1
    go later (inr t) =
        let f = fails (nat_lt end (a + bytes)) (then_also (chunk_ranges end bytes rest) (λ us. Ok (chunk_at a bytes ∷ us))) (found chunk_past_end a) us
        (ap (λ b. one_more b (nat_lt end (a + bytes)) bytes a (chunk_ranges end bytes rest)) (sym t.0) ∙ h) in
        let v = then_ok (chunk_ranges end bytes rest) (λ us. ranges_are (chunk_at a bytes ∷ us)) us f.1 in
        kept v.0 (same_ranges (chunk_at a bytes ∷ v.0) us v.2) (later v.0 v.1)

-- ---- A data block

-- where an address is undefined, so is what a look-up behind it gives
pub none_behind : (img : List ℕ) (b : Bool) (q : Prog (Result ℕ ReadError)) → b ≡ true → answer img (cond b (ret (Ok undefined)) q) ≡ undefined
none_behind img b q t = ap (λ c. answer img (cond c (ret (Ok undefined)) q)) t

pub some_behind : (img : List ℕ) (b : Bool) (q : Prog (Result ℕ ReadError)) → b ≡ false → answer img (cond b (ret (Ok undefined)) q) ≡ answer img q
some_behind img b q t = ap (λ c. answer img (cond c (ret (Ok undefined)) q)) t

pub data_apart : (img : List ℕ) (end bytes n place : ℕ) (us : List Used) → eval img (data_block_visit end bytes n place) ≡ Ok us → Sep {K = ℕ} bytes us Always (λ slot. answer img (data_slot place n slot))
data_apart img end bytes n place us h = go (by_place img us (place == undefined) block h)
  where
    visit : List ℕ → Visited
    visit b = elim (eadb_at b place n) as (λ _. Visited) [ Ok d ↦ ret (chunk_ranges end bytes d.slots) | Err f ↦ ret (Err (found bad_data_block place)) ]

    block : Visited
    block = block_in end place (slots_len n) (λ b. elim (eadb_at b place n) as (λ _. Visited) [ Ok d ↦ ret (chunk_ranges end bytes d.slots) | Err f ↦ ret (Err (found bad_data_block place)) ])

    look : ℕ → Prog (Result ℕ ReadError)
    look slot = stored data_block place (slots_len n) (λ b. ret (then_also (refused_as (Damaged place) (eadb_at b place n)) (λ d. Ok (get_or d.slots slot undefined))))

    go : ((place == undefined) ≡ true) × ([] ≡ us) ⊎ ((place == undefined) ≡ false) × (eval img block ≡ Ok us) → Sep {K = ℕ} bytes us Always (λ slot. answer img (data_slot place n slot))
    go (inl t) = sep_nothing bytes us Always (λ slot. answer img (data_slot place n slot)) (λ slot p. none_behind img (place == undefined) (look slot) t.0)
    go (inr t) =
        let in_block = block_parts img end place (slots_len n) visit us t.1 in
        let decoded = choice_ok img (eadb_at (range img place (slots_len n)) place n) (λ d. ret (chunk_ranges end bytes d.slots)) (λ f. found bad_data_block place) in_block.behind in_block.of_behind in
        let inside = chunks_apart end bytes decoded.0.slots in_block.behind decoded.2 in
        sep_as bytes us Always (slot_in decoded.0.slots) (λ slot. answer img (data_slot place n slot))
        (λ slot p. some_behind img (place == undefined) (look slot) t.0 ∙ ap (λ r. address_in (then_also (refused_as (Damaged place) r) (λ d. Ok (get_or d.slots slot undefined)))) decoded.1)
        (subst (λ (xs : List Used). Sep {K = ℕ} bytes xs Always (slot_in decoded.0.slots)) in_block.parts (sep_right bytes (block_at place (slots_len n) ∷ []) in_block.behind Always (slot_in decoded.0.slots) inside))

-- ---- Data blocks, one after another

-- a number and a slot
abbrev pub Slot : Type 0
Slot = ℕ × ℕ

pub each_apart : (img : List ℕ) (end bytes n : ℕ) (places : List ℕ) (us : List Used) → eval img (visit_each (data_block_visit end bytes n) places) ≡ Ok us
    → Sep {K = Slot} bytes us Always (λ x. answer img (data_slot (get_or places x.0 undefined) n x.1))
each_apart img end bytes n [] us h =
    sep_nothing {K = Slot} bytes us Always (λ x. answer img (data_slot (get_or [] x.0 undefined) n x.1)) (λ x p. ap (λ a. answer img (data_slot a n x.1)) (get_or_past [] x.0 undefined (omega arith)))
each_apart img end bytes n (a ∷ rest) us h =
    let parts = both_parts img (data_block_visit end bytes n a) (visit_each (data_block_visit end bytes n) rest) us h in
    subst (λ (xs : List Used). Sep {K = Slot} bytes xs Always (λ x. answer img (data_slot (get_or (a ∷ rest) x.0 undefined) n x.1))) parts.parts
    (sep_cons {K = ℕ} bytes parts.first parts.second Always (λ x. answer img (data_slot (get_or (a ∷ rest) x.0 undefined) n x.1)) (data_apart img end bytes n a parts.first parts.of_first)
    (each_apart img end bytes n rest parts.second parts.of_second))

-- ---- A secondary block

pub secondary_apart : (img : List ℕ) (end bytes sblock place : ℕ) (us : List Used) → eval img (secondary_block_visit end bytes sblock place) ≡ Ok us
    → Sep {K = Slot} bytes us Always (λ x. answer img (secondary_slot place sblock x.0 x.1))
secondary_apart img end bytes sblock place us h = go (by_place img us (place == undefined) block h)
  where
    block : Visited
    block = block_in end place (slots_len (super_block_of sblock).blocks) (λ b. elim (easb_at b place (super_block_of sblock).blocks) as (λ _. Visited) [
      | Ok s ↦ visit_each (data_block_visit end bytes (super_block_of sblock).slots) s.slots
      | Err f ↦ ret (Err (found bad_secondary_block place))
    ])

    look : Slot → Prog (Result ℕ ReadError)
    look x = stored secondary_block place (slots_len (super_block_of sblock).blocks) (λ b. elim (easb_at b place (super_block_of sblock).blocks) as (λ _. Prog (Result ℕ ReadError)) [
      | Ok s ↦ data_slot (get_or s.slots x.0 undefined) (super_block_of sblock).slots x.1
      | Err f ↦ ret (Err (Damaged place f))
    ])

    go : ((place == undefined) ≡ true) × ([] ≡ us) ⊎ ((place == undefined) ≡ false) × (eval img block ≡ Ok us) → Sep {K = Slot} bytes us Always (λ x. answer img (secondary_slot place sblock x.0 x.1))
    go (inl t) = sep_nothing {K = Slot} bytes us Always (λ x. answer img (secondary_slot place sblock x.0 x.1)) (λ x p. none_behind img (place == undefined) (look x) t.0)
    go (inr t) =
        let n : ℕ = (super_block_of sblock).blocks in
        let k : ℕ = (super_block_of sblock).slots in
        let in_block = block_parts img end place (slots_len n) (λ b. elim (easb_at b place n) as (λ _. Visited) [ Ok s ↦ visit_each (data_block_visit end bytes k) s.slots | Err f ↦ ret (Err (found bad_secondary_block place)) ]) us t.1 in
        let decoded = choice_ok img (easb_at (range img place (slots_len n)) place n) (λ s. visit_each (data_block_visit end bytes k) s.slots) (λ f. found bad_secondary_block place) in_block.behind in_block.of_behind in
        let inside = each_apart img end bytes k decoded.0.slots in_block.behind decoded.2 in
        let own : Slot → ℕ = λ x. answer img (data_slot (get_or decoded.0.slots x.0 undefined) k x.1) in
        sep_as {K = Slot} bytes us Always own (λ x. answer img (secondary_slot place sblock x.0 x.1))
        (λ x p. some_behind img (place == undefined) (look x) t.0
        ∙ ap (λ (r : Result SlotsFields BlockFault). answer img (elim r as (λ _. Prog (Result ℕ ReadError)) [ Ok s ↦ data_slot (get_or s.slots x.0 undefined) k x.1 | Err f ↦ ret (Err (Damaged place f)) ])) decoded.1)
        (subst (λ (xs : List Used). Sep {K = Slot} bytes xs Always own) in_block.parts (sep_right {K = Slot} bytes (block_at place (slots_len n) ∷ []) in_block.behind Always own inside))

-- ---- The blocks that an index block names

pub firsts_apart : (img : List ℕ) (end bytes block : ℕ) (places : List ℕ) (us : List Used) → eval img (first_visits end bytes block places) ≡ Ok us
    → Sep {K = Slot} bytes us Always (λ x. answer img (data_slot (get_or places x.0 undefined) (super_block_of (super_block_of_first (block + x.0))).slots x.1))
firsts_apart img end bytes block [] us h =
    sep_nothing {K = Slot} bytes us Always (λ x. answer img (data_slot (get_or [] x.0 undefined) (super_block_of (super_block_of_first (block + x.0))).slots x.1))
    (λ x p. ap (λ a. answer img (data_slot a (super_block_of (super_block_of_first (block + x.0))).slots x.1)) (get_or_past [] x.0 undefined (omega arith)))
firsts_apart img end bytes block (a ∷ rest) us h =
    let parts = both_parts img (data_block_visit end bytes (super_block_of (super_block_of_first block)).slots a) (first_visits end bytes (block + 1) rest) us h in
    let ans : Slot → ℕ = λ x. answer img (data_slot (get_or (a ∷ rest) x.0 undefined) (super_block_of (super_block_of_first (block + x.0))).slots x.1) in
    let one = data_apart img end bytes (super_block_of (super_block_of_first block)).slots a parts.first parts.of_first in
    let more = firsts_apart img end bytes (block + 1) rest parts.second parts.of_second in
    subst (λ (xs : List Used). Sep {K = Slot} bytes xs Always ans) parts.parts
    (sep_cons {K = ℕ} bytes parts.first parts.second Always ans
    (sep_as {K = ℕ} bytes parts.first Always (λ s. answer img (data_slot a (super_block_of (super_block_of_first block)).slots s)) (λ s. ans (zero, s))
    (λ s p. ap (λ j. answer img (data_slot a (super_block_of (super_block_of_first j)).slots s)) (let e : block + 0 ≡ block = omega arith in e)) one)
    (sep_as {K = Slot} bytes parts.second Always (λ x. answer img (data_slot (get_or rest x.0 undefined) (super_block_of (super_block_of_first ((block + 1) + x.0))).slots x.1)) (λ x. ans (suc x.0, x.1))
    (λ x p. ap (λ j. answer img (data_slot (get_or rest x.0 undefined) (super_block_of (super_block_of_first j)).slots x.1)) (let e : block + suc x.0 ≡ (block + 1) + x.0 = omega arith in e)) more))

-- a number, and a slot behind it
abbrev pub Deep : Type 0
Deep = ℕ × Slot

pub seconds_apart : (img : List ℕ) (end bytes sblock : ℕ) (places : List ℕ) (us : List Used) → eval img (second_visits end bytes sblock places) ≡ Ok us
    → Sep {K = Deep} bytes us (λ x. sblock + x.0 ≤ 12) (λ x. answer img (secondary_slot (get_or places x.0 undefined) (sblock + x.0) x.1.0 x.1.1))
seconds_apart img end bytes sblock [] us h =
    sep_nothing {K = Deep} bytes us (λ x. sblock + x.0 ≤ 12) (λ x. answer img (secondary_slot (get_or [] x.0 undefined) (sblock + x.0) x.1.0 x.1.1))
    (λ x p. ap (λ a. answer img (secondary_slot a (sblock + x.0) x.1.0 x.1.1)) (get_or_past [] x.0 undefined (omega arith)))
seconds_apart img end bytes sblock (a ∷ rest) us h = go (seconds_apart img end bytes (sblock + 1) rest) (by_place img us (nat_lt 12 sblock) (both (secondary_block_visit end bytes sblock a) (second_visits end bytes (sblock + 1) rest)) h)
  where
    past : nat_lt 12 sblock ≡ true → Sep {K = Deep} bytes us (λ x. sblock + x.0 ≤ 12) (λ x. answer img (secondary_slot (get_or (a ∷ rest) x.0 undefined) (sblock + x.0) x.1.0 x.1.1))
    past t = record { among = λ k p d. absurd (omega (arith, p, ltb-true 12 sblock t)); twice = λ j k p q n d e. absurd (omega (arith, p, ltb-true 12 sblock t)) }

    go : ((vs : List Used) → eval img (second_visits end bytes (sblock + 1) rest) ≡ Ok vs
        → Sep {K = Deep} bytes vs (λ x. (sblock + 1) + x.0 ≤ 12) (λ x. answer img (secondary_slot (get_or rest x.0 undefined) ((sblock + 1) + x.0) x.1.0 x.1.1)))
        → (nat_lt 12 sblock ≡ true) × ([] ≡ us) ⊎ (nat_lt 12 sblock ≡ false) × (eval img (both (secondary_block_visit end bytes sblock a) (second_visits end bytes (sblock + 1) rest)) ≡ Ok us)
        → Sep {K = Deep} bytes us (λ x. sblock + x.0 ≤ 12) (λ x. answer img (secondary_slot (get_or (a ∷ rest) x.0 undefined) (sblock + x.0) x.1.0 x.1.1))
    go later (inl t) = past t.0
    go later (inr t) =
        let parts = both_parts img (secondary_block_visit end bytes sblock a) (second_visits end bytes (sblock + 1) rest) us t.1 in
        let one = secondary_apart img end bytes sblock a parts.first parts.of_first in
        let more = later parts.second parts.of_second in
        let all : Deep → ℕ = λ x. answer img (secondary_slot (get_or (a ∷ rest) x.0 undefined) (sblock + x.0) x.1.0 x.1.1) in
        subst (λ (xs : List Used). Sep {K = Deep} bytes xs (λ x. sblock + x.0 ≤ 12) all) parts.parts
        (sep_cons {K = Slot} bytes parts.first parts.second (λ x. sblock + x.0 ≤ 12) all
        (sep_where {K = Slot} bytes parts.first Always (λ s. sblock + 0 ≤ 12) (λ s. all (zero, s)) (λ s p. tt)
        (sep_as {K = Slot} bytes parts.first Always (λ x. answer img (secondary_slot a sblock x.0 x.1)) (λ s. all (zero, s)) (λ s p. ap (λ j. answer img (secondary_slot a j s.0 s.1)) (let e : sblock + 0 ≡ sblock = omega arith in e)) one))
        (sep_where {K = Deep} bytes parts.second (λ x. (sblock + 1) + x.0 ≤ 12) (λ x. sblock + suc x.0 ≤ 12) (λ x. all (suc x.0, x.1)) (λ x p. omega (arith, p))
        (sep_as {K = Deep} bytes parts.second (λ x. (sblock + 1) + x.0 ≤ 12) (λ x. answer img (secondary_slot (get_or rest x.0 undefined) ((sblock + 1) + x.0) x.1.0 x.1.1)) (λ x. all (suc x.0, x.1))
        (λ x p. ap (λ j. answer img (secondary_slot (get_or rest x.0 undefined) j x.1.0 x.1.1)) (let e : sblock + suc x.0 ≡ (sblock + 1) + x.0 = omega arith in e)) more)))

-- ---- All slots of an array

pub slots_apart : (img : List ℕ) (end bytes : ℕ) (e : EaibFields) (us : List Used)
    → eval img (both (ret (chunk_ranges end bytes e.slots)) (both (first_visits end bytes 0 e.first) (second_visits end bytes 4 e.second))) ≡ Ok us → Sep {K = Place} bytes us IsNear (λ p. answer img (slot_of e p))
slots_apart img end bytes e us h =
    let parts = both_parts img (ret (chunk_ranges end bytes e.slots)) (both (first_visits end bytes 0 e.first) (second_visits end bytes 4 e.second)) us h in
    let blocks = both_parts img (first_visits end bytes 0 e.first) (second_visits end bytes 4 e.second) parts.second parts.of_second in
    let own = chunks_apart end bytes e.slots parts.first parts.of_first in
    let first = sep_as {K = Slot} bytes blocks.first Always (λ x. answer img (data_slot (get_or e.first x.0 undefined) (super_block_of (super_block_of_first (0 + x.0))).slots x.1)) (λ x. answer img (slot_of e (Direct x.0 x.1)))
    (λ x p. ap (λ j. answer img (data_slot (get_or e.first x.0 undefined) (super_block_of (super_block_of_first j)).slots x.1)) (let s : x.0 ≡ 0 + x.0 = omega arith in s)) (firsts_apart img end bytes 0 e.first blocks.first blocks.of_first) in
    let second = seconds_apart img end bytes 4 e.second blocks.second blocks.of_second in
    subst (λ (xs : List Used). Sep {K = Place} bytes xs IsNear (λ p. answer img (slot_of e p))) parts.parts
    (subst (λ (xs : List Used). Sep {K = Place} bytes (parts.first ++ xs) IsNear (λ p. answer img (slot_of e p))) blocks.parts
    (together img bytes e parts.first blocks.first blocks.second own first second))
  where
    together : (img : List ℕ) (bytes : ℕ) (e : EaibFields) (us vs ws : List Used) → Sep {K = ℕ} bytes us Always (slot_in e.slots) → Sep {K = Slot} bytes vs Always (λ x. answer img (slot_of e (Direct x.0 x.1)))
        → Sep {K = Deep} bytes ws (λ x. 4 + x.0 ≤ 12) (λ x. answer img (secondary_slot (get_or e.second x.0 undefined) (4 + x.0) x.1.0 x.1.1)) → Sep {K = Place} bytes (us ++ (vs ++ ws)) IsNear (λ p. answer img (slot_of e p))
    together img bytes e us vs ws a b c = record { among = among; twice = twice }
      where
        ans : Place → ℕ
        ans p = answer img (slot_of e p)

        number : (s : ℕ) → 4 ≤ s → 4 + (s - 4) ≡ s
        number s h = omega (arith, h)

        deep : (s x y : ℕ) → 4 ≤ s → answer img (slot_of e (Second s x y)) ≡ answer img (secondary_slot (get_or e.second (s - 4) undefined) (4 + (s - 4)) x y)
        deep s x y h = ap (λ j. answer img (secondary_slot (get_or e.second (s - 4) undefined) j x y)) (sym (number s h))

        among_c : (s x y : ℕ) → (4 ≤ s) × (s ≤ 12) → answer img (slot_of e (Second s x y)) ≢ undefined → Among (chunk_at (answer img (slot_of e (Second s x y))) bytes) ws
        among_c s x y near d =
            subst (λ n. Among (chunk_at n bytes) ws) (sym (deep s x y near.0)) (c.among (s - 4, (x, y)) (omega (arith, near.0, near.1)) (λ z. d (deep s x y near.0 ∙ z)))

        twice_c : (s x y r u v : ℕ) → (4 ≤ s) × (s ≤ 12) → (4 ≤ r) × (r ≤ 12) → Second s x y ≢ Second r u v → answer img (slot_of e (Second s x y)) ≢ undefined
            → answer img (slot_of e (Second r u v)) ≡ answer img (slot_of e (Second s x y)) → Twice (chunk_at (answer img (slot_of e (Second s x y))) bytes) ws
        twice_c s x y r u v near far n d same =
            subst (λ k. Twice (chunk_at k bytes) ws) (sym (deep s x y near.0))
            (c.twice (s - 4, (x, y)) (r - 4, (u, v)) (omega (arith, near.0, near.1)) (omega (arith, far.0, far.1)) (λ z. n (back z)) (λ z. d (deep s x y near.0 ∙ z)) (sym (deep r u v far.0) ∙ same ∙ deep s x y near.0))
          where
            from : Deep → Place
            from z = Second (4 + z.0) z.1.0 z.1.1

            back : ◌≡◌ {A = Deep} (s - 4, (x, y)) (r - 4, (u, v)) → Second s x y ≡ Second r u v
            back z = ap (λ k. Second k x y) (sym (number s near.0)) ∙ ap from z ∙ ap (λ k. Second k u v) (number r far.0)

        among : (p : Place) → IsNear p → answer img (slot_of e p) ≢ undefined → Among (chunk_at (answer img (slot_of e p)) bytes) (us ++ (vs ++ ws))
        among (Index s) near d = among_left (chunk_at (slot_in e.slots s) bytes) us (vs ++ ws) (a.among s tt d)
        among (Direct k s) near d = among_right (chunk_at (answer img (slot_of e (Direct k s))) bytes) us (vs ++ ws) (among_left (chunk_at (answer img (slot_of e (Direct k s))) bytes) vs ws (b.among (k, s) tt d))
        among (Second s x y) near d = among_right (chunk_at (answer img (slot_of e (Second s x y))) bytes) us (vs ++ ws) (among_right (chunk_at (answer img (slot_of e (Second s x y))) bytes) vs ws (among_c s x y near d))

        -- in two of the parts
        first_rest : (p q : Place) → IsNear q → Among (chunk_at (answer img (slot_of e p)) bytes) us → (Among (chunk_at (answer img (slot_of e q)) bytes) (vs ++ ws)) → answer img (slot_of e q) ≡ answer img (slot_of e p)
            → Twice (chunk_at (answer img (slot_of e p)) bytes) (us ++ (vs ++ ws))
        first_rest p q near x y same = twice_both (chunk_at (answer img (slot_of e p)) bytes) us (vs ++ ws) x (subst (λ n. Among (chunk_at n bytes) (vs ++ ws)) same y)

        second_third : (p q : Place) → Among (chunk_at (answer img (slot_of e p)) bytes) vs → Among (chunk_at (answer img (slot_of e q)) bytes) ws → answer img (slot_of e q) ≡ answer img (slot_of e p)
            → Twice (chunk_at (answer img (slot_of e p)) bytes) (us ++ (vs ++ ws))
        second_third p q x y same =
            twice_right (chunk_at (answer img (slot_of e p)) bytes) us (vs ++ ws) (twice_both (chunk_at (answer img (slot_of e p)) bytes) vs ws x (subst (λ n. Among (chunk_at n bytes) ws) same y))

        turned : (p q : Place) → answer img (slot_of e q) ≡ answer img (slot_of e p) → Twice (chunk_at (answer img (slot_of e q)) bytes) (us ++ (vs ++ ws)) → Twice (chunk_at (answer img (slot_of e p)) bytes) (us ++ (vs ++ ws))
        turned p q same t = subst (λ n. Twice (chunk_at n bytes) (us ++ (vs ++ ws))) same t

        twice : (p q : Place) → IsNear p → IsNear q → p ≢ q → answer img (slot_of e p) ≢ undefined → answer img (slot_of e q) ≡ answer img (slot_of e p) → Twice (chunk_at (answer img (slot_of e p)) bytes) (us ++ (vs ++ ws))
        twice (Index s) (Index r) near far n d same = twice_left (chunk_at (slot_in e.slots s) bytes) us (vs ++ ws) (a.twice s r tt tt (λ z. n (ap Index z)) d same)
        twice (Index s) (Direct k r) near far n d same =
            first_rest (Index s) (Direct k r) tt (a.among s tt d) (among_left (chunk_at (answer img (slot_of e (Direct k r))) bytes) vs ws (b.among (k, r) tt (λ z. d (sym same ∙ z)))) same
        twice (Index s) (Second r x y) near far n d same =
            first_rest (Index s) (Second r x y) far (a.among s tt d) (among_right (chunk_at (answer img (slot_of e (Second r x y))) bytes) vs ws (among_c r x y far (λ z. d (sym same ∙ z)))) same
        twice (Direct k r) (Index s) near far n d same =
            turned (Direct k r) (Index s) same (first_rest (Index s) (Direct k r) tt (a.among s tt (λ z. d (sym same ∙ z))) (among_left (chunk_at (answer img (slot_of e (Direct k r))) bytes) vs ws (b.among (k, r) tt d)) (sym same))
        twice (Direct k r) (Direct l s) near far n d same =
            twice_right (chunk_at (answer img (slot_of e (Direct k r))) bytes) us (vs ++ ws)
            (twice_left (chunk_at (answer img (slot_of e (Direct k r))) bytes) vs ws (b.twice (k, r) (l, s) tt tt (λ z. n (ap direct z)) d same))
          where
            direct : Slot → Place
            direct x = Direct x.0 x.1
        twice (Direct k r) (Second s x y) near far n d same = second_third (Direct k r) (Second s x y) (b.among (k, r) tt d) (among_c s x y far (λ z. d (sym same ∙ z))) same
        twice (Second s x y) (Index r) near far n d same =
            turned (Second s x y) (Index r) same (first_rest (Index r) (Second s x y) near (a.among r tt (λ z. d (sym same ∙ z))) (among_right (chunk_at (answer img (slot_of e (Second s x y))) bytes) vs ws (among_c s x y near d)) (sym same))
        twice (Second s x y) (Direct k r) near far n d same =
            turned (Second s x y) (Direct k r) same (second_third (Direct k r) (Second s x y) (b.among (k, r) tt (λ z. d (sym same ∙ z))) (among_c s x y near d) (sym same))
        twice (Second s x y) (Second r u v) near far n d same =
            twice_right (chunk_at (answer img (slot_of e (Second s x y))) bytes) us (vs ++ ws) (twice_right (chunk_at (answer img (slot_of e (Second s x y))) bytes) vs ws (twice_c s x y r u v near far n d same))

-- ---- Numbers of chunks by their places

first_of : (s b : ℕ) → s < 4 → b < (super_block_of s).blocks → super_block_of_first (blocks_before s + b) ≡ s
first_of zero zero low few = refl
first_of zero (suc b) low few = absurd (omega (arith, few))
first_of (suc zero) zero low few = refl
first_of (suc zero) (suc b) low few = absurd (omega (arith, few))
first_of (suc (suc zero)) zero low few = refl
first_of (suc (suc zero)) (suc zero) low few = refl
first_of (suc (suc zero)) (suc (suc b)) low few = absurd (omega (arith, few))
first_of (suc (suc (suc zero))) zero low few = refl
first_of (suc (suc (suc zero))) (suc zero) low few = refl
first_of (suc (suc (suc zero))) (suc (suc b)) low few = absurd (omega (arith, few))
first_of (suc (suc (suc (suc s)))) b low few = absurd (omega (arith, low))

-- the number of the slot of a super block
abbrev pub slot_number : ℕ → ℕ → ℕ → ℕ
slot_number s b t = 4 + ((super_block_of s).start + b * (super_block_of s).slots + t)

abbrev pub number_at : Place → ℕ
number_at (Index s) = s
number_at (Direct d t) = slot_number (super_block_of_first d) (d - blocks_before (super_block_of_first d)) t
number_at (Second s b t) = slot_number s b t

pub number_is : (i : ℕ) → i < 131060 → number_at (place_of i) ≡ i
number_is i low = go (cases_lt i 4)
  where
    p : SlotPlace
    p = slot_place_of (i - 4)

    stands : IsSlotPlace (i - 4) (slot_place_of (i - 4))
    stands = slot_place-stands (i - 4) (omega (arith, low))

    named : (t : Bool) → nat_lt (slot_place_of (i - 4)).sblock 4 ≡ t → number_at (cond t (Direct (blocks_before (slot_place_of (i - 4)).sblock + (slot_place_of (i - 4)).block) (slot_place_of (i - 4)).slot) (Second (slot_place_of (i - 4)).sblock (slot_place_of (i - 4)).block (slot_place_of (i - 4)).slot)) ≡ 4 + (i - 4)
    named false e = ap (λ n. 4 + n) stands.number
    named true e =
        let q = slot_place_of (i - 4) in
        let s = first_of q.sblock q.block (ltb-true q.sblock 4 e) stands.block_inside in
        ap (λ k. slot_number k ((blocks_before q.sblock + q.block) - blocks_before k) q.slot) s
        ∙ ap (λ k. slot_number q.sblock k q.slot) (let d : (blocks_before q.sblock + q.block) - blocks_before q.sblock ≡ q.block = omega arith in d)
        ∙ ap (λ n. 4 + n) stands.number

    go : (i < 4) ⊎ (4 ≤ i) → number_at (place_of i) ≡ i
    go (inl few) = ap number_at (cond-true (nat_lt i 4) (Index i) (named_place (slot_place_of (i - 4))) (lt-ltb i 4 few))
    go (inr far) =
        ap number_at (cond-false (nat_lt i 4) (Index i) (named_place (slot_place_of (i - 4))) (le-ltb i 4 far))
        ∙ named (nat_lt (slot_place_of (i - 4)).sblock 4) refl ∙ (let e : 4 + (i - 4) ≡ i = omega (arith, far) in e)

-- two chunk numbers that have one chunk are one
pub array_once : (img : List ℕ) (end bytes : ℕ) (e : EaibFields) (us : List Used) → Disjoint us
    → eval img (both (ret (chunk_ranges end bytes e.slots)) (both (first_visits end bytes 0 e.first) (second_visits end bytes 4 e.second))) ≡ Ok us → (i j a : ℕ) → i < 131060 → j < 131060 → a ≢ undefined
    → eval img (array_slot e i) ≡ Ok a → eval img (array_slot e j) ≡ Ok a → j ≡ i
array_once img end bytes e us apart h i j a low below defined x y = go (cases_eq i j)
  where
    s : Sep {K = Place} bytes us IsNear (λ p. answer img (slot_of e p))
    s = slots_apart img end bytes e us h

    go : (i ≡ j) ⊎ (i ≡ j → ⊥) → j ≡ i
    go (inl same) = sym same
    go (inr differ) =
        absurd (twice_never (chunk_at (answer img (array_slot e i)) bytes) us apart
        (s.twice (place_of i) (place_of j) (near_place i low) (near_place j below) (λ same. differ (sym (number_is i low) ∙ ap number_at same ∙ number_is j below))
        (λ none. defined (sym (ap address_in x) ∙ none)) (ap address_in y ∙ sym (ap address_in x))))
