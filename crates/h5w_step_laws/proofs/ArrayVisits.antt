-- What the check of an extensible array tells of its data blocks, secondary blocks and index block, and of each slot's look-up.
use Rattle.std.proofs.Common.{◌≡◌, ◌≢◌, ◌⊎◌, ℕ, zero, suc, ◌+◌, ◌-◌, ◌<◌, ◌≤◌, Bool, true, false, cond, List, [], ◌∷◌, ◌++◌, get_or, Result, Ok, Err, refl, sym, ◌∙◌, ap, subst, inl, inr, arith}
use Rattle.std.specs.Prelude.{◌==◌, nat_lt}
use Rattle.std.proofs.lemmas.Bool.{ltb-false, ltb-true, le-ltb}
use Rattle.std.proofs.lemmas.Bool.Decides.{eqb_tells}
use Rattle.std.proofs.lemmas.List.{get_or_past}
use Rattle.h5w_model.specs.Numbers.{range, undefined}
use Rattle.h5w_model.specs.Programs.{Prog, ret, stored, eval, visits}
use Rattle.h5w_model.specs.Arrays.{EaibFields, easb_at, eadb_at, slots_len, super_block_of, place_of}
use Rattle.h5w_model.specs.Datasets.{then_also, refused_as}
use Rattle.h5w_model.specs.Tables.{data_slot, secondary_slot, array_slot, super_block_of_first, data_block, secondary_block}
use Rattle.h5w_model.specs.Findings.{Finding, found, Used, Visited, block_in, both, visit_each, data_block_visit, secondary_block_visit, first_visits, second_visits, chunk_ranges, bad_data_block, bad_secondary_block, chunk_past_end}
use Rattle.h5w_model.specs.declared.cell.Place.{Place}
use Rattle.h5w_model.specs.declared.cell.Place.TheVariants.{Index, Direct, Second}
use Rattle.h5w_model.specs.declared.refusal.ReadError.{ReadError}
use Rattle.h5w_model.specs.declared.refusal.ReadError.TheVariants.{Damaged}
use Rattle.h5w_laws.proofs.ResultLemmas.{fails, then_ok, choice_ok}
use Rattle.h5w_laws.proofs.ReachLemmas.{IsNear, near_place}
use Rattle.h5w_laws.proofs.EndLemmas.{ranges_are, same_ranges}
use Rattle.h5w_step_laws.specs.Ranges.{Among, AllAmong, AllEndBy, AllSome, AllWithin, block_at, chunk_at}
use Rattle.h5w_step_laws.proofs.RangeLemmas.{among_left, among_right, ends_nil, ends_cons, some_nil, some_cons, within_more}
use Rattle.h5w_step_laws.proofs.VisitTells.{VisitTells, no_visit, told_nil, told_both, told_choice, told_other, told_one, told_block, both_parts, block_parts}

-- ---- A look-up

-- a program answers an address by looks within these ranges, and it is that of a chunk of them where it is defined
pub record Answers (img : List ℕ) (bytes : ℕ) (us : List Used) (p : Prog (Result ℕ ReadError)) : Type 0 where
  pub address : ℕ
  pub is : eval img p ≡ Ok address
  pub chunk : address ≢ undefined → Among (chunk_at address bytes) us
  pub within : AllWithin us (visits img p)

pub answers_more : (img : List ℕ) (bytes : ℕ) (us ws : List Used) (p : Prog (Result ℕ ReadError)) → AllAmong us ws → Answers img bytes us p → Answers img bytes ws p
answers_more img bytes us ws p more a =
    record { address = a.address; is = a.is; chunk = λ d. more (chunk_at a.address bytes) (a.chunk d); within = within_more us ws (visits img p) more a.within }

abbrev pub nothing : Prog (Result ℕ ReadError)
nothing = ret (Ok undefined)

pub answers_none : (img : List ℕ) (bytes : ℕ) (us : List Used) → Answers img bytes us nothing
answers_none img bytes us = record { address = undefined; is = refl; chunk = λ d. absurd (d refl); within = tt }

-- ---- Chunks

-- what the ranges of chunks at some addresses tell
pub record Chunks (end bytes : ℕ) (places : List ℕ) (us : List Used) : Type 0 where
  pub ends : AllEndBy end us
  pub some : 0 < bytes → AllSome us
  pub other : (new : ℕ) → AllEndBy new us → chunk_ranges new bytes places ≡ Ok us
  pub each : (k : ℕ) → get_or places k undefined ≢ undefined → Among (chunk_at (get_or places k undefined) bytes) us

pub no_chunks : (end bytes : ℕ) → Chunks end bytes [] []
no_chunks end bytes = record { ends = ends_nil end; some = λ h. some_nil; other = λ new h. refl; each = λ k d. absurd (d (get_or_past [] k undefined (omega arith))) }

-- the ranges with one address more, by whether it is defined and whether its chunk passes the end
abbrev pub one_more : Bool → Bool → ℕ → ℕ → Result (List Used) Finding → Result (List Used) Finding
one_more none past bytes a rest = cond none rest (cond past (Err (found chunk_past_end a)) (then_also rest (λ us. Ok (chunk_at a bytes ∷ us))))

-- with an address that is undefined
pub more_none : (end bytes a : ℕ) (rest : List ℕ) (us : List Used) → (a == undefined) ≡ true → a ≡ undefined → Chunks end bytes rest us → Chunks end bytes (a ∷ rest) us
more_none end bytes a rest us t e c = record {
  ends = c.ends;
  some = c.some;
  other = λ new h. ap (λ b. one_more b (nat_lt new (a + bytes)) bytes a (chunk_ranges new bytes rest)) t ∙ c.other new h;
  each = each;
}
  where
    each : (k : ℕ) → get_or (a ∷ rest) k undefined ≢ undefined → Among (chunk_at (get_or (a ∷ rest) k undefined) bytes) us
    each zero d = absurd (d e)
    each (suc k) d = c.each k d

-- with one that is defined
pub more_chunk : (end bytes a : ℕ) (rest : List ℕ) (vs us : List Used) → (a == undefined) ≡ false → a + bytes ≤ end → chunk_at a bytes ∷ vs ≡ us → Chunks end bytes rest vs → Chunks end bytes (a ∷ rest) us
more_chunk end bytes a rest vs us t fits parts c = subst (λ (xs : List Used). Chunks end bytes (a ∷ rest) xs) parts all
  where
    own : Used
    own = chunk_at a bytes

    each : (k : ℕ) → get_or (a ∷ rest) k undefined ≢ undefined → Among (chunk_at (get_or (a ∷ rest) k undefined) bytes) (chunk_at a bytes ∷ vs)
    each zero d = inl refl
    each (suc k) d = inr (c.each k d)

    all : Chunks end bytes (a ∷ rest) (chunk_at a bytes ∷ vs)
    all = record {
      ends = ends_cons end (chunk_at a bytes) vs fits c.ends;
      some = λ h. some_cons (chunk_at a bytes) vs h (c.some h);
      other = λ new h.
          ap (λ b. one_more b (nat_lt new (a + bytes)) bytes a (chunk_ranges new bytes rest)) t
          ∙ ap (λ b. one_more false b bytes a (chunk_ranges new bytes rest)) (le-ltb new (a + bytes) (h (chunk_at a bytes) (inl refl)))
          ∙ ap (λ r. one_more false false bytes a r) (c.other new (λ u m. h u (inr m)));
      each = each;
    }

pub chunks_known : (end bytes : ℕ) (places : List ℕ) (us : List Used) → chunk_ranges end bytes places ≡ Ok us → Chunks end bytes places us
chunks_known end bytes [] us h = subst (λ (xs : List Used). Chunks end bytes [] xs) (same_ranges [] us h) (no_chunks end bytes)
chunks_known end bytes (a ∷ rest) us h = go (chunks_known end bytes rest) (eqb_tells a undefined)
  where
    past : Bool
    past = nat_lt end (a + bytes)

    go : ((vs : List Used) → chunk_ranges end bytes rest ≡ Ok vs → Chunks end bytes rest vs)
        → ((a == undefined) ≡ true) × (a ≡ undefined) ⊎ ((a == undefined) ≡ false) × (a ≢ undefined) → Chunks end bytes (a ∷ rest) us
    go later (inl t) = more_none end bytes a rest us t.0 t.1
        (later us (ap (λ b. one_more b (nat_lt end (a + bytes)) bytes a (chunk_ranges end bytes rest)) (sym t.0) ∙ h))
    go later (inr t) =
        let f = fails (nat_lt end (a + bytes)) (then_also (chunk_ranges end bytes rest) (λ us. Ok (chunk_at a bytes ∷ us))) (found chunk_past_end a) us
        (ap (λ b. one_more b (nat_lt end (a + bytes)) bytes a (chunk_ranges end bytes rest)) (sym t.0) ∙ h) in
        let v = then_ok (chunk_ranges end bytes rest) (λ us. ranges_are (chunk_at a bytes ∷ us)) us f.1 in
        more_chunk end bytes a rest v.0 us t.0 (ltb-false end (a + bytes) f.0) (same_ranges (chunk_at a bytes ∷ v.0) us v.2) (later v.0 v.1)

pub chunks_told : (img : List ℕ) (end bytes : ℕ) (places : List ℕ) (us : List Used) → Chunks end bytes places us → VisitTells img end bytes (λ e. ret (chunk_ranges e bytes places)) us us
chunks_told img end bytes places us c = record { visited = tt; ends = c.ends; some = c.some; other = c.other }

-- ---- A data block

-- what a visit of a data block tells of it and of each slot
pub record DataBlock (img : List ℕ) (end bytes n place : ℕ) (us : List Used) : Type 0 where
  pub told : VisitTells img end bytes (λ e. data_block_visit e bytes n place) us us
  pub slots : (slot : ℕ) → Answers img bytes us (data_slot place n slot)

-- a look-up of nothing, and one that begins with a block
pub looked_none : (img : List ℕ) (bytes : ℕ) (us : List Used) (b : Bool) (q : Prog (Result ℕ ReadError)) → b ≡ true → Answers img bytes us (cond b nothing q)
looked_none img bytes us b q h = subst (λ (c : Bool). Answers img bytes us (cond c nothing q)) (sym h) (answers_none img bytes us)

pub looked_other : (img : List ℕ) (bytes : ℕ) (us : List Used) (b : Bool) (q : Prog (Result ℕ ReadError)) → b ≡ false → Answers img bytes us q → Answers img bytes us (cond b nothing q)
looked_other img bytes us b q h a = subst (λ (c : Bool). Answers img bytes us (cond c nothing q)) (sym h) a

pub looked_block : (img : List ℕ) (bytes kind place n len : ℕ) (us : List Used) (next : List ℕ → Prog (Result ℕ ReadError)) → len ≤ n → Among (block_at place n) us → Answers img bytes us (next (range img place len))
    → Answers img bytes us (stored kind place len next)
looked_block img bytes kind place n len us next low member a = record {
  address = a.address;
  is = a.is;
  chunk = a.chunk;
  within = (record { used = block_at place n; among = member; block = refl; from = omega arith; to = omega arith }, a.within);
}

-- one that goes on with what was decoded
pub looked_on : {A E : Type 0} (img : List ℕ) (bytes : ℕ) (us : List Used) (r : Result A E) (f : A → Prog (Result ℕ ReadError)) (g : E → ReadError) (a : A) → r ≡ Ok a → Answers img bytes us (f a)
    → Answers img bytes us (elim r as (λ _. Prog (Result ℕ ReadError)) [ Ok a ↦ f a | Err e ↦ ret (Err (g e)) ])
looked_on {A} {E} img bytes us r f g a h t =
    subst (λ (x : Result A E). Answers img bytes us (elim x as (λ _. Prog (Result ℕ ReadError)) [ Ok a ↦ f a | Err e ↦ ret (Err (g e)) ])) (sym h) t

-- one that says what was decoded
pub looked_last : {A E : Type 0} (img : List ℕ) (bytes : ℕ) (us : List Used) (r : Result A E) (f : A → ℕ) (g : E → ReadError) (a : A) → r ≡ Ok a → (f a ≢ undefined → Among (chunk_at (f a) bytes) us)
    → Answers img bytes us (ret (then_also (refused_as g r) (λ a. Ok (f a))))
looked_last {A} {E} img bytes us r f g a h t = record { address = f a; is = ap (λ (x : Result A E). then_also (refused_as g x) (λ a. Ok (f a))) h; chunk = t; within = tt }

pub data_there : (img : List ℕ) (end bytes n place : ℕ) (us : List Used) → (place == undefined) ≡ false
    → eval img (block_in end place (slots_len n) (λ b. elim (eadb_at b place n) as (λ _. Visited) [ Ok d ↦ ret (chunk_ranges end bytes d.slots) | Err f ↦ ret (Err (found bad_data_block place)) ])) ≡ Ok us
    → DataBlock img end bytes n place us
data_there img end bytes n place us t h =
    let visit : ℕ → List ℕ → Visited = λ e b. elim (eadb_at b place n) as (λ _. Visited) [ Ok d ↦ ret (chunk_ranges e bytes d.slots) | Err f ↦ ret (Err (found bad_data_block place)) ] in
    let block : ℕ → Visited = λ e. block_in e place (slots_len n) (visit e) in
    let b : List ℕ = range img place (slots_len n) in
    let in_block = block_parts img end place (slots_len n) (visit end) us h in
    let decoded = choice_ok img (eadb_at b place n) (λ d. ret (chunk_ranges end bytes d.slots)) (λ f. found bad_data_block place) in_block.behind in_block.of_behind in
    let chunks = chunks_known end bytes decoded.0.slots in_block.behind decoded.2 in
    let own : Used = block_at place (slots_len n) in
    record {
      told =
          told_other img end bytes (place == undefined) (λ e. no_visit) block us us t
          (told_block img end bytes place (slots_len n) visit in_block.behind us (omega arith) in_block.fits in_block.parts
          (told_choice img end bytes (eadb_at b place n) (λ e d. ret (chunk_ranges e bytes d.slots)) (λ f. found bad_data_block place) decoded.0 in_block.behind in_block.behind decoded.1
          (chunks_told img end bytes decoded.0.slots in_block.behind chunks)));
      slots = λ slot.
          let look : List ℕ → Prog (Result ℕ ReadError) = λ b. ret (then_also (refused_as (Damaged place) (eadb_at b place n)) (λ d. Ok (get_or d.slots slot undefined))) in
          looked_other img bytes us (place == undefined) (stored data_block place (slots_len n) look) t
          (subst (λ (xs : List Used). Answers img bytes xs (stored data_block place (slots_len n) look)) in_block.parts
          (looked_block img bytes data_block place (slots_len n) (slots_len n) (own ∷ in_block.behind) look (omega arith) (inl refl)
          (looked_last img bytes (own ∷ in_block.behind) (eadb_at b place n) (λ d. get_or d.slots slot undefined) (Damaged place) decoded.0 decoded.1 (λ d. inr (chunks.each slot d)))));
    }

-- a visit of nothing, or of what is there
pub by_place : (img : List ℕ) (us : List Used) (b : Bool) (q : Visited) → eval img (cond b no_visit q) ≡ Ok us → (b ≡ true) × ([] ≡ us) ⊎ (b ≡ false) × (eval img q ≡ Ok us)
by_place img us true q h = inl (refl, same_ranges [] us h)
by_place img us false q h = inr (refl, h)

pub told_none : (img : List ℕ) (end bytes : ℕ) (b : Bool) (q : ℕ → Visited) (us : List Used) → b ≡ true → [] ≡ us → VisitTells img end bytes (λ e. cond b no_visit (q e)) us us
told_none img end bytes b q us t e =
    subst (λ (xs : List Used). VisitTells img end bytes (λ e. cond b no_visit (q e)) xs xs) e (told_one img end bytes b (λ e. no_visit) q [] [] t (told_nil img end bytes))

pub data_known : (img : List ℕ) (end bytes n place : ℕ) (us : List Used) → eval img (data_block_visit end bytes n place) ≡ Ok us → DataBlock img end bytes n place us
data_known img end bytes n place us h = go (by_place img us (place == undefined) (block end) h)
  where
    block : ℕ → Visited
    block e = block_in e place (slots_len n) (λ b. elim (eadb_at b place n) as (λ _. Visited) [ Ok d ↦ ret (chunk_ranges e bytes d.slots) | Err f ↦ ret (Err (found bad_data_block place)) ])

    go : ((place == undefined) ≡ true) × ([] ≡ us) ⊎ ((place == undefined) ≡ false) × (eval img (block end) ≡ Ok us) → DataBlock img end bytes n place us
    go (inl t) = record {
      told = told_none img end bytes (place == undefined) block us t.0 t.1;
      slots = λ slot. looked_none img bytes us (place == undefined)
          (stored data_block place (slots_len n) (λ b. ret (then_also (refused_as (Damaged place) (eadb_at b place n)) (λ d. Ok (get_or d.slots slot undefined))))) t.0;
    }
    go (inr t) = data_there img end bytes n place us t.0 t.1

-- a slot of the block at an address of a list, all of which are visited
abbrev pub Slots : List ℕ → ℕ → List Used → ℕ → ℕ → Type 0
Slots img bytes us n place = (slot : ℕ) → Answers img bytes us (data_slot place n slot)

pub slots_more : (img : List ℕ) (bytes n place : ℕ) (us ws : List Used) → AllAmong us ws → Slots img bytes us n place → Slots img bytes ws n place
slots_more img bytes n place us ws more s slot = answers_more img bytes us ws (data_slot place n slot) more (s slot)

pub no_slots : (img : List ℕ) (bytes n k : ℕ) (us : List Used) → Slots img bytes us n (get_or [] k undefined)
no_slots img bytes n k us = subst (λ place. Slots img bytes us n place) (sym (get_or_past [] k undefined (omega arith))) (λ slot. answers_none img bytes us)

pub left_of : (us vs ws : List Used) → us ++ vs ≡ ws → AllAmong us ws
left_of us vs ws e u h = subst (λ (xs : List Used). Among u xs) e (among_left u us vs h)

pub right_of : (us vs ws : List Used) → us ++ vs ≡ ws → AllAmong vs ws
right_of us vs ws e u h = subst (λ (xs : List Used). Among u xs) e (among_right u us vs h)

-- ---- A secondary block

pub record DataBlocks (img : List ℕ) (end bytes n : ℕ) (places : List ℕ) (us : List Used) : Type 0 where
  pub told : VisitTells img end bytes (λ e. visit_each (data_block_visit e bytes n) places) us us
  pub each : (k : ℕ) → Slots img bytes us n (get_or places k undefined)

pub each_known : (img : List ℕ) (end bytes n : ℕ) (places : List ℕ) (us : List Used) → eval img (visit_each (data_block_visit end bytes n) places) ≡ Ok us → DataBlocks img end bytes n places us
each_known img end bytes n [] us h = record {
  told = subst (λ (xs : List Used). VisitTells img end bytes (λ e. no_visit) xs xs) (same_ranges [] us h) (told_nil img end bytes);
  each = λ k. no_slots img bytes n k us;
}
each_known img end bytes n (a ∷ rest) us h =
    let parts = both_parts img (data_block_visit end bytes n a) (visit_each (data_block_visit end bytes n) rest) us h in
    let one = data_known img end bytes n a parts.first parts.of_first in
    let more = each_known img end bytes n rest parts.second parts.of_second in
    record {
      told = told_both img end bytes (λ e. data_block_visit e bytes n a) (λ e. visit_each (data_block_visit e bytes n) rest) parts.first parts.second us parts.parts one.told more.told;
      each = each (slots_more img bytes n a parts.first us (left_of parts.first parts.second us parts.parts) one.slots)
          (λ k. slots_more img bytes n (get_or rest k undefined) parts.second us (right_of parts.first parts.second us parts.parts) (more.each k));
    }
  where
    each : Slots img bytes us n a → ((k : ℕ) → Slots img bytes us n (get_or rest k undefined)) → (k : ℕ) → Slots img bytes us n (get_or (a ∷ rest) k undefined)
    each one more zero = one
    each one more (suc k) = more k

pub record Secondary (img : List ℕ) (end bytes sblock place : ℕ) (us : List Used) : Type 0 where
  pub told : VisitTells img end bytes (λ e. secondary_block_visit e bytes sblock place) us us
  pub slots : (block slot : ℕ) → Answers img bytes us (secondary_slot place sblock block slot)

pub secondary_there : (img : List ℕ) (end bytes sblock place : ℕ) (us : List Used) → (place == undefined) ≡ false
    → eval img (block_in end place (slots_len (super_block_of sblock).blocks) (λ b. elim (easb_at b place (super_block_of sblock).blocks) as (λ _. Visited) [
      | Ok s ↦ visit_each (data_block_visit end bytes (super_block_of sblock).slots) s.slots
      | Err f ↦ ret (Err (found bad_secondary_block place))
    ])) ≡ Ok us
    → Secondary img end bytes sblock place us
secondary_there img end bytes sblock place us t h =
    let n : ℕ = (super_block_of sblock).blocks in
    let m : ℕ = (super_block_of sblock).slots in
    let visit : ℕ → List ℕ → Visited = λ e b. elim (easb_at b place n) as (λ _. Visited) [ Ok s ↦ visit_each (data_block_visit e bytes m) s.slots | Err f ↦ ret (Err (found bad_secondary_block place)) ] in
    let block : ℕ → Visited = λ e. block_in e place (slots_len n) (visit e) in
    let b : List ℕ = range img place (slots_len n) in
    let in_block = block_parts img end place (slots_len n) (visit end) us h in
    let decoded = choice_ok img (easb_at b place n) (λ s. visit_each (data_block_visit end bytes m) s.slots) (λ f. found bad_secondary_block place) in_block.behind in_block.of_behind in
    let blocks = each_known img end bytes m decoded.0.slots in_block.behind decoded.2 in
    let own : Used = block_at place (slots_len n) in
    let all : List Used = own ∷ in_block.behind in
    record {
      told =
          told_other img end bytes (place == undefined) (λ e. no_visit) block us us t
          (told_block img end bytes place (slots_len n) visit in_block.behind us (omega arith) in_block.fits in_block.parts
          (told_choice img end bytes (easb_at b place n) (λ e s. visit_each (data_block_visit e bytes m) s.slots) (λ f. found bad_secondary_block place) decoded.0 in_block.behind in_block.behind decoded.1 blocks.told));
      slots = λ k slot.
          let look : List ℕ → Prog (Result ℕ ReadError) = λ b. elim (easb_at b place n) as (λ _. Prog (Result ℕ ReadError)) [
            | Ok s ↦ data_slot (get_or s.slots k undefined) m slot
            | Err f ↦ ret (Err (Damaged place f))
          ] in
          looked_other img bytes us (place == undefined) (stored secondary_block place (slots_len n) look) t
          (subst (λ (xs : List Used). Answers img bytes xs (stored secondary_block place (slots_len n) look)) in_block.parts
          (looked_block img bytes secondary_block place (slots_len n) (slots_len n) all look (omega arith) (inl refl)
          (looked_on img bytes all (easb_at b place n) (λ s. data_slot (get_or s.slots k undefined) m slot) (Damaged place) decoded.0 decoded.1
          (slots_more img bytes m (get_or decoded.0.slots k undefined) in_block.behind all (λ u h. inr h) (blocks.each k) slot))));
    }

pub secondary_known : (img : List ℕ) (end bytes sblock place : ℕ) (us : List Used) → eval img (secondary_block_visit end bytes sblock place) ≡ Ok us → Secondary img end bytes sblock place us
secondary_known img end bytes sblock place us h = go (by_place img us (place == undefined) (block end) h)
  where
    block : ℕ → Visited
    block e = block_in e place (slots_len (super_block_of sblock).blocks) (λ b. elim (easb_at b place (super_block_of sblock).blocks) as (λ _. Visited) [
      | Ok s ↦ visit_each (data_block_visit e bytes (super_block_of sblock).slots) s.slots
      | Err f ↦ ret (Err (found bad_secondary_block place))
    ])

    go : ((place == undefined) ≡ true) × ([] ≡ us) ⊎ ((place == undefined) ≡ false) × (eval img (block end) ≡ Ok us) → Secondary img end bytes sblock place us
    go (inl t) = record {
      told = told_none img end bytes (place == undefined) block us t.0 t.1;
      slots = λ k slot. looked_none img bytes us (place == undefined)
          (stored secondary_block place (slots_len (super_block_of sblock).blocks) (λ b. elim (easb_at b place (super_block_of sblock).blocks) as (λ _. Prog (Result ℕ ReadError)) [
            | Ok s ↦ data_slot (get_or s.slots k undefined) (super_block_of sblock).slots slot
            | Err f ↦ ret (Err (Damaged place f))
          ])) t.0;
    }
    go (inr t) = secondary_there img end bytes sblock place us t.0 t.1

-- ---- The index block

-- the data blocks that it names
pub record Firsts (img : List ℕ) (end bytes block : ℕ) (places : List ℕ) (us : List Used) : Type 0 where
  pub told : VisitTells img end bytes (λ e. first_visits e bytes block places) us us
  pub each : (k : ℕ) → Slots img bytes us (super_block_of (super_block_of_first (block + k))).slots (get_or places k undefined)

pub firsts_known : (img : List ℕ) (end bytes block : ℕ) (places : List ℕ) (us : List Used) → eval img (first_visits end bytes block places) ≡ Ok us → Firsts img end bytes block places us
firsts_known img end bytes block [] us h = record {
  told = subst (λ (xs : List Used). VisitTells img end bytes (λ e. no_visit) xs xs) (same_ranges [] us h) (told_nil img end bytes);
  each = λ k. no_slots img bytes (super_block_of (super_block_of_first (block + k))).slots k us;
}
firsts_known img end bytes block (a ∷ rest) us h =
    let n : ℕ = (super_block_of (super_block_of_first block)).slots in
    let parts = both_parts img (data_block_visit end bytes n a) (first_visits end bytes (block + 1) rest) us h in
    let one = data_known img end bytes n a parts.first parts.of_first in
    let more = firsts_known img end bytes (block + 1) rest parts.second parts.of_second in
    record {
      told = told_both img end bytes (λ e. data_block_visit e bytes n a) (λ e. first_visits e bytes (block + 1) rest) parts.first parts.second us parts.parts one.told more.told;
      each = each (slots_more img bytes n a parts.first us (left_of parts.first parts.second us parts.parts) one.slots)
          (λ k. slots_more img bytes (super_block_of (super_block_of_first ((block + 1) + k))).slots (get_or rest k undefined) parts.second us (right_of parts.first parts.second us parts.parts) (more.each k));
    }
  where
    each : Slots img bytes us (super_block_of (super_block_of_first block)).slots a
        → ((k : ℕ) → Slots img bytes us (super_block_of (super_block_of_first ((block + 1) + k))).slots (get_or rest k undefined))
        → (k : ℕ) → Slots img bytes us (super_block_of (super_block_of_first (block + k))).slots (get_or (a ∷ rest) k undefined)
    each one more zero = let e : block ≡ block + 0 = omega arith in subst (λ j. Slots img bytes us (super_block_of (super_block_of_first j)).slots a) e one
    each one more (suc k) =
        let e : (block + 1) + k ≡ block + suc k = omega arith in
        subst (λ j. Slots img bytes us (super_block_of (super_block_of_first j)).slots (get_or rest k undefined)) e (more k)

-- a slot behind the secondary block at an address
abbrev pub Behind : List ℕ → ℕ → List Used → ℕ → ℕ → Type 0
Behind img bytes us sblock place = (block slot : ℕ) → Answers img bytes us (secondary_slot place sblock block slot)

pub behind_more : (img : List ℕ) (bytes sblock place : ℕ) (us ws : List Used) → AllAmong us ws → Behind img bytes us sblock place → Behind img bytes ws sblock place
behind_more img bytes sblock place us ws more s block slot = answers_more img bytes us ws (secondary_slot place sblock block slot) more (s block slot)

-- the secondary blocks that it names, those of super blocks up to 12
pub record Seconds (img : List ℕ) (end bytes sblock : ℕ) (places : List ℕ) (us : List Used) : Type 0 where
  pub told : VisitTells img end bytes (λ e. second_visits e bytes sblock places) us us
  pub each : (k : ℕ) → sblock + k ≤ 12 → Behind img bytes us (sblock + k) (get_or places k undefined)

pub seconds_known : (img : List ℕ) (end bytes sblock : ℕ) (places : List ℕ) (us : List Used) → eval img (second_visits end bytes sblock places) ≡ Ok us → Seconds img end bytes sblock places us
seconds_known img end bytes sblock [] us h = record {
  told = subst (λ (xs : List Used). VisitTells img end bytes (λ e. no_visit) xs xs) (same_ranges [] us h) (told_nil img end bytes);
  each = λ k low. subst (λ place. Behind img bytes us (sblock + k) place) (sym (get_or_past [] k undefined (omega arith))) (λ block slot. answers_none img bytes us);
}
seconds_known img end bytes sblock (a ∷ rest) us h = go (seconds_known img end bytes (sblock + 1) rest) (by_place img us (nat_lt 12 sblock) (more end) h)
  where
    more : ℕ → Visited
    more e = both (secondary_block_visit e bytes sblock a) (second_visits e bytes (sblock + 1) rest)

    each : Behind img bytes us sblock a → ((k : ℕ) → (sblock + 1) + k ≤ 12 → Behind img bytes us ((sblock + 1) + k) (get_or rest k undefined))
        → (k : ℕ) → sblock + k ≤ 12 → Behind img bytes us (sblock + k) (get_or (a ∷ rest) k undefined)
    each one later zero low = let e : sblock ≡ sblock + 0 = omega arith in subst (λ j. Behind img bytes us j a) e one
    each one later (suc k) low =
        let e : (sblock + 1) + k ≡ sblock + suc k = omega arith in
        subst (λ j. Behind img bytes us j (get_or rest k undefined)) e (later k (omega arith))

    go : ((vs : List Used) → eval img (second_visits end bytes (sblock + 1) rest) ≡ Ok vs → Seconds img end bytes (sblock + 1) rest vs)
        → (nat_lt 12 sblock ≡ true) × ([] ≡ us) ⊎ (nat_lt 12 sblock ≡ false) × (eval img (more end) ≡ Ok us) → Seconds img end bytes sblock (a ∷ rest) us
    go later (inl t) = record {
      told = told_none img end bytes (nat_lt 12 sblock) more us t.0 t.1;
      each = λ k low. absurd (omega (arith, low, ltb-true 12 sblock t.0));
    }
    go later (inr t) =
        let parts = both_parts img (secondary_block_visit end bytes sblock a) (second_visits end bytes (sblock + 1) rest) us t.1 in
        let one = secondary_known img end bytes sblock a parts.first parts.of_first in
        let others = later parts.second parts.of_second in
        record {
          told = told_other img end bytes (nat_lt 12 sblock) (λ e. no_visit) more us us t.0
              (told_both img end bytes (λ e. secondary_block_visit e bytes sblock a) (λ e. second_visits e bytes (sblock + 1) rest) parts.first parts.second us parts.parts one.told others.told);
          each = each (behind_more img bytes sblock a parts.first us (left_of parts.first parts.second us parts.parts) one.slots)
              (λ k low. behind_more img bytes ((sblock + 1) + k) (get_or rest k undefined) parts.second us (right_of parts.first parts.second us parts.parts) (others.each k low));
        }

-- what a visit behind an index block tells
pub record InArray (img : List ℕ) (end bytes : ℕ) (e : EaibFields) (us : List Used) : Type 0 where
  pub told : VisitTells img end bytes (λ x. both (ret (chunk_ranges x bytes e.slots)) (both (first_visits x bytes 0 e.first) (second_visits x bytes 4 e.second))) us us
  pub slots : (i : ℕ) → i < 131060 → Answers img bytes us (array_slot e i)

pub slot_from : (img : List ℕ) (bytes : ℕ) (us : List Used) (e : EaibFields)
    → ((k : ℕ) → get_or e.slots k undefined ≢ undefined → Among (chunk_at (get_or e.slots k undefined) bytes) us)
    → ((k : ℕ) → Slots img bytes us (super_block_of (super_block_of_first (0 + k))).slots (get_or e.first k undefined))
    → ((k : ℕ) → 4 + k ≤ 12 → Behind img bytes us (4 + k) (get_or e.second k undefined))
    → (place : Place) → IsNear place
    → Answers img bytes us (elim place as (λ _. Prog (Result ℕ ReadError)) [
      | Index slot ↦ ret (Ok (get_or e.slots slot undefined))
      | Direct block slot ↦ data_slot (get_or e.first block undefined) (super_block_of (super_block_of_first block)).slots slot
      | Second sblock block slot ↦ secondary_slot (get_or e.second (sblock - 4) undefined) sblock block slot
    ])
slot_from img bytes us e own first second (Index slot) near = record { address = get_or e.slots slot undefined; is = refl; chunk = own slot; within = tt }
slot_from img bytes us e own first second (Direct block slot) near =
    let same : 0 + block ≡ block = omega arith in
    subst (λ j. Slots img bytes us (super_block_of (super_block_of_first j)).slots (get_or e.first block undefined)) same (first block) slot
slot_from img bytes us e own first second (Second sblock block slot) near =
    let same : 4 + (sblock - 4) ≡ sblock = omega (arith, near.0) in
    subst (λ j. Behind img bytes us j (get_or e.second (sblock - 4) undefined)) same (second (sblock - 4) (omega (arith, near.0, near.1))) block slot

pub array_known : (img : List ℕ) (end bytes : ℕ) (e : EaibFields) (us : List Used)
    → eval img (both (ret (chunk_ranges end bytes e.slots)) (both (first_visits end bytes 0 e.first) (second_visits end bytes 4 e.second))) ≡ Ok us → InArray img end bytes e us
array_known img end bytes e us h =
    let parts = both_parts img (ret (chunk_ranges end bytes e.slots)) (both (first_visits end bytes 0 e.first) (second_visits end bytes 4 e.second)) us h in
    let blocks = both_parts img (first_visits end bytes 0 e.first) (second_visits end bytes 4 e.second) parts.second parts.of_second in
    let chunks = chunks_known end bytes e.slots parts.first parts.of_first in
    let firsts = firsts_known img end bytes 0 e.first blocks.first blocks.of_first in
    let seconds = seconds_known img end bytes 4 e.second blocks.second blocks.of_second in
    let behind : AllAmong parts.second us = right_of parts.first parts.second us parts.parts in
    let in_first : AllAmong blocks.first us = λ u h. behind u (left_of blocks.first blocks.second parts.second blocks.parts u h) in
    let in_second : AllAmong blocks.second us = λ u h. behind u (right_of blocks.first blocks.second parts.second blocks.parts u h) in
    record {
      told =
          told_both img end bytes (λ x. ret (chunk_ranges x bytes e.slots)) (λ x. both (first_visits x bytes 0 e.first) (second_visits x bytes 4 e.second)) parts.first parts.second us parts.parts
          (chunks_told img end bytes e.slots parts.first chunks)
          (told_both img end bytes (λ x. first_visits x bytes 0 e.first) (λ x. second_visits x bytes 4 e.second) blocks.first blocks.second parts.second blocks.parts firsts.told seconds.told);
      slots = λ i low.
          slot_from img bytes us e
          (λ k d. left_of parts.first parts.second us parts.parts (chunk_at (get_or e.slots k undefined) bytes) (chunks.each k d))
          (λ k. slots_more img bytes (super_block_of (super_block_of_first (0 + k))).slots (get_or e.first k undefined) blocks.first us in_first (firsts.each k))
          (λ k l. behind_more img bytes (4 + k) (get_or e.second k undefined) blocks.second us in_second (seconds.each k l))
          (place_of i) (near_place i low);
    }
