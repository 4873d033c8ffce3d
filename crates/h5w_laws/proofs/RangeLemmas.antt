-- The ranges of a valid file are apart, within its end, and with the lost bytes make it.
use Rattle.std.proofs.Common.{◌≡◌, ◌≢◌, ◌⊎◌, ℕ, zero, suc, ◌+◌, ◌<◌, ◌≤◌, Bool, false, not, cond, List, [], ◌∷◌, ◌++◌, length, Option, Some, None, Result, Ok, Err, refl, sym, ◌∙◌, ap, subst, inl, inr, append_assoc, arith}
use Rattle.std.specs.Prelude.{nat_lt}
use Rattle.std.proofs.lemmas.Bool.{ltb-false}
use Rattle.std.proofs.lemmas.List.{append-nil}
use Rattle.h5w_model.specs.Numbers.{range}
use Rattle.h5w_model.specs.Programs.{Prog, ret, whole, eval, and_then}
use Rattle.h5w_model.specs.Superblock.{super_at}
use Rattle.h5w_model.specs.Headers.{header_view}
use Rattle.h5w_model.specs.Datasets.{FoundMessage, HeaderFields, Range, Described, walk, block_place, block_len, block_messages, header_refusal, root_header, linked, dataset_messages, described, is_swmr, then_also, refused_as}
use Rattle.h5w_model.specs.Tables.{limit_of, format_limits, needed}
use Rattle.h5w_model.specs.Findings.{Finding, found, Used, Visited, Summary, the_superblock, checked_super, checked_root, checked_dataset, header_ranges, index_visit, super_finding, dataset_finding, verdict, summary, overlap_of, by_place, bad_root, no_link, half_flagged, cut_off, unsupported_dataset, too_many_chunks, block_past_end}
use Rattle.h5w_model.specs.declared.root.Super.{Super}
use Rattle.h5w_model.specs.declared.refusal.ReadError.{ReadError}
use Rattle.h5w_model.specs.declared.refusal.ReadError.TheVariants.{Header}
use Rattle.h5w_model.specs.declared.refusal.HeaderError.TheVariants as header_errors
use Rattle.h5w_laws.specs.Ranges.{EndsBy, AreApart, AllApart, collected, HasRanges, ValidRanges}
use Rattle.h5w_laws.proofs.ProgramLemmas.{eval_bind}
use Rattle.h5w_laws.proofs.ResultLemmas.{then_ok, fails, and_then_ok, and_then_from, choice_ok}
use Rattle.h5w_laws.proofs.SlotLemmas.{by_test}
use Rattle.h5w_laws.proofs.SpliceLemmas.{by_order, as_read, as_refused, no_answer, same_fields}
use Rattle.h5w_laws.proofs.PrefixLemmas.{begins}
use Rattle.h5w_laws.proofs.DatasetReads.{root_walked}
use Rattle.h5w_laws.proofs.ApartLemmas.{all_joined, apart_all, length_all}
use Rattle.h5w_laws.proofs.EndLemmas.{AllEnd, same_ranges, header_ends, index_end}

-- ---- The first range of a header

-- the ranges that a walk began with stay in front
abbrev Begun : List Range → HeaderFields → Type 0
Begun visited h = (rest : List Range) × (h.ranges ≡ visited ++ rest)

abbrev WalkBegun : List ℕ → ℕ → Bool → ℕ → Type 0
WalkBegun img header tracked most =
    (visited : List Range) (done ms : List FoundMessage) (h : HeaderFields) → eval img (walk most header tracked visited done ms) ≡ Ok h → Begun visited h

begun_end : (done : List FoundMessage) (visited : List Range) (h : HeaderFields) → as_read (record { messages = done; ranges = visited }) ≡ as_read h → Begun visited h
begun_end done visited h e = ([], ap (λ (f : HeaderFields). f.ranges) (same_fields (record { messages = done; ranges = visited }) h e) ∙ sym (append-nil visited))

begun_zero : (img : List ℕ) (header : ℕ) (tracked : Bool) (visited : List Range) (ms done : List FoundMessage) (h : HeaderFields) → eval img (walk zero header tracked visited done ms) ≡ Ok h → Begun visited h
begun_zero img header tracked visited [] done h e = begun_end done visited h e
begun_zero img header tracked visited (m ∷ ms) done h e =
    go (λ d. begun_zero img header tracked visited ms d h) (by_test img m.kind 0x10 (ret (as_refused (Header header header_errors.Continuations))) (walk zero header tracked visited (done ++ m ∷ []) ms) (Ok h) e)
  where
    go : ((d : List FoundMessage) → eval img (walk zero header tracked visited d ms) ≡ Ok h → Begun visited h)
        → (m.kind ≡ 0x10) × (as_refused (Header header header_errors.Continuations) ≡ as_read h) ⊎ (m.kind ≢ 0x10) × (eval img (walk zero header tracked visited (done ++ m ∷ []) ms) ≡ as_read h) → Begun visited h
    go again (inl t) = no_answer (Header header header_errors.Continuations) h t.1
    go again (inr t) = again (done ++ m ∷ []) t.1

-- one range more
begun_more : (visited : List Range) (r : Range) (h : HeaderFields) → Begun (visited ++ r ∷ []) h → Begun visited h
begun_more visited r h b = (r ∷ b.0, b.1 ∙ append_assoc visited (r ∷ []) b.0)

abbrev this_block : FoundMessage → Range
this_block m = record { place = block_place m; len = block_len m }

-- what the walk does at a continuation
abbrev block_walk : ℕ → ℕ → Bool → List Range → List FoundMessage → FoundMessage → List FoundMessage → Prog (Result HeaderFields ReadError)
block_walk more header tracked visited done m ms =
    cond (nat_lt (block_len m) 8) (ret (as_refused (header_refusal (block_place m) (header_errors.Short 8 (block_len m)))))
    (whole (block_place m) (block_len m) (λ b.
    elim (block_messages tracked (block_place m) (block_len m) b) as (λ _. Prog (Result HeaderFields ReadError)) [
      | Ok inside ↦ walk more header tracked (visited ++ this_block m ∷ []) done (inside ++ ms)
      | Err e ↦ ret (as_refused e)
    ]))

begun_block : (img : List ℕ) (more header : ℕ) (tracked : Bool) (visited : List Range) (done : List FoundMessage) (m : FoundMessage) (ms : List FoundMessage) (h : HeaderFields)
    → WalkBegun img header tracked more → eval img (block_walk more header tracked visited done m ms) ≡ Ok h → Begun visited h
begun_block img more header tracked visited done m ms h begun e =
    go (by_order img (block_len m) 8 (ret (as_refused (header_refusal (block_place m) (header_errors.Short 8 (block_len m)))))
    (whole (block_place m) (block_len m) (λ b.
    elim (block_messages tracked (block_place m) (block_len m) b) as (λ _. Prog (Result HeaderFields ReadError)) [
      | Ok inside ↦ walk more header tracked (visited ++ this_block m ∷ []) done (inside ++ ms)
      | Err e ↦ ret (as_refused e)
    ])) (Ok h) e)
  where
    go : (block_len m < 8) × (as_refused (header_refusal (block_place m) (header_errors.Short 8 (block_len m))) ≡ as_read h)
        ⊎ (8 ≤ block_len m)
        × (eval img (elim (block_messages tracked (block_place m) (block_len m) (range img (block_place m) (block_len m))) as (λ _. Prog (Result HeaderFields ReadError)) [
          | Ok inside ↦ walk more header tracked (visited ++ this_block m ∷ []) done (inside ++ ms)
          | Err e ↦ ret (as_refused e)
        ]) ≡ as_read h)
        → Begun visited h
    go (inl t) = no_answer (header_refusal (block_place m) (header_errors.Short 8 (block_len m))) h t.1
    go (inr t) =
        let b = choice_ok img (block_messages tracked (block_place m) (block_len m) (range img (block_place m) (block_len m)))
        (λ (inside : List FoundMessage). walk more header tracked (visited ++ this_block m ∷ []) done (inside ++ ms)) (λ (e : ReadError). e) h t.1 in
        begun_more visited (this_block m) h (begun (visited ++ this_block m ∷ []) done (b.0 ++ ms) h b.2)

begun_suc : (img : List ℕ) (more header : ℕ) (tracked : Bool) → WalkBegun img header tracked more → (visited : List Range) (ms done : List FoundMessage) (h : HeaderFields)
    → eval img (walk (suc more) header tracked visited done ms) ≡ Ok h → Begun visited h
begun_suc img more header tracked begun visited [] done h e = begun_end done visited h e
begun_suc img more header tracked begun visited (m ∷ ms) done h e =
    go (λ d. begun_suc img more header tracked begun visited ms d h)
    (by_test img m.kind 0x10 (block_walk more header tracked visited done m ms) (walk (suc more) header tracked visited (done ++ m ∷ []) ms) (Ok h) e)
  where
    go : ((d : List FoundMessage) → eval img (walk (suc more) header tracked visited d ms) ≡ Ok h → Begun visited h)
        → (m.kind ≡ 0x10) × (eval img (block_walk more header tracked visited done m ms) ≡ as_read h) ⊎ (m.kind ≢ 0x10) × (eval img (walk (suc more) header tracked visited (done ++ m ∷ []) ms) ≡ as_read h) → Begun visited h
    go again (inl t) = begun_block img more header tracked visited done m ms h begun t.1
    go again (inr t) = again (done ++ m ∷ []) t.1

walk_begun : (img : List ℕ) (header : ℕ) (tracked : Bool) (most : ℕ) → WalkBegun img header tracked most
walk_begun img header tracked zero visited done ms h e = begun_zero img header tracked visited ms done h e
walk_begun img header tracked (suc more) visited done ms h e = begun_suc img more header tracked (walk_begun img header tracked more) visited ms done h e

-- a header's first range is its chunk 0, which is not empty
pub record HasFirst (h : HeaderFields) : Type 0 where
  first : Range
  rest : List Range
  are : h.ranges ≡ first ∷ rest
  some : 0 < first.len

pub root_first : (img : List ℕ) (place : ℕ) (h : HeaderFields) → eval img (root_header place) ≡ Ok h → HasFirst h
root_first img place h e =
    let w = root_walked img place h e in
    let b = begins (range img place (w.0.total)) w.0 w.2 in
    let low = b.low in
    let inside = b.inside in
    let begun = walk_begun img place w.0.tracked 32 (record { place = place; len = w.0.total } ∷ []) [] w.1 h w.3 in
    record { first = record { place = place; len = w.0.total }; rest = begun.0; are = begun.1; some = omega arith }

-- ---- What the check collects

-- a range within an end that is not empty, and apart from the superblock
pub record IsBehind (end : ℕ) (us : List Used) : Type 0 where
  first : Used
  rest : List Used
  are : us ≡ first ∷ rest
  some : 0 < first.len

pub first_used : (end : ℕ) (h : HeaderFields) (us : List Used) → HasFirst h → header_ranges end h.ranges ≡ Ok us → IsBehind end us
first_used end h us f e =
    let r = f.first in
    let own : Used = record { place = r.place; len = r.len; chunk = false } in
    let there : header_ranges end (f.first ∷ f.rest) ≡ Ok us = ap (header_ranges end) (sym f.are) ∙ e in
    let g = fails (nat_lt end (r.place + r.len)) (then_also (header_ranges end f.rest) (λ vs. Ok (own ∷ vs))) (found block_past_end r.place) us there in
    let t = then_ok (header_ranges end f.rest) (λ vs. Ok (own ∷ vs)) us g.1 in
    record { first = own; rest = t.0; are = sym (same_ranges (own ∷ t.0) us t.2); some = f.some }

abbrev pub of_root : ℕ × List Used → Result (ℕ × List Used) Finding
of_root t = Ok t

same_root : (t v : ℕ × List Used) → of_root t ≡ of_root v → t ≡ v
same_root t v h = cc

abbrev of_dataset : Described × List Used → Result (Described × List Used) Finding
of_dataset t = Ok t

same_dataset : (t v : Described × List Used) → of_dataset t ≡ of_dataset v → t ≡ v
same_dataset t v h = cc

root_ranges : (img name : List ℕ) (s : Super) (root : ℕ × List Used) → eval img (checked_root name s) ≡ Ok root → AllEnd s.end root.1 × IsBehind s.end root.1
root_ranges img name s root h =
    let r = eval img (root_header s.root) in
    let last : HeaderFields → List Used → Result (ℕ × List Used) Finding = λ h us. then_also (refused_as (λ e. found no_link s.root) (linked name h.messages)) (λ at. of_root (at, us)) in
    let mid : HeaderFields → Result (ℕ × List Used) Finding = λ h. then_also (header_ranges s.end h.ranges) (last h) in
    let header = then_ok (refused_as (λ e. found bad_root s.root) r) mid root
    (sym (eval_bind img (root_header s.root) (λ r. ret (then_also (refused_as (λ e. found bad_root s.root) r) mid))) ∙ h) in
    let ranges = then_ok (header_ranges s.end header.0.ranges) (last header.0) root header.2 in
    let link = then_ok (refused_as (λ e. found no_link s.root) (linked name header.0.messages)) (λ at. of_root (at, ranges.0)) root ranges.2 in
    let same : ranges.0 ≡ root.1 = ap (λ (t : ℕ × List Used). t.1) (same_root (link.0, ranges.0) root link.2) in
    let first = root_first img s.root header.0 (refused_header s.root r header.0 header.1) in
    (subst (AllEnd s.end) same (header_ends s.end header.0.ranges ranges.0 ranges.1), subst (IsBehind s.end) same (first_used s.end header.0 ranges.0 first ranges.1))
  where
    refused_header : (place : ℕ) (r : Result HeaderFields ReadError) (h : HeaderFields) → refused_as (λ e. found bad_root place) r ≡ Ok h → r ≡ Ok h
    refused_header place (Ok x) h e = cc
    refused_header place (Err f) h e = cc

pub dataset_ranges : (img : List ℕ) (s : Super) (place : ℕ) (d : Described × List Used) → eval img (checked_dataset format_limits s place) ≡ Ok d → AllEnd s.end d.1
dataset_ranges img s place d h =
    let b = header_view (range img place 512) in
    let r = eval img (dataset_messages place b) in
    let inner : List Used → Described → Result (Described × List Used) Finding = λ us d. cond (nat_lt (limit_of format_limits d.layout.index) (needed d)) (Err (found too_many_chunks place)) (of_dataset (d, us)) in
    let last : HeaderFields → List Used → Result (Described × List Used) Finding = λ h us. then_also (refused_as (λ e. found unsupported_dataset place) (described h.messages)) (inner us) in
    let mid : HeaderFields → Result (Described × List Used) Finding = λ h. then_also (header_ranges s.end h.ranges) (last h) in
    let header = then_ok (refused_as (dataset_finding place) r) mid d
    (sym (eval_bind img (dataset_messages place b) (λ r. ret (then_also (refused_as (dataset_finding place) r) mid))) ∙ h) in
    let ranges = then_ok (header_ranges s.end header.0.ranges) (last header.0) d header.2 in
    let said = then_ok (refused_as (λ e. found unsupported_dataset place) (described header.0.messages)) (inner ranges.0) d ranges.2 in
    let within = fails (nat_lt (limit_of format_limits said.0.layout.index) (needed said.0)) (of_dataset (said.0, ranges.0)) (found too_many_chunks place) d said.2 in
    let same : ranges.0 ≡ d.1 = ap (λ (t : Described × List Used). t.1) (same_dataset (said.0, ranges.0) d within.1) in
    subst (AllEnd s.end) same (header_ends s.end header.0.ranges ranges.0 ranges.1)

abbrev of_super : Super → Result Super Finding
of_super s = Ok s

same_super : (s t : Super) → of_super s ≡ of_super t → s ≡ t
same_super s t h = cc

pub super_ends : (size : ℕ) (b : List ℕ) (s : Super) → checked_super size b ≡ Ok s → s.end ≤ size
super_ends size b s h =
    let later : Super → Result Super Finding = λ t. cond (nat_lt size t.end) (Err (found cut_off 0)) (of_super t) in
    let read = then_ok (refused_as super_finding (super_at b)) (λ t. cond (not (is_swmr t)) (Err (found half_flagged 0)) (later t)) s h in
    let swmr = fails (not (is_swmr read.0)) (later read.0) (found half_flagged 0) s read.2 in
    let enough = fails (nat_lt size read.0.end) (of_super read.0) (found cut_off 0) s swmr.1 in
    subst (λ (t : Super). t.end ≤ size) (same_super read.0 s enough.1) (ltb-false size read.0.end enough.0)

-- ---- The verdict

abbrev of_summary : Summary → Result Summary Finding
of_summary sm = Ok sm

same_summary : (s t : Summary) → of_summary s ≡ of_summary t → s ≡ t
same_summary s t h = cc

verdict_ok : (s : Super) (d : Described) (us : List Used) (sm : Summary) → verdict s d us ≡ Ok sm → (overlap_of (by_place us) ≡ None) × (summary s d us ≡ sm)
verdict_ok s d us sm h = go (overlap_of (by_place us)) refl h
  where
    go : (o : Option Finding) → overlap_of (by_place us) ≡ o → elim o as (λ _. Result Summary Finding) [ None ↦ Ok (summary s d us) | Some f ↦ Err f ] ≡ of_summary sm
        → (overlap_of (by_place us) ≡ None) × (summary s d us ≡ sm)
    go None e g = (e, same_summary (summary s d us) sm g)
    go (Some f) e g = cc

-- the superblock ends by the end-of-file address, since a range that is not empty does so and is apart from it
pub super_within : (end : ℕ) (us rest : List Used) → IsBehind end us → AllEnd end us → AllApart (the_superblock ∷ us ++ rest) → 48 ≤ end
super_within end us rest b ends apart =
    let within : AllEnd end (b.first ∷ b.rest) = subst (AllEnd end) b.are ends in
    let off : AllApart (the_superblock ∷ (b.first ∷ b.rest) ++ rest) = subst (λ (vs : List Used). AllApart (the_superblock ∷ vs ++ rest)) b.are apart in
    go off.0.0 within.0 b.some
  where
    go : AreApart the_superblock b.first → EndsBy end b.first → 0 < b.first.len → 48 ≤ end
    go (inl h) low some = omega (arith, h, low)
    go (inr h) low some = absurd (omega (arith, h, some))

-- all ranges, in the order of visit
abbrev all_ranges : List Used → List Used → List Used → List Used
all_ranges root data_of us = the_superblock ∷ root ++ data_of ++ us

all_within : (end : ℕ) (root data_of us : List Used) → 48 ≤ end → AllEnd end root → AllEnd end data_of → AllEnd end us → AllEnd end (all_ranges root data_of us)
all_within end root data_of us low h g f = (low, all_joined (EndsBy end) (root ++ data_of) us (all_joined (EndsBy end) root data_of h g) f)

-- the summary of ranges of which none overlaps
summed : (img name : List ℕ) (s : Super) (d : Described) (root data_of us : List Used) → eval img (collected format_limits name (length img)) ≡ Ok (all_ranges root data_of us) → s.end ≤ length img
    → AllEnd s.end root → IsBehind s.end root → AllEnd s.end data_of → AllEnd s.end us → overlap_of (by_place (all_ranges root data_of us)) ≡ None → HasRanges img name (summary s d (all_ranges root data_of us))
summed img name s d root data_of us are enough h b g f alone =
    let ranges = all_ranges root data_of us in
    let apart = apart_all ranges alone in
    let order : ranges ≡ the_superblock ∷ root ++ (data_of ++ us) = ap (λ (vs : List Used). the_superblock ∷ vs) (append_assoc root data_of us) in
    let low = super_within s.end root (data_of ++ us) b h (subst AllApart order apart) in
    let within = all_within s.end root data_of us low h g f in
    record {
      ranges = ranges;
      are = are;
      apart = apart;
      within = within;
      made = omega (arith, length_all s.end ranges alone within);
      complete = enough;
      chunks = refl;
      blocks = refl;
    }

pub valid_ranges : ValidRanges
valid_ranges img name sm valid =
    let size = length img in
    let b = range img 0 48 in
    let from_dataset : Super → (ℕ × List Used) → (Described × List Used) → Visited = λ s root d. and_then (index_visit s.end d.0) (λ us. ret (Ok (all_ranges root.1 d.1 us))) in
    let from_root : Super → (ℕ × List Used) → Visited = λ s root. and_then (checked_dataset format_limits s root.0) (λ d. from_dataset s root d) in
    let from_super : Super → Visited = λ s. and_then (checked_root name s) (λ root. from_root s root) in
    let super = and_then_ok img (ret (checked_super size b)) (λ s.
    and_then (checked_root name s) (λ root.
    and_then (checked_dataset format_limits s root.0) (λ d.
    and_then (index_visit s.end d.0) (λ us.
    ret (verdict s d.0 (all_ranges root.1 d.1 us)))))) sm valid in
    let s = super.0 in
    let root = and_then_ok img (checked_root name s) (λ root.
    and_then (checked_dataset format_limits s root.0) (λ d.
    and_then (index_visit s.end d.0) (λ us.
    ret (verdict s d.0 (all_ranges root.1 d.1 us))))) sm super.2 in
    let data_of = and_then_ok img (checked_dataset format_limits s root.0.0) (λ d.
    and_then (index_visit s.end d.0) (λ us.
    ret (verdict s d.0 (all_ranges root.0.1 d.1 us)))) sm root.2 in
    let d = data_of.0.0 in
    let index = and_then_ok img (index_visit s.end d) (λ us. ret (verdict s d (all_ranges root.0.1 data_of.0.1 us))) sm data_of.2 in
    let told = verdict_ok s d (all_ranges root.0.1 data_of.0.1 index.0) sm index.2 in
    let of_root = root_ranges img name s root.0 root.1 in
    let ranges = all_ranges root.0.1 data_of.0.1 index.0 in
    let are : eval img (collected format_limits name size) ≡ Ok ranges =
    and_then_from img (ret (checked_super size b)) from_super s ranges super.1
    (and_then_from img (checked_root name s) (from_root s) root.0 ranges root.1
    (and_then_from img (checked_dataset format_limits s root.0.0) (from_dataset s root.0) data_of.0 ranges data_of.1
    (and_then_from img (index_visit s.end d) (λ us. ret (Ok (all_ranges root.0.1 data_of.0.1 us))) index.0 ranges index.1 refl))) in
    subst (λ (t : Summary). HasRanges img name t) told.1
    (summed img name s d root.0.1 data_of.0.1 index.0 are (super_ends size b s super.1) of_root.0 of_root.1
    (dataset_ranges img s root.0.0 data_of.0 data_of.1) (index_end img s.end d index.0 index.1) told.0)
