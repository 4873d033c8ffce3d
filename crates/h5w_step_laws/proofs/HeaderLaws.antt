-- What the root header and the dataset header are known by, and what leaves them.
use Rattle.std.proofs.Common.{◌≡◌, ℕ, ◌+◌, ◌-◌, ◌<◌, ◌≤◌, false, cond, List, ◌∷◌, ◌++◌, Result, Ok, Err, refl, sym, ◌∙◌, ap, subst, inl, inr, arith, append-nil}
use Rattle.std.specs.Prelude.{nat_lt, if◌then◌else◌}
use Rattle.std.proofs.lemmas.Bool.{ltb-false, ltb-true, cases_Bool}
use Rattle.h5w_model.specs.Numbers.{range}
use Rattle.h5w_model.specs.Images.{apply}
use Rattle.h5w_model.specs.Programs.{Prog, ret, whole, eval, visits, Visit, all_of, Same}
use Rattle.h5w_model.specs.Headers.{prefix_at, header_view}
use Rattle.h5w_model.specs.Messages.{unsupported}
use Rattle.h5w_model.specs.Datasets.{Range, HeaderFields, Described, from_chunk_0, root_view, root_header, header_refusal, linked, dataset_messages, dataset_from, described, then_also, refused_as}
use Rattle.h5w_model.specs.Tables.{Limits, limit_of, needed}
use Rattle.h5w_model.specs.Findings.{Finding, found, Used, header_ranges, checked_root, checked_dataset, dataset_finding, bad_root, no_link, unsupported_dataset, too_many_chunks}
use Rattle.h5w_model.specs.declared.message.Prefix.{Prefix}
use Rattle.h5w_model.specs.declared.root.Super.{Super}
use Rattle.h5w_model.specs.declared.refusal.ReadError.{ReadError}
use Rattle.h5w_model.specs.declared.refusal.ReadError.TheVariants as read_errors
use Rattle.h5w_laws.proofs.ProgramLemmas.{eval_bind, same_eval}
use Rattle.h5w_laws.proofs.ResultLemmas.{then_ok, then_from, refused_ok, fails, choice_ok}
use Rattle.h5w_laws.proofs.PrefixLemmas.{begins, header_view_found, root_view_found}
use Rattle.h5w_laws.proofs.SlotLemmas.{refused_from}
use Rattle.h5w_step_laws.specs.Ranges.{AllEndBy, AllSome, AllWithin, MissesBlocks, block_at}
use Rattle.h5w_step_laws.specs.Headers.{AllBlocks, RootTells, RootMissed, HeaderTells, HeaderMissed}
use Rattle.h5w_step_laws.proofs.RangeLemmas.{missed_stay, within_more, some_cons}
use Rattle.h5w_step_laws.proofs.VisitTells.{visits_next}
use Rattle.h5w_step_laws.proofs.DescribedLemmas.{sized}
use Rattle.h5w_step_laws.proofs.HeaderVisits.{used_of, looks_of, AllLong, looks_are, within_looks, used_blocks, used_some, ranges_ok, ranges_from, choice_looks, from_chunk_walked, view_whole, view_missed, root_view_missed}

-- ---- The root header

-- what its messages and ranges are
pub record RootParts (img name : List ℕ) (s : Super) (place : ℕ) (us : List Used) : Type 0 where
  pub header : HeaderFields
  pub read : eval img (root_header s.root) ≡ Ok header
  pub link : linked name header.messages ≡ Ok place
  pub ranges : us ≡ used_of header.ranges
  pub ends : AllEndBy s.end us

abbrev pub root_is : ℕ × List Used → Result (ℕ × List Used) Finding
root_is x = Ok x

pub root_places : (a b : ℕ) (us vs : List Used) → root_is (a, us) ≡ root_is (b, vs) → (a ≡ b) × (us ≡ vs)
root_places a b us vs h = let e : ◌≡◌ {A = ℕ × List Used} (a, us) (b, vs) = cc in (ap (λ x. x.0) e, ap (λ x. x.1) e)

-- what the check says once the messages are read
abbrev pub root_last : List ℕ → ℕ → HeaderFields → List Used → Result (ℕ × List Used) Finding
root_last name root h us = then_also (refused_as (λ e. found no_link root) (linked name h.messages)) (λ at. Ok (at, us))

abbrev pub root_checks : List ℕ → ℕ → ℕ → Result HeaderFields ReadError → Result (ℕ × List Used) Finding
root_checks name root end r = then_also (refused_as (λ e. found bad_root root) r) (λ h. then_also (header_ranges end h.ranges) (root_last name root h))

pub root_parts : (img name : List ℕ) (s : Super) (place : ℕ) (us : List Used) → eval img (checked_root name s) ≡ Ok (place, us) → RootParts img name s place us
root_parts img name s place us h =
    let r = eval img (root_header s.root) in
    let header = then_ok (refused_as (λ e. found bad_root s.root) r) (λ h. then_also (header_ranges s.end h.ranges) (root_last name s.root h)) (place, us)
    (sym (eval_bind img (root_header s.root) (λ r. ret (root_checks name s.root s.end r))) ∙ h) in
    let ranges = then_ok (header_ranges s.end header.0.ranges) (root_last name s.root header.0) (place, us) header.2 in
    let link = then_ok (refused_as (λ e. found no_link s.root) (linked name header.0.messages)) (λ at. root_is (at, ranges.0)) (place, us) ranges.2 in
    let same = root_places link.0 place ranges.0 us link.2 in
    let are = ranges_ok s.end header.0.ranges ranges.0 ranges.1 in
    record {
      header = header.0;
      read = refused_ok (λ e. found bad_root s.root) r header.0 header.1;
      link = refused_ok (λ e. found no_link s.root) (linked name header.0.messages) link.0 link.1 ∙ ap Ok same.0;
      ranges = sym same.1 ∙ are.0;
      ends = subst (λ (xs : List Used). AllEndBy s.end xs) same.1 are.1;
    }

pub root_from : (img name : List ℕ) (t : Super) (place : ℕ) (h : HeaderFields) → eval img (root_header t.root) ≡ Ok h → linked name h.messages ≡ Ok place → AllEndBy t.end (used_of h.ranges)
    → eval img (checked_root name t) ≡ Ok (place, used_of h.ranges)
root_from img name t place h read link ends =
    let r = eval img (root_header t.root) in
    let us = used_of h.ranges in
    eval_bind img (root_header t.root) (λ r. ret (root_checks name t.root t.end r))
    ∙ then_from (refused_as (λ e. found bad_root t.root) r) (λ h. then_also (header_ranges t.end h.ranges) (root_last name t.root h)) h (place, us) (refused_from (λ e. found bad_root t.root) r h read)
    (then_from (header_ranges t.end h.ranges) (root_last name t.root h) us (place, us) (ranges_from t.end h.ranges ends)
    (then_from (refused_as (λ e. found no_link t.root) (linked name h.messages)) (λ at. root_is (at, us)) place (place, us) (refused_from (λ e. found no_link t.root) (linked name h.messages) place link) refl))

-- the looks of the root header: what counts of the first one, the rest of a longer chunk 0, and the blocks
pub record RootLooks (img : List ℕ) (place : ℕ) (h : HeaderFields) : Type 0 where
  pub prefix : Prefix
  pub says : prefix_at (range img place 512) ≡ Ok prefix
  pub some : 0 < prefix.total
  pub blocks : List Range
  pub ranges : h.ranges ≡ record { place = place; len = prefix.total } ∷ blocks
  pub long : AllLong blocks
  pub rest : List Visit
  pub looks : visits img (root_header place) ≡ record { place = place; len = 512; counts = root_view } ∷ rest
  pub inside : AllWithin (block_at place prefix.total ∷ used_of blocks) rest

pub within_behind : (u : Used) (rs : List Range) → AllWithin (u ∷ used_of rs) (looks_of rs)
within_behind u rs = within_more (used_of rs) (u ∷ used_of rs) (looks_of rs) (λ v a. inr a) (within_looks rs)

pub root_looks : (img : List ℕ) (place : ℕ) (h : HeaderFields) → eval img (root_header place) ≡ Ok h → RootLooks img place h
root_looks img place h e =
    let first : List ℕ = root_view (range img place 512) in
    let more : Prefix → List ℕ → Prog (Result HeaderFields ReadError) = λ p rest. from_chunk_0 place p (first ++ rest) in
    let long_chunk : Prefix → Prog (Result HeaderFields ReadError) = λ p. whole (place + 512) (p.total - 512) (more p) in
    let go : Prefix → Prog (Result HeaderFields ReadError) = λ p. if nat_lt 512 p.total then long_chunk p else from_chunk_0 place p first in
    let d = choice_ok img (prefix_at first) go (header_refusal place) h e in
    let p : Prefix = d.0 in
    let says = root_view_found (range img place 512) p d.1 in
    let b = begins (range img place 512) p says in
    let low = b.low in
    let inside_total = b.inside in
    let look : Visit = record { place = place; len = 512; counts = root_view } in
    let seen : visits img (root_header place) ≡ look ∷ visits img (go p) = ap (λ (vs : List Visit). look ∷ vs) (choice_looks img (prefix_at first) go (header_refusal place) p d.1) in
    elim (cases_Bool (nat_lt 512 p.total)) [
      | inl t ↦
          let w = from_chunk_walked img place p (first ++ range img (place + 512) (p.total - 512)) h (ap (λ c. eval img (cond c (long_chunk p) (from_chunk_0 place p first))) (sym t) ∙ d.2) in
          let second : Visit = record { place = place + 512; len = p.total - 512; counts = all_of } in
          let big : 512 < p.total = ltb-true 512 p.total t in
          record {
            prefix = p;
            says = says;
            some = omega arith;
            blocks = w.blocks;
            ranges = w.ranges;
            long = w.long;
            rest = second ∷ looks_of w.blocks;
            looks = seen ∙ ap (λ c. look ∷ visits img (cond c (long_chunk p) (from_chunk_0 place p first))) t ∙ ap (λ (vs : List Visit). look ∷ second ∷ vs) w.looks;
            inside = (record { used = block_at place p.total; among = inl refl; block = refl; from = omega arith; to = omega arith }, within_behind (block_at place p.total) w.blocks);
          }
      | inr t ↦
          let w = from_chunk_walked img place p first h (ap (λ c. eval img (cond c (long_chunk p) (from_chunk_0 place p first))) (sym t) ∙ d.2) in
          record {
            prefix = p;
            says = says;
            some = omega arith;
            blocks = w.blocks;
            ranges = w.ranges;
            long = w.long;
            rest = looks_of w.blocks;
            looks = seen ∙ ap (λ c. look ∷ visits img (cond c (long_chunk p) (from_chunk_0 place p first))) t ∙ ap (λ (vs : List Visit). look ∷ vs) w.looks;
            inside = within_behind (block_at place p.total) w.blocks;
          }
    ]

pub root_tells : RootTells
root_tells img name s place us h =
    let p = root_parts img name s place us h in
    let l = root_looks img s.root p.header p.read in
    let all : us ≡ block_at s.root l.prefix.total ∷ used_of l.blocks = p.ranges ∙ ap (λ (rs : List Range). used_of rs) l.ranges in
    record {
      ends = p.ends;
      some = subst (λ (xs : List Used). AllSome xs) (sym all) (some_cons (block_at s.root l.prefix.total) (used_of l.blocks) l.some (used_some l.blocks l.long));
      blocks = subst (λ (xs : List Used). AllBlocks xs) (sym p.ranges) (used_blocks p.header.ranges);
      by_end = λ t e ends.
          subst (λ (xs : List Used). eval img (checked_root name t) ≡ Ok (place, xs)) (sym p.ranges)
          (root_from img name t place p.header (ap (λ a. eval img (root_header a)) e ∙ p.read) p.link (subst (λ (xs : List Used). AllEndBy t.end xs) p.ranges ends));
    }

pub root_missed : RootMissed
root_missed w img name s place us h inside misses =
    let new : List ℕ = apply w img in
    let p = root_parts img name s place us h in
    let l = root_looks img s.root p.header p.read in
    let own : Used = block_at s.root l.prefix.total in
    let all : us ≡ own ∷ used_of l.blocks = p.ranges ∙ ap (λ (rs : List Range). used_of rs) l.ranges in
    let ends : AllEndBy s.end (own ∷ used_of l.blocks) = subst (λ (xs : List Used). AllEndBy s.end xs) all p.ends in
    let off : MissesBlocks w (own ∷ used_of l.blocks) = subst (λ (xs : List Used). MissesBlocks w xs) all misses in
    let last = ends own (inl refl) in
    let same : Same img new (visits img (root_header s.root)) =
    subst (λ (vs : List Visit). Same img new vs) (sym l.looks) (
      root_view_missed w img s.root l.prefix (off own (inl refl) refl) (omega arith) l.says,
      missed_stay w img s.end (own ∷ used_of l.blocks) l.rest inside ends l.inside off,
    ) in
    record {
      left = subst (λ (xs : List Used). eval new (checked_root name s) ≡ Ok (place, xs)) (sym p.ranges)
          (root_from new name s place p.header (same_eval img new (root_header s.root) same ∙ p.read) p.link (subst (λ (xs : List Used). AllEndBy s.end xs) p.ranges p.ends));
      same = same;
    }

-- ---- The dataset header

-- the looks behind the first: chunk 0 has at most 512 bytes
pub record DatasetLooks (img : List ℕ) (place : ℕ) (h : HeaderFields) : Type 0 where
  pub prefix : Prefix
  pub says : prefix_at (range img place 512) ≡ Ok prefix
  pub some : 0 < prefix.total
  pub short : prefix.total ≤ 512
  pub blocks : List Range
  pub ranges : h.ranges ≡ record { place = place; len = prefix.total } ∷ blocks
  pub long : AllLong blocks
  pub looks : visits img (dataset_messages place (header_view (range img place 512))) ≡ looks_of blocks

pub dataset_looks : (img : List ℕ) (place : ℕ) (h : HeaderFields) → eval img (dataset_messages place (header_view (range img place 512))) ≡ Ok h → DatasetLooks img place h
dataset_looks img place h e =
    let first : List ℕ = header_view (range img place 512) in
    let refused : Prog (Result HeaderFields ReadError) = ret (Err (read_errors.Unsupported (unsupported 1))) in
    let go : Prefix → Prog (Result HeaderFields ReadError) = λ p. if nat_lt 512 p.total then refused else from_chunk_0 place p first in
    let d = choice_ok img (prefix_at first) go (header_refusal place) h e in
    let p : Prefix = d.0 in
    let says = (header_view_found (range img place 512) p d.1).0 in
    let b = begins (range img place 512) p says in
    let low = b.low in
    let inside_total = b.inside in
    let seen : visits img (dataset_messages place first) ≡ visits img (go p) = choice_looks img (prefix_at first) go (header_refusal place) p d.1 in
    elim (cases_Bool (nat_lt 512 p.total)) [
      | inl t ↦ absurd (not_refused (ap (λ c. eval img (cond c refused (from_chunk_0 place p first))) (sym t) ∙ d.2))
      | inr t ↦
          let w = from_chunk_walked img place p first h (ap (λ c. eval img (cond c refused (from_chunk_0 place p first))) (sym t) ∙ d.2) in
          record {
            prefix = p;
            says = says;
            some = omega arith;
            short = ltb-false 512 p.total t;
            blocks = w.blocks;
            ranges = w.ranges;
            long = w.long;
            looks = seen ∙ ap (λ c. visits img (cond c refused (from_chunk_0 place p first))) t ∙ w.looks;
          }
    ]
  where
    not_refused : ◌≡◌ {A = Result HeaderFields ReadError} (Err (read_errors.Unsupported (unsupported 1))) (Ok h) → ⊥
    not_refused g = cc

pub record DatasetParts (img : List ℕ) (limits : Limits) (s : Super) (place : ℕ) (d : Described) (us : List Used) : Type 0 where
  pub header : HeaderFields
  pub read : eval img (dataset_messages place (header_view (range img place 512))) ≡ Ok header
  pub says : described header.messages ≡ Ok d
  pub within : nat_lt (limit_of limits d.layout.index) (needed d) ≡ false
  pub ranges : us ≡ used_of header.ranges
  pub ends : AllEndBy s.end us

abbrev pub dataset_is : Described × List Used → Result (Described × List Used) Finding
dataset_is x = Ok x

pub dataset_both : (a b : Described) (us vs : List Used) → dataset_is (a, us) ≡ dataset_is (b, vs) → (a ≡ b) × (us ≡ vs)
dataset_both a b us vs h = let e : ◌≡◌ {A = Described × List Used} (a, us) (b, vs) = cc in (ap (λ x. x.0) e, ap (λ x. x.1) e)

abbrev pub dataset_limit : Limits → ℕ → List Used → Described → Result (Described × List Used) Finding
dataset_limit limits place us d = if nat_lt (limit_of limits d.layout.index) (needed d) then Err (found too_many_chunks place) else Ok (d, us)

abbrev pub dataset_last : Limits → ℕ → HeaderFields → List Used → Result (Described × List Used) Finding
dataset_last limits place h us = then_also (refused_as (λ e. found unsupported_dataset place) (described h.messages)) (dataset_limit limits place us)

abbrev pub dataset_checks : Limits → ℕ → ℕ → Result HeaderFields ReadError → Result (Described × List Used) Finding
dataset_checks limits end place r = then_also (refused_as (dataset_finding place) r) (λ h. then_also (header_ranges end h.ranges) (dataset_last limits place h))

pub dataset_parts : (img : List ℕ) (limits : Limits) (s : Super) (place : ℕ) (d : Described) (us : List Used) → eval img (checked_dataset limits s place) ≡ Ok (d, us) → DatasetParts img limits s place d us
dataset_parts img limits s place d us h =
    let b : List ℕ = header_view (range img place 512) in
    let r = eval img (dataset_messages place b) in
    let header = then_ok (refused_as (dataset_finding place) r) (λ h. then_also (header_ranges s.end h.ranges) (dataset_last limits place h)) (d, us)
    (sym (eval_bind img (dataset_messages place b) (λ r. ret (dataset_checks limits s.end place r))) ∙ h) in
    let ranges = then_ok (header_ranges s.end header.0.ranges) (dataset_last limits place header.0) (d, us) header.2 in
    let said = then_ok (refused_as (λ e. found unsupported_dataset place) (described header.0.messages)) (dataset_limit limits place ranges.0) (d, us) ranges.2 in
    let within = fails (nat_lt (limit_of limits said.0.layout.index) (needed said.0)) (dataset_is (said.0, ranges.0)) (found too_many_chunks place) (d, us) said.2 in
    let same = dataset_both said.0 d ranges.0 us within.1 in
    let are = ranges_ok s.end header.0.ranges ranges.0 ranges.1 in
    record {
      header = header.0;
      read = refused_ok (dataset_finding place) r header.0 header.1;
      says = refused_ok (λ e. found unsupported_dataset place) (described header.0.messages) said.0 said.1 ∙ ap Ok same.0;
      within = subst (λ (x : Described). nat_lt (limit_of limits x.layout.index) (needed x) ≡ false) same.0 within.0;
      ranges = sym same.1 ∙ are.0;
      ends = subst (λ (xs : List Used). AllEndBy s.end xs) same.1 are.1;
    }

pub dataset_checked : (img : List ℕ) (limits : Limits) (t : Super) (place : ℕ) (d : Described) (h : HeaderFields) → eval img (dataset_messages place (header_view (range img place 512))) ≡ Ok h
    → described h.messages ≡ Ok d → nat_lt (limit_of limits d.layout.index) (needed d) ≡ false → AllEndBy t.end (used_of h.ranges) → eval img (checked_dataset limits t place) ≡ Ok (d, used_of h.ranges)
dataset_checked img limits t place d h read says within ends =
    let b : List ℕ = header_view (range img place 512) in
    let r = eval img (dataset_messages place b) in
    let us = used_of h.ranges in
    eval_bind img (dataset_messages place b) (λ r. ret (dataset_checks limits t.end place r))
    ∙ then_from (refused_as (dataset_finding place) r) (λ h. then_also (header_ranges t.end h.ranges) (dataset_last limits place h)) h (d, us) (refused_from (dataset_finding place) r h read)
    (then_from (header_ranges t.end h.ranges) (dataset_last limits place h) us (d, us) (ranges_from t.end h.ranges ends)
    (then_from (refused_as (λ e. found unsupported_dataset place) (described h.messages)) (dataset_limit limits place us) d (d, us) (refused_from (λ e. found unsupported_dataset place) (described h.messages) d says)
    (ap (λ c. cond c (Err (found too_many_chunks place)) (dataset_is (d, us))) within)))

pub header_tells : HeaderTells
header_tells img limits s place d us h =
    let p = dataset_parts img limits s place d us h in
    let l = dataset_looks img place p.header p.read in
    let b : List ℕ = header_view (range img place 512) in
    let own : Used = block_at place l.prefix.total in
    let all : us ≡ own ∷ used_of l.blocks = p.ranges ∙ ap (λ (rs : List Range). used_of rs) l.ranges in
    let last : HeaderFields → Result Described ReadError = λ h. refused_as read_errors.Unsupported (described h.messages) in
    let seen : visits img (dataset_from place b) ≡ looks_of l.blocks = visits_next img (dataset_messages place b) (λ h. ret (last h)) p.header p.read ∙ append-nil (visits img (dataset_messages place b)) ∙ l.looks in
    record {
      total = l.prefix.total;
      continued = used_of l.blocks;
      ranges = all;
      short = l.short;
      ends = p.ends;
      some = subst (λ (xs : List Used). AllSome xs) (sym all) (some_cons own (used_of l.blocks) l.some (used_some l.blocks l.long));
      blocks = subst (λ (xs : List Used). AllBlocks xs) (sym p.ranges) (used_blocks p.header.ranges);
      view = view_whole img place l.prefix l.says l.short;
      named = seen ∙ sym (looks_are l.blocks);
      within = subst (λ (vs : List Visit). AllWithin (used_of l.blocks) vs) (sym seen) (within_looks l.blocks);
      sized = sized p.header.messages d p.says;
      few = p.within;
      by_end = λ t ends.
          subst (λ (xs : List Used). eval img (checked_dataset limits t place) ≡ Ok (d, xs)) (sym p.ranges)
          (dataset_checked img limits t place d p.header p.read p.says p.within (subst (λ (xs : List Used). AllEndBy t.end xs) p.ranges ends));
    }

pub header_missed : HeaderMissed
header_missed w img limits s place d us h inside misses =
    let new : List ℕ = apply w img in
    let p = dataset_parts img limits s place d us h in
    let l = dataset_looks img place p.header p.read in
    let b : List ℕ = header_view (range img place 512) in
    let own : Used = block_at place l.prefix.total in
    let all : us ≡ own ∷ used_of l.blocks = p.ranges ∙ ap (λ (rs : List Range). used_of rs) l.ranges in
    let ends : AllEndBy s.end (own ∷ used_of l.blocks) = subst (λ (xs : List Used). AllEndBy s.end xs) all p.ends in
    let off : MissesBlocks w (own ∷ used_of l.blocks) = subst (λ (xs : List Used). MissesBlocks w xs) all misses in
    let last = ends own (inl refl) in
    let view : header_view (range new place 512) ≡ b = view_missed w img place l.prefix (off own (inl refl) refl) (omega arith) l.says l.short in
    let same : Same img new (visits img (dataset_messages place b)) =
    subst (λ (vs : List Visit). Same img new vs) (sym l.looks)
    (missed_stay w img s.end (own ∷ used_of l.blocks) (looks_of l.blocks) inside ends (within_behind own l.blocks) off) in
    record {
      left = subst (λ (xs : List Used). eval new (checked_dataset limits s place) ≡ Ok (d, xs)) (sym p.ranges)
          (dataset_checked new limits s place d p.header
          (ap (λ x. eval new (dataset_messages place x)) view ∙ same_eval img new (dataset_messages place b) same ∙ p.read)
          p.says p.within (subst (λ (xs : List Used). AllEndBy s.end xs) p.ranges p.ends));
      view = view;
    }
