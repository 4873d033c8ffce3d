-- A dataset header in an image, and after a write of its chunk 0.
use Rattle.std.proofs.Common.{◌≡◌, ◌⊎◌, ℕ, ◌-◌, ◌≤◌, min, true, false, cond, List, [], ◌∷◌, length, map, Result, Ok, Err, ap, sym, ◌∙◌, subst, inl, inr, arith}
use Rattle.std.specs.Prelude.{nat_lt}
use Rattle.std.proofs.lemmas.Bool.{cases_Bool, ltb-false, le-ltb}
use Rattle.h5w_model.specs.Numbers.{range}
use Rattle.h5w_model.specs.Images.{apply, Apart}
use Rattle.h5w_model.specs.Programs.{Prog, ret, eval, visits, Same}
use Rattle.h5w_model.specs.Headers.{prefix_at, messages_at, header_length}
use Rattle.h5w_model.specs.Messages.{unsupported}
use Rattle.h5w_model.specs.Datasets.{FoundMessage, Range, HeaderFields, Described, found_at, walk, from_chunk_0, header_refusal, dataset_messages, described}
use Rattle.h5w_model.specs.Relations.{Spliced}
use Rattle.h5w_model.specs.Tables.{Limits, limit_of, needed}
use Rattle.h5w_model.specs.Findings.{Used, checked_dataset}
use Rattle.h5w_model.specs.declared.message.Msg.{Msg}
use Rattle.h5w_model.specs.declared.message.Prefix.{Prefix}
use Rattle.h5w_model.specs.declared.root.Super.{Super}
use Rattle.h5w_model.specs.declared.piece.Write.{Write}
use Rattle.h5w_model.specs.declared.refusal.ReadError.{ReadError}
use Rattle.h5w_model.specs.declared.refusal.ReadError.TheVariants as read_errors
use Rattle.h5w_model.proofs.ImageLemmas.{At-apply, length-range}
use Rattle.h5w_model.proofs.HeaderLemmas.{messages_at-ok}
use Rattle.h5w_laws.proofs.ResultLemmas.{choice_ok, choice_from}
use Rattle.h5w_laws.proofs.PrefixLemmas.{begins, header_view_found}
use Rattle.h5w_laws.proofs.DatasetReads.{look_says}
use Rattle.h5w_laws.proofs.SpliceLemmas.{WalkFound, walk_found}
use Rattle.h5w_step_laws.specs.Ranges.{AllEndBy, MissesBlocks, Disjoint, block_at}
use Rattle.h5w_step_laws.proofs.RangeLemmas.{missed_stay}
use Rattle.h5w_step_laws.proofs.HeaderVisits.{used_of, looks_of, walk_walked, within_looks, view_whole}
use Rattle.h5w_step_laws.proofs.HeaderLaws.{DatasetParts, dataset_checked}
use Rattle.h5w_step_laws.specs.Commits.{IsCommitted}
use Rattle.h5w_step_laws.specs.Files.{chunk_0}
use Rattle.h5w_step_laws.proofs.SpliceLemmas.{IsOwnChange, with_messages, walk_changed}

-- ---- What is read

-- the range of chunk 0, and the walk from there on
abbrev pub own_range : ℕ → Prefix → Range
own_range place p = record { place = place; len = p.total }

abbrev pub walk_from : ℕ → Prefix → List Msg → Prog (Result HeaderFields ReadError)
walk_from place p ms = walk 32 place p.tracked (own_range place p ∷ []) [] (found_at place true ms)

-- a dataset header that is read, from its chunk 0 on
pub record HeaderRead (img : List ℕ) (place : ℕ) (h : HeaderFields) : Type 0 where
  pub prefix : Prefix
  pub says : prefix_at (range img place 512) ≡ Ok prefix
  pub begins_so : prefix_at (chunk_0 img place) ≡ Ok prefix
  pub short : prefix.total ≤ 512
  pub view : chunk_0 img place ≡ range img place prefix.total
  pub listed : List Msg
  pub read : messages_at (chunk_0 img place) ≡ Ok listed
  pub walked : eval img (walk_from place prefix listed) ≡ Ok h
  pub long : length (chunk_0 img place) ≡ prefix.total
  pub exact : header_length (chunk_0 img place) ≡ prefix.total
  pub some : 1 ≤ prefix.total
  pub blocks : List Range
  pub ranges : h.ranges ≡ own_range place prefix ∷ blocks
  pub looks : visits img (walk_from place prefix listed) ≡ looks_of blocks
  pub spliced_by : ℕ
  pub spliced : Spliced img prefix.tracked spliced_by (found_at place true listed) h.messages

abbrev pub refused_here : Prog (Result HeaderFields ReadError)
refused_here = ret (Err (read_errors.Unsupported (unsupported 1)))

-- what follows what stands before the messages
abbrev pub small_from : ℕ → List ℕ → Prefix → Prog (Result HeaderFields ReadError)
small_from place b p = cond (nat_lt 512 p.total) refused_here (from_chunk_0 place p b)

not_refused : (h : HeaderFields) → ◌≡◌ {A = Result HeaderFields ReadError} (Err (read_errors.Unsupported (unsupported 1))) (Ok h) → ⊥
not_refused h g = cc

chunk_of : (img : List ℕ) (place : ℕ) (b : List ℕ) (p : Prefix) (h : HeaderFields) → eval img (small_from place b p) ≡ Ok h → (p.total ≤ 512) × (eval img (from_chunk_0 place p b) ≡ Ok h)
chunk_of img place b p h e = go (cases_Bool (nat_lt 512 p.total))
  where
    go : (nat_lt 512 p.total ≡ true) ⊎ (nat_lt 512 p.total ≡ false) → (p.total ≤ 512) × (eval img (from_chunk_0 place p b) ≡ Ok h)
    go (inl t) = absurd (not_refused h (ap (λ c. eval img (cond c refused_here (from_chunk_0 place p b))) (sym t) ∙ e))
    go (inr t) = (ltb-false 512 p.total t, ap (λ c. eval img (cond c refused_here (from_chunk_0 place p b))) (sym t) ∙ e)

pub header_read : (img : List ℕ) (place : ℕ) (h : HeaderFields) → eval img (dataset_messages place (chunk_0 img place)) ≡ Ok h → HeaderRead img place h
unfolding WalkFound
header_read img place h e =
    let b = chunk_0 img place in
    let d = choice_ok img (prefix_at b) (small_from place b) (header_refusal place) h e in
    let p : Prefix = d.0 in
    let found = header_view_found (range img place 512) p d.1 in
    let t = chunk_of img place b p h d.2 in
    let m = choice_ok img (messages_at b) (walk_from place p) (header_refusal place) h t.1 in
    let view : b ≡ range img place p.total = view_whole img place p found.0 t.0 in
    let start = begins b p d.1 in
    let low = start.low in
    let inside = start.inside in
    let total = start.total in
    let whole = (messages_at-ok b m.0 m.1).1.whole in
    let end = whole.end in
    let enough = whole.long in
    let most : length b ≡ min p.total (length img - place) = ap length view ∙ length-range img place p.total in
    let short = t.0 in
    let w = walk_walked img 32 place p.tracked (own_range place p ∷ []) [] (found_at place true m.0) h m.2 in
    let s = walk_found img place p.tracked 32 (own_range place p ∷ []) [] (found_at place true m.0) h m.2 in
    record {
      prefix = p;
      says = found.0;
      begins_so = d.1;
      short = t.0;
      view = view;
      listed = m.0;
      read = m.1;
      walked = m.2;
      long = omega arith;
      exact = omega arith;
      some = omega arith;
      blocks = w.blocks;
      ranges = w.ranges;
      looks = w.looks;
      spliced_by = s.blocks;
      spliced = subst (λ (rs : List FoundMessage). Spliced img p.tracked s.blocks (found_at place true m.0) rs) (sym s.joined) s.spliced;
    }

-- ---- After a write

pub record IsRewritten (img : List ℕ) (limits : Limits) (s : Super) (place : ℕ) (us : List Used) (w : Write) (new : Described) (h : HeaderFields) : Type 0 where
  pub continued : List Used
  pub ranges : us ≡ block_at place (length w.piece) ∷ continued
  pub some : 1 ≤ length w.piece
  pub short : length w.piece ≤ 512
  pub header : eval (apply w img) (checked_dataset limits s place) ≡ Ok (new, us)
  pub now : chunk_0 (apply w img) place ≡ w.piece
  pub read : eval (apply w img) (dataset_messages place (chunk_0 (apply w img) place)) ≡ Ok h

pub rewritten : (img : List ℕ) (limits : Limits) (s : Super) (place : ℕ) (d e : Described) (us : List Used) (piece : List ℕ) (ns : List Msg) (f : FoundMessage → FoundMessage)
    → (p : DatasetParts img limits s place d us) (r : HeaderRead img place p.header) → s.end ≤ length img → Disjoint us → IsCommitted (chunk_0 img place) piece ns → IsOwnChange f
    → found_at place true ns ≡ map f (found_at place true r.listed) → described (map f p.header.messages) ≡ Ok e → nat_lt (limit_of limits e.layout.index) (needed e) ≡ false
    → IsRewritten img limits s place us (record { at = place; piece = piece }) e (with_messages f p.header)
rewritten img limits s place d e us piece ns f p r fits apart is own changed says few =
    let w : Write = record { at = place; piece = piece } in
    let new : List ℕ = apply w img in
    let q = r.prefix in
    let h = p.header in
    let k = with_messages f h in
    let size : length piece ≡ q.total = is.size ∙ r.long in
    let all : us ≡ block_at place q.total ∷ used_of r.blocks = p.ranges ∙ ap (λ (rs : List Range). used_of rs) r.ranges in
    let ends : AllEndBy s.end (block_at place q.total ∷ used_of r.blocks) = subst (λ (xs : List Used). AllEndBy s.end xs) all p.ends in
    let disjoint : Disjoint (block_at place q.total ∷ used_of r.blocks) = subst (λ (xs : List Used). Disjoint xs) all apart in
    let misses : MissesBlocks w (used_of r.blocks) = λ u a c. subst (λ (n : ℕ). Apart place n u.place u.len) (sym size) (disjoint.1 u a) in
    let same : Same img new (visits img (walk_from place q r.listed)) =
    subst (λ vs. Same img new vs) (sym r.looks) (missed_stay w img s.end (used_of r.blocks) (looks_of r.blocks) fits (λ u a. ends u (inr a)) (within_looks r.blocks) misses) in
    let stands : range new place q.total ≡ piece = ap (λ n. range new place n) (sym size) ∙ At-apply w img in
    let begun : prefix_at piece ≡ Ok q = is.prefix q r.begins_so in
    let look : prefix_at (range new place 512) ≡ Ok q = look_says new place q (ap prefix_at stands ∙ begun) in
    let now : chunk_0 new place ≡ piece = view_whole new place q look r.short ∙ stands in
    let walked : eval new (walk_from place q ns) ≡ Ok k =
    ap (λ (ms : List FoundMessage). eval new (walk 32 place q.tracked (own_range place q ∷ []) [] ms)) changed
    ∙ walk_changed f img new 32 place q.tracked (own_range place q ∷ []) [] (found_at place true r.listed) h own r.walked same in
    let read : eval new (dataset_messages place piece) ≡ Ok k =
    choice_from new (prefix_at piece) (small_from place piece) (header_refusal place) q k begun
    (ap (λ c. eval new (cond c refused_here (from_chunk_0 place q piece))) (le-ltb 512 q.total r.short)
    ∙ choice_from new (messages_at piece) (walk_from place q) (header_refusal place) ns k is.messages walked) in
    let some = r.some in
    let short = r.short in
    record {
      continued = used_of r.blocks;
      ranges = all ∙ ap (λ n. block_at place n ∷ used_of r.blocks) (sym size);
      some = omega arith;
      short = omega arith;
      header = subst (λ (xs : List Used). eval new (checked_dataset limits s place) ≡ Ok (e, xs)) (sym p.ranges)
          (dataset_checked new limits s place e k (ap (λ b. eval new (dataset_messages place b)) now ∙ read) says few (subst (λ (xs : List Used). AllEndBy s.end xs) p.ranges p.ends));
      now = now;
      read = ap (λ b. eval new (dataset_messages place b)) now ∙ read;
    }
