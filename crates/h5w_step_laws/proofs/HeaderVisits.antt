-- The ranges of object headers, and what is looked at in them.
use Rattle.std.proofs.Common.{◌≡◌, ◌⊎◌, ℕ, zero, suc, ◌+◌, ◌<◌, ◌≤◌, Bool, true, false, cond, List, [], ◌∷◌, ◌++◌, length, map, Result, Ok, Err, refl, sym, ◌∙◌, ap, subst, inl, inr, arith, append-nil, append_assoc}
use Rattle.std.specs.Prelude.{◌==◌, nat_lt, if◌then◌else◌}
use Rattle.std.proofs.lemmas.Bool.{cond_both, ltb-false, le-ltb, cases_lt}
use Rattle.h5w_model.specs.Numbers.{range}
use Rattle.h5w_model.specs.Images.{apply, Misses}
use Rattle.h5w_model.specs.Programs.{Prog, ret, whole, eval, visits, Visit, all_of}
use Rattle.h5w_model.specs.Headers.{prefix_at, messages_at, header_view}
use Rattle.h5w_model.specs.Datasets.{FoundMessage, Range, HeaderFields, found_at, block_place, block_len, block_messages, splice, walk, from_chunk_0, root_view, header_refusal, then_also}
use Rattle.h5w_model.specs.Findings.{found, Used, header_ranges, block_past_end}
use Rattle.h5w_model.specs.declared.message.Msg.{Msg}
use Rattle.h5w_model.specs.declared.message.Prefix.{Prefix}
use Rattle.h5w_model.specs.declared.piece.Write.{Write}
use Rattle.h5w_model.specs.declared.refusal.ReadError.{ReadError}
use Rattle.h5w_model.specs.declared.refusal.ReadError.TheVariants as read_errors
use Rattle.h5w_model.specs.declared.refusal.HeaderError.TheVariants as header_errors
use Rattle.h5w_model.proofs.ImageLemmas.{range-apply_missed, Apart-part}
use Rattle.h5w_laws.proofs.ResultLemmas.{then_ok, fails, choice_ok}
use Rattle.h5w_laws.proofs.PrefixLemmas.{header_view_short, root_view_says, IsRootView}
use Rattle.h5w_laws.proofs.DatasetReads.{look_says, chunk_says, chunk_in_look}
use Rattle.h5w_laws.proofs.EndLemmas.{ranges_are, same_ranges}
use Rattle.h5w_laws.proofs.SpliceLemmas.{as_read}
use Rattle.h5w_step_laws.specs.Ranges.{AllEndBy, AllSome, AllWithin, block_at, blocks_of, visits_of}
use Rattle.h5w_step_laws.specs.Headers.{AllBlocks}
use Rattle.h5w_step_laws.proofs.RangeLemmas.{ends_nil, ends_cons, some_nil, some_cons, within_own}

-- ---- Ranges of a header

-- the ranges that are used
abbrev pub used_of : List Range → List Used
used_of rs = map (λ r. block_at r.place r.len) rs

-- what is looked at in them
abbrev pub looks_of : List Range → List Visit
looks_of rs = map (λ r. record { place = r.place; len = r.len; counts = all_of }) rs

-- none is empty
abbrev pub AllLong : List Range → Type 0
AllLong [] = Unit {0}
AllLong (r ∷ rs) = (0 < r.len) × AllLong rs

pub looks_are : (rs : List Range) → visits_of (used_of rs) ≡ looks_of rs
looks_are [] = refl
looks_are (r ∷ rs) = ap (λ (vs : List Visit). record { place = r.place; len = r.len; counts = all_of } ∷ vs) (looks_are rs)

pub within_looks : (rs : List Range) → AllWithin (used_of rs) (looks_of rs)
within_looks rs = subst (λ (us : List Used). AllWithin us (looks_of rs)) (own rs) (within_own (looks_of rs))
  where
    own : (rs : List Range) → blocks_of (looks_of rs) ≡ used_of rs
    own [] = refl
    own (r ∷ rs) = ap (λ (us : List Used). block_at r.place r.len ∷ us) (own rs)

pub used_blocks : (rs : List Range) → AllBlocks (used_of rs)
used_blocks [] u a = absurd a
used_blocks (r ∷ rs) u (inl e) = subst (λ (x : Used). x.chunk ≡ false) e refl
used_blocks (r ∷ rs) u (inr a) = used_blocks rs u a

pub used_some : (rs : List Range) → AllLong rs → AllSome (used_of rs)
used_some [] h = some_nil
used_some (r ∷ rs) h = some_cons (block_at r.place r.len) (used_of rs) h.0 (used_some rs h.1)

pub ranges_ok : (end : ℕ) (rs : List Range) (us : List Used) → header_ranges end rs ≡ Ok us → (us ≡ used_of rs) × AllEndBy end us
ranges_ok end [] us h =
    let e = same_ranges [] us h in
    (sym e, subst (λ (xs : List Used). AllEndBy end xs) e (ends_nil end))
ranges_ok end (r ∷ rs) us h =
    let own : Used = block_at r.place r.len in
    let f = fails (nat_lt end (r.place + r.len)) (then_also (header_ranges end rs) (λ us. Ok (own ∷ us))) (found block_past_end r.place) us h in
    let t = then_ok (header_ranges end rs) (λ us. ranges_are (own ∷ us)) us f.1 in
    let rest = ranges_ok end rs t.0 t.1 in
    let e = same_ranges (own ∷ t.0) us t.2 in (
      sym e ∙ ap (λ (xs : List Used). own ∷ xs) rest.0,
      subst (λ (xs : List Used). AllEndBy end xs) e (ends_cons end own t.0 (ltb-false end (r.place + r.len) f.0) rest.1),
    )

pub ranges_from : (end : ℕ) (rs : List Range) → AllEndBy end (used_of rs) → header_ranges end rs ≡ Ok (used_of rs)
ranges_from end [] h = refl
ranges_from end (r ∷ rs) h =
    let own : Used = block_at r.place r.len in
    ap (λ b. cond b (Err (found block_past_end r.place)) (then_also (header_ranges end rs) (λ us. ranges_are (own ∷ us)))) (le-ltb end (r.place + r.len) (h own (inl refl)))
    ∙ ap (λ x. then_also x (λ us. ranges_are (own ∷ us))) (ranges_from end rs (λ u a. h u (inr a)))

-- ---- Continuations

-- a walk through messages looks at the blocks whose ranges it adds
pub record Walked (img : List ℕ) (p : Prog (Result HeaderFields ReadError)) (visited : List Range) (h : HeaderFields) : Type 0 where
  pub blocks : List Range
  pub ranges : h.ranges ≡ visited ++ blocks
  pub looks : visits img p ≡ looks_of blocks
  pub long : AllLong blocks

pub same_header : (g h : HeaderFields) → as_read g ≡ as_read h → g ≡ h
same_header g h e = cc

pub splice_walked : (img : List ℕ) (at_block : List FoundMessage → FoundMessage → List FoundMessage → Prog (Result HeaderFields ReadError)) (visited : List Range) (done ms : List FoundMessage) (h : HeaderFields)
    → ((before : List FoundMessage) (m : FoundMessage) (rest : List FoundMessage) → eval img (at_block before m rest) ≡ Ok h → Walked img (at_block before m rest) visited h)
    → eval img (splice at_block visited done ms) ≡ Ok h → Walked img (splice at_block visited done ms) visited h
splice_walked img at_block visited done [] h go e =
    let all : HeaderFields = record { messages = done; ranges = visited } in
    record { blocks = []; ranges = ap (λ (x : HeaderFields). x.ranges) (sym (same_header all h e)) ∙ sym (append-nil visited); looks = refl; long = tt }
splice_walked img at_block visited done (m ∷ ms) h go e =
    cond_both (m.kind == 0x10) (at_block done m ms) (splice at_block visited (done ++ m ∷ []) ms) (λ (q : Prog (Result HeaderFields ReadError)). eval img q ≡ Ok h → Walked img q visited h)
    (λ t. go done m ms)
    (λ t. splice_walked img at_block visited (done ++ m ∷ []) ms h go)
    e

-- a program that goes on with what was decoded looks at what it goes on with
pub choice_looks : {A E B F : Type 0} (img : List ℕ) (r : Result A E) (f : A → Prog (Result B F)) (g : E → F) (a : A) → r ≡ Ok a
    → visits img (elim r as (λ _. Prog (Result B F)) [ Ok a ↦ f a | Err e ↦ ret (Err (g e)) ]) ≡ visits img (f a)
choice_looks {A} {E} {B} {F} img r f g a h = ap (λ (x : Result A E). visits img (elim x as (λ _. Prog (Result B F)) [ Ok a ↦ f a | Err e ↦ ret (Err (g e)) ])) h

pub walk_walked : (img : List ℕ) (more header : ℕ) (tracked : Bool) (visited : List Range) (done ms : List FoundMessage) (h : HeaderFields) → eval img (walk more header tracked visited done ms) ≡ Ok h
    → Walked img (walk more header tracked visited done ms) visited h
walk_walked img zero header tracked visited done ms h e =
    splice_walked img (λ before m rest. ret (Err (read_errors.Header header header_errors.Continuations))) visited done ms h (λ before m rest g. absurd cc) e
walk_walked img (suc more) header tracked visited done ms h e =
    let own : FoundMessage → Range = λ m. record { place = block_place m; len = block_len m } in
    let onward : List FoundMessage → FoundMessage → List FoundMessage → List FoundMessage → Prog (Result HeaderFields ReadError) = λ before m rest inside. walk more header tracked (visited ++ own m ∷ []) before (inside ++ rest) in
    let in_block : List FoundMessage → FoundMessage → List FoundMessage → List ℕ → Prog (Result HeaderFields ReadError) = λ before m rest b.
    elim (block_messages tracked (block_place m) (block_len m) b) as (λ _. Prog (Result HeaderFields ReadError)) [ Ok inside ↦ onward before m rest inside | Err e ↦ ret (Err e) ] in
    let at_block : List FoundMessage → FoundMessage → List FoundMessage → Prog (Result HeaderFields ReadError) = λ before m rest.
    if nat_lt (block_len m) 8 then ret (Err (header_refusal (block_place m) (header_errors.Short 8 (block_len m)))) else whole (block_place m) (block_len m) (in_block before m rest) in
    splice_walked img at_block visited done ms h
    (λ before m rest.
    cond_both (nat_lt (block_len m) 8) (ret (Err (header_refusal (block_place m) (header_errors.Short 8 (block_len m))))) (whole (block_place m) (block_len m) (in_block before m rest))
    (λ (q : Prog (Result HeaderFields ReadError)). eval img q ≡ Ok h → Walked img q visited h)
    (λ t g. absurd cc)
    (λ t g.
    let b : List ℕ = range img (block_place m) (block_len m) in
    let r = block_messages tracked (block_place m) (block_len m) b in
    let d = choice_ok img r (onward before m rest) (λ e. e) h g in
    let w = walk_walked img more header tracked (visited ++ own m ∷ []) before (d.0 ++ rest) h d.2 in
    record {
      blocks = own m ∷ w.blocks;
      ranges = w.ranges ∙ append_assoc visited (own m ∷ []) w.blocks;
      looks = ap (λ (vs : List Visit). record { place = block_place m; len = block_len m; counts = all_of } ∷ vs) (choice_looks img r (onward before m rest) (λ e. e) d.0 d.1 ∙ w.looks);
      long = (omega (arith, ltb-false (block_len m) 8 t), w.long);
    }))
    e

-- the messages from chunk 0 on
pub from_chunk_walked : (img : List ℕ) (place : ℕ) (p : Prefix) (b : List ℕ) (h : HeaderFields) → eval img (from_chunk_0 place p b) ≡ Ok h
    → Walked img (from_chunk_0 place p b) (record { place = place; len = p.total } ∷ []) h
from_chunk_walked img place p b h e =
    let chunk : Range = record { place = place; len = p.total } in
    let go : List Msg → Prog (Result HeaderFields ReadError) = λ ms. walk 32 place p.tracked (chunk ∷ []) [] (found_at place true ms) in
    let d = choice_ok img (messages_at b) go (header_refusal place) h e in
    let w = walk_walked img 32 place p.tracked (chunk ∷ []) [] (found_at place true d.0) h d.2 in
    record { blocks = w.blocks; ranges = w.ranges; looks = choice_looks img (messages_at b) go (header_refusal place) d.0 d.1 ∙ w.looks; long = w.long }

-- ---- What counts of chunk 0, after a write that misses it

pub part_missed : (w : Write) (img : List ℕ) (place n k m : ℕ) → Misses w place n → place + n ≤ length img → place ≤ k → k + m ≤ place + n → range (apply w img) k m ≡ range img k m
part_missed w img place n k m misses fits low high =
    range-apply_missed w img k m (Apart-part w.at (length w.piece) place n w.at (length w.piece) k m (omega arith) (omega arith) low high misses) (omega arith)

-- what stands before the messages is the same
pub same_prefix : (w : Write) (img : List ℕ) (place : ℕ) (p : Prefix) → Misses w place p.total → place + p.total ≤ length img → prefix_at (range img place 512) ≡ Ok p → prefix_at (range (apply w img) place 512) ≡ Ok p
same_prefix w img place p misses fits h =
    look_says (apply w img) place p
    (ap (λ (b : List ℕ). prefix_at b) (part_missed w img place p.total place p.total misses fits (omega arith) (omega arith)) ∙ chunk_says img place p h)

-- chunk 0 of at most 512 bytes
pub view_whole : (img : List ℕ) (place : ℕ) (p : Prefix) → prefix_at (range img place 512) ≡ Ok p → p.total ≤ 512 → header_view (range img place 512) ≡ range img place p.total
view_whole img place p h short = header_view_short (range img place 512) p h short ∙ chunk_in_look img place p.total short

pub view_missed : (w : Write) (img : List ℕ) (place : ℕ) (p : Prefix) → Misses w place p.total → place + p.total ≤ length img → prefix_at (range img place 512) ≡ Ok p → p.total ≤ 512
    → header_view (range (apply w img) place 512) ≡ header_view (range img place 512)
view_missed w img place p misses fits h short =
    view_whole (apply w img) place p (same_prefix w img place p misses fits h) short
    ∙ part_missed w img place p.total place p.total misses fits (omega arith) (omega arith)
    ∙ sym (view_whole img place p h short)

pub root_view_missed : (w : Write) (img : List ℕ) (place : ℕ) (p : Prefix) → Misses w place p.total → place + p.total ≤ length img → prefix_at (range img place 512) ≡ Ok p
    → root_view (range (apply w img) place 512) ≡ root_view (range img place 512)
root_view_missed w img place p misses fits h = go (cases_lt 512 p.total)
  where
    same : p.total ≤ 512 → IsRootView (range img place 512) (root_view (range img place 512)) p → root_view (range img place 512) ≡ range img place p.total
    same short (inl v) = absurd (omega (arith, short, v.0))
    same short (inr v) = v.1 ∙ chunk_in_look img place p.total short

    new_same : p.total ≤ 512 → IsRootView (range (apply w img) place 512) (root_view (range (apply w img) place 512)) p → root_view (range (apply w img) place 512) ≡ range (apply w img) place p.total
    new_same short (inl v) = absurd (omega (arith, short, v.0))
    new_same short (inr v) = v.1 ∙ chunk_in_look (apply w img) place p.total short

    go : (512 < p.total) ⊎ (p.total ≤ 512) → root_view (range (apply w img) place 512) ≡ root_view (range img place 512)
    go (inl long) = ap (λ (b : List ℕ). root_view b) (part_missed w img place p.total place 512 misses fits (omega arith) (omega (arith, long)))
    go (inr short) =
        new_same short (root_view_says (range (apply w img) place 512) p (same_prefix w img place p misses fits h))
        ∙ part_missed w img place p.total place p.total misses fits (omega arith) (omega arith)
        ∙ sym (same short (root_view_says (range img place 512) p h))
