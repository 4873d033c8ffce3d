-- A header that is read is taken by a writer, too, where each of its messages is known.
use Rattle.std.proofs.Common.{◌≡◌, ℕ, zero, suc, ◌+◌, ◌-◌, Bool, true, false, not, cond, ltb, ◌&&◌, List, [], ◌∷◌, ◌++◌, length, Option, Some, None, Result, Ok, Err, refl, ap, sym, ◌∙◌, subst}
use Rattle.std.specs.Prelude.{◌==◌, find, nat_lt, option_map}
use Rattle.std.proofs.lemmas.Bool.{eqb-true}
use Rattle.h5w_model.specs.Numbers.{range}
use Rattle.h5w_model.specs.Programs.{Prog, ret, whole, eval}
use Rattle.h5w_model.specs.Headers.{block_at, has, is_known, messages_at, prefix_at, unknown_for_writing, unless_refused}
use Rattle.h5w_model.specs.Datasets.{FoundMessage, HeaderFields, Range, block_len, block_messages, block_place, found_at, from_chunk_0, header_refusal, refused_as, root_header, root_view, then_also, walk}
use Rattle.h5w_model.specs.declared.message.Msg.{Msg}
use Rattle.h5w_model.specs.declared.message.Prefix.{Prefix}
use Rattle.h5w_model.specs.declared.refusal.HeaderError.{HeaderError}
use Rattle.h5w_model.specs.declared.refusal.HeaderError.TheVariants as header_errors
use Rattle.h5w_model.specs.declared.refusal.ReadError.{ReadError}
use Rattle.h5w_model.specs.declared.refusal.ReadError.TheVariants.{Header}
use Rattle.h5w_laws.proofs.ResultLemmas.{choice_from, choice_ok, fails, ok_err, ok_is, refused_ok, then_from, then_ok}
use Rattle.h5w_step_laws.proofs.HeaderVisits.{same_header}
use Rattle.h5w_headers.specs.Walks.{block_for, from_chunk_0_for, known_by, root_header_for, walk_for}

abbrev Answer : Type 0
Answer = Result HeaderFields ReadError

-- ---- Messages

abbrev pub AreKnown : List FoundMessage → Type 0
AreKnown [] = Unit {0}
AreKnown (m ∷ ms) = (is_known m.kind ≡ true) × AreKnown ms

known_both : (xs ys : List FoundMessage) → AreKnown (xs ++ ys) → AreKnown xs × AreKnown ys
known_both [] ys k = (tt, k)
known_both (x ∷ xs) ys k = let both = known_both xs ys k.1 in ((k.0, both.0), both.1)

none_unknown : (place : ℕ) (own : Bool) (ms : List Msg) → AreKnown (found_at place own ms) → unknown_for_writing ms ≡ None
none_unknown place own [] k = refl
none_unknown place own (m ∷ ms) k =
    let test : Msg → Bool = λ x. not (is_known x.kind) && has x.flags 8 in
    ap (λ t. option_map (λ (x : Msg). x.kind) (cond (not t && has m.flags 8) (Some m) (find test ms))) k.0 ∙ none_unknown place own ms k.1

known_taken : (r : Result (List Msg) HeaderError) (ms : List Msg) → r ≡ Ok ms → unknown_for_writing ms ≡ None → known_by true r ≡ Ok ms
known_taken r ms is none = ap (known_by true) is ∙ ap (λ (o : Option ℕ). unless_refused o ms) none

block_taken : (tracked : Bool) (place len : ℕ) (b : List ℕ) (found : List FoundMessage) → block_messages tracked place len b ≡ Ok found → AreKnown found → block_for true tracked place len b ≡ Ok found
block_taken tracked place len b found h known =
    let says : List Msg → Result (List FoundMessage) ReadError = λ ms. Ok (found_at place false ms) in
    let word : HeaderError → ReadError = header_refusal place in
    let r : Result (List Msg) HeaderError = block_at tracked b in
    let cut : ReadError = header_refusal place (header_errors.Short len (length b)) in
    let p = fails (nat_lt (length b) len) (then_also (refused_as word r) says) cut found h in
    let q = then_ok (refused_as word r) says found p.1 in
    let same : found_at place false q.0 ≡ found = ok_is {E = ReadError} (found_at place false q.0) found q.2 in
    let taken = known_taken r q.0 (refused_ok word r q.0 q.1) (none_unknown place false q.0 (subst AreKnown (sym same) known)) in
    ap (λ t. cond t (Err cut) (then_also (refused_as word (known_by true r)) says)) p.0 ∙ then_from (refused_as word (known_by true r)) says q.0 found (ap (refused_as word) taken) q.2

-- ---- The walk

-- it answers this header, of which each message before and behind is known
record Walked (img : List ℕ) (p : Prog Answer) (done ms : List FoundMessage) (h : HeaderFields) : Type 0 where
  behind : AreKnown done
  ahead : AreKnown ms
  is : eval img p ≡ Ok h

-- either of two programs answers it
chosen : (img : List ℕ) (t : Bool) (one other as_one as_other : Prog Answer) (done ms : List FoundMessage) (h : HeaderFields) → (t ≡ true → eval img one ≡ Ok h → Walked img as_one done ms h) → (eval img other ≡ Ok h → Walked img as_other done ms h)
    → eval img (cond t one other) ≡ Ok h → Walked img (cond t as_one as_other) done ms h
chosen img true one other as_one as_other done ms h first later e = first refl e
chosen img false one other as_one as_other done ms h first later e = later e

one_more : (img : List ℕ) (p : Prog Answer) (done ms : List FoundMessage) (m : FoundMessage) (h : HeaderFields) → Walked img p (done ++ m ∷ []) ms h → Walked img p done (m ∷ ms) h
one_more img p done ms m h w = let both = known_both done (m ∷ []) w.behind in record { behind = both.0; ahead = (both.1.0, w.ahead); is = w.is }

at_end : (img : List ℕ) (visited : List Range) (done : List FoundMessage) (h : HeaderFields) → eval img (ret (let r : Answer = Ok (record { messages = done; ranges = visited }) in r)) ≡ Ok h → AreKnown h.messages
    → Walked img (ret (let r : Answer = Ok (record { messages = done; ranges = visited }) in r)) done [] h
at_end img visited done h e k =
    let all : HeaderFields = record { messages = done; ranges = visited } in
    record { behind = subst (λ (x : HeaderFields). AreKnown x.messages) (sym (same_header all h e)) k; ahead = tt; is = e }

continuation_known : (m : FoundMessage) → (m.kind == 0x10) ≡ true → is_known m.kind ≡ true
continuation_known m t = ap is_known (eqb-true m.kind 0x10 t)

-- two programs go on from what was decoded
abbrev go_on : (List FoundMessage → Prog Answer) → Result (List FoundMessage) ReadError → Prog Answer
go_on one r = elim r as (λ _. Prog Answer) [ Ok a ↦ one a | Err e ↦ ret (Err (let x : ReadError = e in x)) ]

walk_taken : (img : List ℕ) (more header : ℕ) (tracked : Bool) (visited : List Range) (done ms : List FoundMessage) (h : HeaderFields) → eval img (walk more header tracked visited done ms) ≡ Ok h → AreKnown h.messages
    → Walked img (walk_for true more header tracked visited done ms) done ms h
walk_taken img zero header tracked visited done [] h e k = at_end img visited done h e k
walk_taken img (suc more) header tracked visited done [] h e k = at_end img visited done h e k
walk_taken img zero header tracked visited done (m ∷ ms) h e k =
    let many : ReadError = Header header header_errors.Continuations in
    let stop : Prog Answer = ret (Err many) in
    chosen img (m.kind == 0x10) stop (walk zero header tracked visited (done ++ m ∷ []) ms) stop (walk_for true zero header tracked visited (done ++ m ∷ []) ms) done (m ∷ ms) h
    (λ t x. absurd (ok_err h many (sym x)))
    (λ x. one_more img (walk_for true zero header tracked visited (done ++ m ∷ []) ms) done ms m h (walk_taken img zero header tracked visited (done ++ m ∷ []) ms h x k))
    e
walk_taken img (suc more) header tracked visited done (m ∷ ms) h e k =
    let q = block_place m in
    let l = block_len m in
    let w : List Range = visited ++ record { place = q; len = l } ∷ [] in
    let tiny : ReadError = header_refusal q (header_errors.Short 8 l) in
    let small : Prog Answer = ret (Err tiny) in
    let one : List FoundMessage → Prog Answer = λ inside. walk more header tracked w done (inside ++ ms) in
    let two : List FoundMessage → Prog Answer = λ inside. walk_for true more header tracked w done (inside ++ ms) in
    let read : Prog Answer = whole q l (λ b. go_on one (block_messages tracked q l b)) in
    let written : Prog Answer = whole q l (λ b. go_on two (block_for true tracked q l b)) in
    let b : List ℕ = range img q l in
    chosen img (m.kind == 0x10) (cond (ltb l 8) small read) (walk (suc more) header tracked visited (done ++ m ∷ []) ms) (cond (ltb l 8) small written) (walk_for true (suc more) header tracked visited (done ++ m ∷ []) ms) done (m ∷ ms) h
    (λ t. chosen img (ltb l 8) small read small written done (m ∷ ms) h (λ s x. absurd (ok_err h tiny (sym x)))
    (λ x.
    let found = choice_ok img (block_messages tracked q l b) one (λ (f : ReadError). f) h x in
    let rest = walk_taken img more header tracked w done (found.0 ++ ms) h found.2 k in
    let both = known_both found.0 ms rest.ahead in
    record {
      behind = rest.behind;
      ahead = (continuation_known m t, both.1);
      is = choice_from img (block_for true tracked q l b) two (λ (f : ReadError). f) found.0 h (block_taken tracked q l b found.0 found.1 both.0) rest.is;
    }))
    (λ x. one_more img (walk_for true (suc more) header tracked visited (done ++ m ∷ []) ms) done ms m h (walk_taken img (suc more) header tracked visited (done ++ m ∷ []) ms h x k))
    e

-- ---- The root header

chunk_taken : (img : List ℕ) (place : ℕ) (p : Prefix) (b : List ℕ) (h : HeaderFields) → AreKnown h.messages → eval img (from_chunk_0 place p b) ≡ Ok h → eval img (from_chunk_0_for true place p b) ≡ Ok h
chunk_taken img place p b h k e =
    let v : List Range = record { place = place; len = p.total } ∷ [] in
    let one : List Msg → Prog Answer = λ ms. walk 32 place p.tracked v [] (found_at place true ms) in
    let two : List Msg → Prog Answer = λ ms. walk_for true 32 place p.tracked v [] (found_at place true ms) in
    let m = choice_ok img (messages_at b) one (header_refusal place) h e in
    let t = walk_taken img 32 place p.tracked v [] (found_at place true m.0) h m.2 k in
    choice_from img (known_by true (messages_at b)) two (header_refusal place) m.0 h (known_taken (messages_at b) m.0 m.1 (none_unknown place true m.0 t.ahead)) t.is

either : (img : List ℕ) (t : Bool) (one other as_one as_other : Prog Answer) (h : HeaderFields) → (eval img one ≡ Ok h → eval img as_one ≡ Ok h) → (eval img other ≡ Ok h → eval img as_other ≡ Ok h)
    → eval img (cond t one other) ≡ Ok h → eval img (cond t as_one as_other) ≡ Ok h
either img true one other as_one as_other h first later e = first e
either img false one other as_one as_other h first later e = later e

pub root_known : (img : List ℕ) (place : ℕ) (h : HeaderFields) → eval img (root_header place) ≡ Ok h → AreKnown h.messages → eval img (root_header_for true place) ≡ Ok h
root_known img place h e k =
    let first : List ℕ = root_view (range img place 512) in
    let next : Prefix → List ℕ = λ p. first ++ range img (place + 512) (p.total - 512) in
    let more : Prefix → Prog Answer = λ p. cond (nat_lt 512 p.total) (whole (place + 512) (p.total - 512) (λ rest. from_chunk_0 place p (first ++ rest))) (from_chunk_0 place p first) in
    let more_for : Prefix → Prog Answer = λ p. cond (nat_lt 512 p.total) (whole (place + 512) (p.total - 512) (λ rest. from_chunk_0_for true place p (first ++ rest))) (from_chunk_0_for true place p first) in
    let x = choice_ok img (prefix_at first) more (header_refusal place) h e in
    let p : Prefix = x.0 in
    let says = either img (nat_lt 512 p.total)
    (whole (place + 512) (p.total - 512) (λ rest. from_chunk_0 place p (first ++ rest))) (from_chunk_0 place p first)
    (whole (place + 512) (p.total - 512) (λ rest. from_chunk_0_for true place p (first ++ rest))) (from_chunk_0_for true place p first) h
    (chunk_taken img place p (next p) h k) (chunk_taken img place p first h k) x.2 in
    choice_from img (prefix_at first) more_for (header_refusal place) p h x.1 says
