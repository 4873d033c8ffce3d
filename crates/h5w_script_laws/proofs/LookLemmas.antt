-- A look of a reader's call at the image of now.
use Rattle.std.proofs.Common.{◌≡◌, ℕ, ◌+◌, ◌*◌, ◌<◌, ◌≤◌, ◌&&◌, List, [], ◌∷◌, ◌++◌, length, map, reverse, Contains, Option, Some, None, option_map, Result, Ok, Err, refl, sym, ◌∙◌, ap, subst, inl, inr, arith}
use Rattle.std.specs.Prelude.{ℤ, ◌==◌}
use Rattle.std.proofs.lemmas.Bool.{cond-true, and_from, eq-eqb}
use Rattle.std.proofs.lemmas.List.{map-append, reverse-append, take_all, length_push}
use Rattle.h5w_model.specs.Numbers.{range}
use Rattle.h5w_model.specs.Images.{image}
use Rattle.h5w_model.specs.Programs.{Prog, ret, whole, counted, stored, rest_after, WantsMore, next_look, fed}
use Rattle.h5w_model.specs.Logs.{Log, hist, flushed_at, needed_chunks}
use Rattle.h5w_model.specs.Tables.{Reading}
use Rattle.h5w_model.specs.Prefixed.{image_at}
use Rattle.h5w_model.specs.Readers.{Placed, IsCall, looks_of}
use Rattle.h5w_model.specs.Calls.{rows_seen, values_call}
use Rattle.h5w_model.specs.Unfinished.{Unfinished, rows_left, values_left, next_look_of, fed_left, ReaderRules, refresh_rules, rows_program, Reader, with_left}
use Rattle.h5w_model.specs.Asked.{Begins, IsRead, left_after}
use Rattle.h5w_model.specs.Lawful.{ScriptState, ReaderState, CallKind, for_rows, for_values, Calling, IsRows, IsAgain, IsLooking, AnswerAllowed, looked, rows_in, most_looks, most_value_looks}
use Rattle.h5w_model.specs.declared.reply.Reply.TheVariants as replies
use Rattle.h5w_model.specs.declared.refusal.ReadError.{ReadError}
use Rattle.h5w_model.specs.declared.refusal.ReadError.TheVariants as refusals
use Rattle.h5w_laws.proofs.LookLemmas.{IsPlain, plain_rest, rest_append}
use Rattle.h5w_reader_laws.proofs.EndLemmas.{plain_open, plain_rows, plain_values}
use Rattle.h5w_script_laws.specs.Polling.{Polling, reader_rules, now, ShownAt, Knows, Wants, kind_of, Calls, CallPolls, Polls}
use Rattle.h5w_script_laws.specs.Premises.{LogHolds, Follows}
use Rattle.h5w_script_laws.specs.Laws.{Replies, LookLaws}
use Rattle.h5w_script_laws.proofs.ListLemmas.{contains_mapped, contains_reversed}
use Rattle.h5w_script_laws.proofs.CallLemmas.{follows_now, script_values}
use Rattle.h5w_script_laws.proofs.EventLemmas.{knows_later}
use Rattle.h5w_script_laws.proofs.BoundLemmas.{rows_fewer, values_fewer, most_rows_looks}
use Rattle.h5w_script_laws.proofs.AnswerLemmas.{IsFound, IsOverCommits, RowsAnswer, call_from, rows_answered, rows_shown, values_in, values_answered}
use Rattle.h5w_laws.proofs.LogLemmas.{flushed_laws}

-- a call for rows is a program of plain looks
plain_program : (g : ReaderRules) (known : Option Reading) → IsPlain (rows_program g known)
plain_program g None = plain_open g.limits g.keeps g.attempts g.name
plain_program g (Some r) = plain_rows (refresh_rules g r)

-- ---- One more look of a call

-- a look at the image of now
abbrev pub look_now : Log → (place len : ℕ) → Placed
look_now log place n = record { position = now log; look = record { place = place; len = n; bytes = range (image log.start (hist log.events)) place n } }

image_now : (log : Log) → image log.start (hist log.events) ≡ image_at log (now log)
image_now log = ap (image log.start) (sym (take_all (now log) (hist log.events) (omega arith)))

call_more : (log : Log) (from place len : ℕ) (ls : List Placed) → from ≤ now log → IsCall log from ls → IsCall log from (ls ++ look_now log place len ∷ [])
call_more log from place len [] within h = (within, omega arith, ap (λ (i : List ℕ). range i place len) (image_now log), tt)
call_more log from place len (l ∷ ls) within h = (h.0, h.1, h.2, call_more log l.position place len ls h.1 h.3)

looks_more : (ls : List Placed) (l : Placed) → looks_of (ls ++ l ∷ []) ≡ looks_of ls ++ l.look ∷ []
looks_more ls l = map-append (λ (l : Placed). l.look) ls (l ∷ [])

fed_rest : {A : Type 0} (p : Prog A) (place len : ℕ) (b : List ℕ) → next_look p ≡ Some (place, len) → rest_after p (record { place = place; len = len; bytes = b } ∷ []) ≡ Some (fed b p)
fed_rest (ret a) place len b e = cc
fed_rest (whole at n next) place len b e =
    let both : ◌≡◌ {A = ℕ × ℕ} (at, n) (place, len) = cc in
    cond-true ((place == at) && (len == n)) (Some (next b)) None
    (and_from (place == at) (len == n) (eq-eqb place at (sym (ap (λ (x : ℕ × ℕ). x.0) both))) (eq-eqb len n (sym (ap (λ (x : ℕ × ℕ). x.1) both))))
fed_rest (counted at counts next) place len b e = cc
fed_rest (stored kind at n next) place len b e = cc

rest_more : {A : Type 0} (log : Log) (p q : Prog A) (ls : List Placed) (place len : ℕ) → rest_after p (looks_of ls) ≡ Some q → next_look q ≡ Some (place, len)
    → rest_after p (looks_of (ls ++ look_now log place len ∷ [])) ≡ Some (fed (look_now log place len).look.bytes q)
rest_more log p q ls place len e wants =
    let l = look_now log place len in
    ap (rest_after p) (looks_more ls l) ∙ rest_append p (looks_of ls) (l.look ∷ []) q e ∙ fed_rest q place len l.look.bytes wants

-- ---- Rows

-- the rows seen before are not more than those of a reading that is shown later
seen_before : (g : Polling) (log : Log) (from p : ℕ) (known : Option Reading) (r : Reading) → LogHolds g log → Knows g log from known → from ≤ p → ShownAt g log p r
    → rows_seen known ≤ r.dataset.shape.rows
seen_before g log from p None r holds h later s = omega arith
seen_before g log from p (Some old) r holds h later s =
    (holds.served.held h.position p old r h.shown.position s.position (omega (arith, h.earlier)) h.shown.shows s.shows).stays.rows

-- ---- Replies

-- the rows at the looks, with one more at now, the last first
rows_more : (log : Log) (s : ScriptState) (ls : List Placed) (place len : ℕ) → Follows log s
    → reverse (map (λ l. flushed_at log l.position) (ls ++ look_now log place len ∷ [])) ≡ s.flushed ∷ reverse (map (λ l. flushed_at log l.position) ls)
rows_more log s ls place len follows =
    let f : Placed → ℕ = λ l. flushed_at log l.position in
    ap reverse (map-append f ls (look_now log place len ∷ [])) ∙ reverse-append (map f ls) (flushed_at log (now log) ∷ [])
    ∙ ap (λ n. n ∷ reverse (map f ls)) (sym (follows_now log s follows))

looks_counted : (ls : List Placed) (l : Placed) → length (ls ++ l ∷ []) ≡ length ls + 1
looks_counted ls l = length_push ls l

-- a reader's call, at one more look that it wants
record Looks (g : Polling) (log : Log) (s : ScriptState) (r : Reader) (c : Calling) : Type 0 where
  holds : LogHolds g log
  follows : Follows log s
  rules : r.rules ≡ reader_rules g
  is : Calls g log r c
  place : ℕ
  len : ℕ

abbrev looks_after : (g : Polling) (log : Log) (s : ScriptState) (r : Reader) (c : Calling) → Looks g log s r c → List Placed
looks_after g log s r c h = h.is.looks ++ look_now log h.place h.len ∷ []

all_looks : (g : Polling) (log : Log) (s : ScriptState) (r : Reader) (c : Calling) (h : Looks g log s r c) → IsCall log h.is.from (looks_after g log s r c h)
all_looks g log s r c h = call_more log h.is.from h.place h.len h.is.looks h.is.within h.is.is_call

-- what the script has of the reader
abbrev calling_state : Reader → Calling → ReaderState
calling_state r c = record { seen = rows_seen r.known; call = Some c }

is_rows : (g : Polling) (log : Log) (s : ScriptState) (reader : ℕ) (r : Reader) (c : Calling) (h : Looks g log s r c) (what : Reading)
    → IsFound g log (looks_after g log s r c h) what → IsRows s reader (calling_state r c) c (replies.Rows reader what.dataset.shape.rows)
is_rows g log s reader r c h what found =
    let f : Placed → ℕ = λ l. flushed_at log l.position in
    let ls = looks_after g log s r c h in
    let here = rows_shown g log found.look.position what h.holds found.shown in
    let later : h.is.from ≤ found.look.position = (call_from log h.is.from ls found.look (all_looks g log s r c h) found.taken).0 in
    let looked : Contains (reverse (map f ls)) (f found.look) = contains_reversed (map f ls) (f found.look) (contains_mapped f ls found.look found.taken) in
    let all : reverse (map f ls) ≡ s.flushed ∷ c.at_looks = rows_more log s h.is.looks h.place h.len h.follows ∙ ap (λ (ns : List ℕ). s.flushed ∷ ns) (sym h.is.at_looks) in
    record {
      rows = what.dataset.shape.rows;
      is = refl;
      flushed = subst (λ (n : ℕ). Contains (s.flushed ∷ c.at_looks) n) (sym here) (subst (λ (ns : List ℕ). Contains ns (f found.look)) all looked);
      since_begin = omega (arith, h.is.begun, here, flushed_laws.rises log h.is.from found.look.position later);
      seen = seen_before g log h.is.from found.look.position r.known what h.holds h.is.knew later found.shown;
    }

is_again : (g : Polling) (log : Log) (s : ScriptState) (reader : ℕ) (r : Reader) (c : Calling) (h : Looks g log s r c) (attempts : ℕ)
    → IsOverCommits g log h.is.from attempts → IsAgain g.rules reader c (replies.Again reader attempts)
is_again g log s reader r c h attempts over = record {
  is = ap (λ n. replies.Again reader n) over.all;
  rises = omega (arith, over.all, over.count, h.is.rises over.positions over.rising);
}

is_looking : (g : Polling) (log : Log) (s : ScriptState) (reader : ℕ) (r : Reader) (c : Calling) (h : Looks g log s r c) (bound : ℕ)
    → length (looks_after g log s r c h) < bound → IsLooking reader c 1 bound (replies.Looking reader)
is_looking g log s reader r c h bound fewer = record {
  is = refl;
  fewer = omega (arith, h.is.count, looks_counted h.is.looks (look_now log h.place h.len), fewer);
}

most_is : (g : Polling) (log : Log) (s : ScriptState) → Follows log s → most_rows_looks g.rules log ≡ most_looks g.rules s
most_is g log s follows = ap (λ (vs : List ℤ). 2 + g.rules.attempts * (2 + 21 * needed_chunks g.rules.cutting (rows_in g.rules vs))) (sym follows.appended)

-- the call goes on
goes_on : (g : Polling) (log : Log) (s : ScriptState) (r : Reader) (c : Calling) (h : Looks g log s r c) (program left : Unfinished) (begins : Begins r.rules r.known program)
    → c.kind ≡ kind_of r.rules r.known program begins → Some left ≡ left_after (looks_of (looks_after g log s r c h)) program → Wants (Some left)
    → Polls g log (record { seen = rows_seen r.known; call = Some (looked s c 1) }) (with_left r (Some left))
goes_on g log s r c h program left begins kind is wants = record {
  rules = h.rules;
  seen = refl;
  call = record {
    program = program;
    looks = looks_after g log s r c h;
    asking = (begins, is);
    wants = wants;
    from = h.is.from;
    after_first = h.is.after_first;
    within = h.is.within;
    knew = h.is.knew;
    is_call = all_looks g log s r c h;
    kind = kind;
    count = omega (arith, h.is.count, looks_counted h.is.looks (look_now log h.place h.len));
    begun = h.is.begun;
    at_looks = ap (λ (ns : List ℕ). s.flushed ∷ ns) h.is.at_looks ∙ sym (rows_more log s h.is.looks h.place h.len h.follows);
    rises = h.is.rises;
  };
}

-- the call is over, and no more is known
over : (g : Polling) (log : Log) (s : ScriptState) (r : Reader) (c : Calling) → Looks g log s r c → Polls g log (record { seen = rows_seen r.known; call = None }) (with_left r None)
over g log s r c h = record { rules = h.rules; seen = refl; call = (refl, knows_later g log h.is.from (now log) r.known h.is.within h.is.knew) }

-- ---- A call for rows

by_rules : (g : Polling) (log : Log) (s : ScriptState) (r : Reader) (c : Calling) (h : Looks g log s r c) (q : Prog (Result Reading ReadError))
    → rest_after (rows_program r.rules r.known) (looks_of (looks_after g log s r c h)) ≡ Some q → rest_after (rows_program (reader_rules g) r.known) (looks_of (looks_after g log s r c h)) ≡ Some q
by_rules g log s r c h q is = subst (λ (rules : ReaderRules). rest_after (rows_program rules r.known) (looks_of (looks_after g log s r c h)) ≡ Some q) h.rules is

-- what these looks come to
rows_of : (g : Polling) (log : Log) (s : ScriptState) (r : Reader) (c : Calling) (h : Looks g log s r c) (a : Result Reading ReadError)
    → rest_after (rows_program r.rules r.known) (looks_of (looks_after g log s r c h)) ≡ Some (ret a) → RowsAnswer g log h.is.from (looks_after g log s r c h) a
rows_of g log s r c h a takes =
    rows_answered g log h.is.from r.known (looks_after g log s r c h) a h.holds h.is.after_first h.is.knew (all_looks g log s r c h) (by_rules g log s r c h (ret a) takes)

rows_bound : (g : Polling) (log : Log) (s : ScriptState) (r : Reader) (c : Calling) (h : Looks g log s r c) (q : Prog (Result Reading ReadError))
    → rest_after (rows_program r.rules r.known) (looks_of (looks_after g log s r c h)) ≡ Some q → WantsMore q → length (looks_after g log s r c h) < most_looks g.rules s
rows_bound g log s r c h q is wants =
    let few = rows_fewer g log h.is.from r.known (looks_after g log s r c h) q h.holds h.is.after_first h.is.within h.is.knew (all_looks g log s r c h) (by_rules g log s r c h q is) wants in
    omega (arith, few, most_is g log s h.follows)

-- what comes of a look
rows_reply : (g : Polling) (log : Log) (s : ScriptState) (reader : ℕ) (r : Reader) (c : Calling) (q : Prog (Result Reading ReadError)) (h : Looks g log s r c) → c.kind ≡ for_rows → IsPlain q
    → rest_after (rows_program r.rules r.known) (looks_of (looks_after g log s r c h)) ≡ Some q → Replies g log s reader (calling_state r c) r (rows_left q)
rows_reply g log s reader r c (ret (Ok what)) h kind plain is =
    let found = rows_of g log s r c h (Ok what) is in
    let x : ReaderState = calling_state r c in
    record {
      reply = replies.Rows reader what.dataset.shape.rows;
      is = refl;
      allowed = subst (λ (k : CallKind). AnswerAllowed g.rules s reader x c 1 k (replies.Rows reader what.dataset.shape.rows)) (sym kind) (inl (omega arith, inl (is_rows g log s reader r c h what found)));
      polls = record { rules = h.rules; seen = refl; call = (refl, record { position = found.look.position; earlier = found.shown.position.reached; shown = found.shown }) };
    }
rows_reply g log s reader r c (ret (Err (refusals.Again attempts place first last))) h kind plain is =
    let x : ReaderState = calling_state r c in
    record {
      reply = replies.Again reader attempts;
      is = refl;
      allowed = subst (λ (k : CallKind). AnswerAllowed g.rules s reader x c 1 k (replies.Again reader attempts)) (sym kind)
          (inl (omega arith, inr (is_again g log s reader r c h attempts (rows_of g log s r c h (Err (refusals.Again attempts place first last)) is))));
      polls = over g log s r c h;
    }
rows_reply g log s reader r c (ret (Err e)) h kind plain is = absurd (rows_of g log s r c h (Err e) is)
rows_reply g log s reader r c (whole at n next) h kind plain is =
    let x : ReaderState = calling_state r c in
    record {
      reply = replies.Looking reader;
      is = refl;
      allowed = subst (λ (k : CallKind). AnswerAllowed g.rules s reader x c 1 k (replies.Looking reader)) (sym kind)
          (inr (is_looking g log s reader r c h (most_looks g.rules s) (rows_bound g log s r c h (whole at n next) is tt)));
      polls = goes_on g log s r c h (rows_left (rows_program r.rules r.known)) (rows_left (whole at n next)) refl kind (sym (ap (λ (o : Option (Prog (Result Reading ReadError))). option_map rows_left o) is))
          (record { place = at; len = n; is = refl });
    }
rows_reply g log s reader r c (counted at counts next) h kind plain is = absurd plain
rows_reply g log s reader r c (stored k at n next) h kind plain is = absurd plain

-- ---- A call for values

-- what is known is what rows are read of
read_known : (g : Polling) (log : Log) (s : ScriptState) (r : Reader) (c : Calling) (p : Prog (Result (List ℤ) ReadError)) (h : Looks g log s r c) (begins : IsRead r.known p) → Knows g log h.is.from (Some begins.reading)
read_known g log s r c p h begins = subst (λ (o : Option Reading). Knows g log h.is.from o) begins.is_known h.is.knew

values_of_call : (g : Polling) (log : Log) (s : ScriptState) (r : Reader) (c : Calling) (p : Prog (Result (List ℤ) ReadError)) (h : Looks g log s r c) (begins : IsRead r.known p) (a : Result (List ℤ) ReadError)
    → rest_after (values_call begins.reading begins.from begins.count) (looks_of (looks_after g log s r c h)) ≡ Some (ret a) → a ≡ Ok (values_in g.rules log begins.from begins.count)
values_of_call g log s r c p h begins a takes =
    values_answered g log h.is.from begins.from begins.count begins.reading (looks_after g log s r c h) a h.holds (read_known g log s r c p h begins)
    (all_looks g log s r c h) begins.some begins.inside takes

-- what comes of a look
values_reply : (g : Polling) (log : Log) (s : ScriptState) (reader : ℕ) (r : Reader) (c : Calling) (p q : Prog (Result (List ℤ) ReadError)) (h : Looks g log s r c) (begins : IsRead r.known p)
    → c.kind ≡ for_values begins.from begins.count → IsPlain q → rest_after p (looks_of (looks_after g log s r c h)) ≡ Some q
    → Replies g log s reader (calling_state r c) r (values_left q)
values_reply g log s reader r c p (ret (Ok values)) h begins kind plain is =
    let x : ReaderState = calling_state r c in
    let call = subst (λ (o : Prog (Result (List ℤ) ReadError)). rest_after o (looks_of (looks_after g log s r c h)) ≡ Some (ret (Ok values))) begins.is is in
    let found : ◌≡◌ {A = Result (List ℤ) ReadError} (Ok values) (Ok (values_in g.rules log begins.from begins.count)) = values_of_call g log s r c p h begins (Ok values) call in
    let same : values ≡ values_in g.rules log begins.from begins.count = cc in
    record {
      reply = replies.Values reader values;
      is = refl;
      allowed = subst (λ (k : CallKind). AnswerAllowed g.rules s reader x c 1 k (replies.Values reader values)) (sym kind)
          (inl (omega arith, ap (λ (vs : List ℤ). replies.Values reader vs) (same ∙ script_values g log s begins.from begins.count h.follows)));
      polls = over g log s r c h;
    }
values_reply g log s reader r c p (ret (Err e)) h begins kind plain is =
    let call = subst (λ (o : Prog (Result (List ℤ) ReadError)). rest_after o (looks_of (looks_after g log s r c h)) ≡ Some (ret (Err e))) begins.is is in
    let found : ◌≡◌ {A = Result (List ℤ) ReadError} (Err e) (Ok (values_in g.rules log begins.from begins.count)) = values_of_call g log s r c p h begins (Err e) call in cc
values_reply g log s reader r c p (whole at n next) h begins kind plain is =
    let x : ReaderState = calling_state r c in
    let call = subst (λ (o : Prog (Result (List ℤ) ReadError)). rest_after o (looks_of (looks_after g log s r c h)) ≡ Some (whole at n next)) begins.is is in
    let few = values_fewer g log h.is.from begins.from begins.count begins.reading (looks_after g log s r c h) (whole at n next) h.holds (read_known g log s r c p h begins) begins.some call tt in
    record {
      reply = replies.Looking reader;
      is = refl;
      allowed = subst (λ (k : CallKind). AnswerAllowed g.rules s reader x c 1 k (replies.Looking reader)) (sym kind)
          (inr (is_looking g log s reader r c h (most_value_looks g.rules begins.from begins.count) few));
      polls = goes_on g log s r c h (values_left p) (values_left (whole at n next)) begins kind (sym (ap (λ (o : Option (Prog (Result (List ℤ) ReadError))). option_map values_left o) is))
          (record { place = at; len = n; is = refl });
    }
values_reply g log s reader r c p (counted at counts next) h begins kind plain is = absurd plain
values_reply g log s reader r c p (stored k at n next) h begins kind plain is = absurd plain

-- ---- Either

-- the bytes of a look at the image of now
abbrev bytes_now : Log → ℕ → ℕ → List ℕ
bytes_now log place n = range (image log.start (hist log.events)) place n

rows_rest : (o : Option (Prog (Result Reading ReadError))) (left : Unfinished) → Some left ≡ option_map rows_left o → (p : Prog (Result Reading ReadError)) × (o ≡ Some p) × (left ≡ rows_left p)
rows_rest None left e = cc
rows_rest (Some p) left e = (p, refl, cc)

values_rest : (o : Option (Prog (Result (List ℤ) ReadError))) (left : Unfinished) → Some left ≡ option_map values_left o → (p : Prog (Result (List ℤ) ReadError)) × (o ≡ Some p) × (left ≡ values_left p)
values_rest None left e = cc
values_rest (Some p) left e = (p, refl, cc)

gives_by : (g : Polling) (log : Log) (s : ScriptState) (reader : ℕ) (r : Reader) (c : Calling) (left : Unfinished) (h : Looks g log s r c) (program : Unfinished) (begins : Begins r.rules r.known program)
    → c.kind ≡ kind_of r.rules r.known program begins → Some left ≡ left_after (looks_of h.is.looks) program → next_look_of left ≡ Some (h.place, h.len)
    → Replies g log s reader (calling_state r c) r (fed_left (bytes_now log h.place h.len) left)
gives_by g log s reader r c left h (rows_left p) begins kind is wants =
    let rest = rows_rest (rest_after p (looks_of h.is.looks)) left is in
    let b : List ℕ = bytes_now log h.place h.len in
    let more : rest_after p (looks_of (looks_after g log s r c h)) ≡ Some (fed b rest.0) =
    rest_more log p rest.0 h.is.looks h.place h.len rest.1 (ap next_look_of (sym rest.2) ∙ wants) in
    let call : rest_after (rows_program r.rules r.known) (looks_of (looks_after g log s r c h)) ≡ Some (fed b rest.0) =
    subst (λ (o : Prog (Result Reading ReadError)). rest_after o (looks_of (looks_after g log s r c h)) ≡ Some (fed b rest.0)) begins more in
    subst (λ (u : Unfinished). Replies g log s reader (calling_state r c) r (fed_left b u)) (sym rest.2)
    (rows_reply g log s reader r c (fed b rest.0) h kind
    (plain_rest (rows_program r.rules r.known) (looks_of (looks_after g log s r c h)) (fed b rest.0) (plain_program r.rules r.known) call) call)
gives_by g log s reader r c left h (values_left p) begins kind is wants =
    let rest = values_rest (rest_after p (looks_of h.is.looks)) left is in
    let b : List ℕ = bytes_now log h.place h.len in
    let more : rest_after p (looks_of (looks_after g log s r c h)) ≡ Some (fed b rest.0) =
    rest_more log p rest.0 h.is.looks h.place h.len rest.1 (ap next_look_of (sym rest.2) ∙ wants) in
    let plain : IsPlain p = subst (λ (o : Prog (Result (List ℤ) ReadError)). IsPlain o) (sym begins.is) (plain_values begins.reading begins.from begins.count) in
    subst (λ (u : Unfinished). Replies g log s reader (calling_state r c) r (fed_left b u)) (sym rest.2)
    (values_reply g log s reader r c p (fed b rest.0) h begins kind (plain_rest p (looks_of (looks_after g log s r c h)) (fed b rest.0) plain more) more)

gives : (g : Polling) (log : Log) (s : ScriptState) (reader : ℕ) (call : Option Calling) (r : Reader) (left : Unfinished) (place len : ℕ) → LogHolds g log → Follows log s
    → r.rules ≡ reader_rules g → CallPolls g log r call → r.left ≡ Some left → next_look_of left ≡ Some (place, len)
    → Replies g log s reader (record { seen = rows_seen r.known; call = call }) r (fed_left (bytes_now log place len) left)
gives g log s reader None r left place len holds follows rules h e wants = absurd (let f : Some left ≡ None = sym e ∙ h.0 in cc)
gives g log s reader (Some c) r left place len holds follows rules h e wants =
    gives_by g log s reader r c left (record { holds = holds; follows = follows; rules = rules; is = h; place = place; len = len }) h.program h.asking.0 h.kind (sym e ∙ h.asking.1) wants

wants : (g : Polling) (log : Log) (call : Option Calling) (r : Reader) (left : Unfinished) → CallPolls g log r call → r.left ≡ Some left → Wants (Some left)
wants g log None r left h e = absurd (let f : Some left ≡ None = sym e ∙ h.0 in cc)
wants g log (Some c) r left h e = subst (λ (o : Option Unfinished). Wants o) e h.wants

pub look_laws : LookLaws
look_laws = record {
  wants = λ g log x r left h e. wants g log x.call r left h.call e;
  gives = λ g log s reader x r left place len holds follows h e is.
      subst (λ (n : ℕ). Replies g log s reader (record { seen = n; call = x.call }) r (fed_left (bytes_now log place len) left)) (sym h.seen)
      (gives g log s reader x.call r left place len holds follows h.rules h.call e is);
}
