-- One dataset alone.
use Rattle.std.proofs.Common.{◌≡◌, ◌⊎◌, ℕ, zero, suc, ◌+◌, ◌-◌, ◌*◌, ◌<◌, ◌≤◌, cond, Bool, true, false, List, [], ◌∷◌, ◌++◌, map, Option, Some, None, refl, sym, ◌∙◌, ap, subst, inl, inr, arith}
use Rattle.std.specs.Prelude.{ℤ, min, nat_lt, ◌==◌, MatchBool}
use Rattle.std.proofs.lemmas.Bool.{cond_both, leb-false, ltb-false}
use Rattle.h5w_model.specs.Lawful.{Rules, Line, adds, flushes, shows_up_to, ends, opens, refreshes, reads, looks, CallKind, for_rows, for_values, Calling, ReaderState, ScriptState, Allowed, AnswerAllowed, CallAllowed, FlushAllowed, IsEarly, IsFull, IsPlanned, Lawful, LookAllowed, after_looks, after_shows, append_reply, begin_reply, begun_call, committed, first_outside, fitting_reply, idle_or, load_of, next_state, on_reader, open_reply, read_reply, reader_in, refresh_reply, rows_in, rows_of, with_reader}
use Rattle.h5w_model.specs.Logs.{needed_chunks}
use Rattle.h5w_model.specs.declared.reply.Reply.{Reply}
use Rattle.h5w_model.specs.declared.reply.Reply.TheVariants as replies
use Rattle.h5w_script_laws.proofs.PutLemmas.{put_same}
use Rattle.h5w_several_script_laws.specs.Scripts.{FileLine, uses, asks, FileReply, using, flushing_each, says, FileState, SetState, AllowedAll, AllowedOf, AppendAllowedIn, ArePlanned, FlushAllowedIn, IsEarlyIn, IsFullIn, IsPlannedIn, LawfulAll, append_reply_in, asked_of, due, next_all, rows_wait, set_asked, sets_after, total}
use Rattle.h5w_several_script_laws.specs.Alone.{OneDatasetLaws, alone, of_one}

-- ---- By whether a test holds

match_true : (P Q : Type 0) (b : Bool) → b ≡ true → P → MatchBool b P Q
match_true P Q true e h = h
match_true P Q false e h = absurd (let clash : false ≡ true = e in cc)

match_false : (P Q : Type 0) (b : Bool) → b ≡ false → Q → MatchBool b P Q
match_false P Q true e h = absurd (let clash : true ≡ false = e in cc)
match_false P Q false e h = h

match_out : (P Q R : Type 0) (b : Bool) → (b ≡ true → P → R) → (b ≡ false → Q → R) → MatchBool b P Q → R
match_out P Q R true f g h = f refl h
match_out P Q R false f g h = g refl h

if_same : (b : Bool) → cond b true false ≡ b
if_same true = refl
if_same false = refl

-- ---- Replies

-- the reply says no pieces of a flush
abbrev Plain : Reply → Type 0
Plain reply = of_one reply ≡ says reply

plain_as : (reply own : Reply) → reply ≡ own → Plain own → Plain reply
plain_as reply own is h = subst Plain (sym is) h

fitting_plain : (g : Rules) (all : List ℤ) → Plain (fitting_reply g all)
fitting_plain g all =
    let needed = needed_chunks g.cutting (rows_in g all) in
    cond_both (nat_lt g.chunk_limit needed) (replies.FullChunks needed g.chunk_limit) (replies.Appended (rows_in g all) 0) Plain (λ t. refl) (λ t. refl)

append_plain : (g : Rules) (s : ScriptState) (vs : List ℤ) → Plain (append_reply g s vs)
append_plain g s vs =
    let rest : Reply = elim (first_outside g.int_type 0 vs) as (λ _. Reply) [ Some x ↦ replies.OutOfRange x.0 x.1 | None ↦ fitting_reply g (s.appended ++ vs) ] in
    cond_both s.stopped replies.Stopped (cond (nat_lt 0 s.pending) (replies.Busy s.pending) rest) Plain
    (λ t. refl)
    (λ t. cond_both (nat_lt 0 s.pending) (replies.Busy s.pending) rest Plain (λ t. refl) (λ t. outside (first_outside g.int_type 0 vs)))
  where
    outside : (o : Option (ℕ × ℤ)) → Plain (elim o as (λ _. Reply) [ Some x ↦ replies.OutOfRange x.0 x.1 | None ↦ fitting_reply g (s.appended ++ vs) ])
    outside None = fitting_plain g (s.appended ++ vs)
    outside (Some x) = refl

open_plain : (s : ScriptState) (r : ℕ) → Plain (open_reply s r)
open_plain s r = of_reader (reader_in r s.readers)
  where
    of_reader : (o : Option ReaderState) → Plain (elim o as (λ _. Reply) [ Some x ↦ replies.ReaderExists r | None ↦ replies.Opening r ])
    of_reader None = refl
    of_reader (Some x) = refl

begin_plain : (absent busy : Reply) (begin : ReaderState → Reply) (o : Option ReaderState) → Plain absent → Plain busy → ((x : ReaderState) → Plain (begin x)) → Plain (begin_reply absent o (idle_or busy begin))
begin_plain absent busy begin None a b c = a
begin_plain absent busy begin (Some x) a b c = of_call x.call
  where
    of_call : (call : Option Calling) → Plain (elim call as (λ _. Reply) [ Some c ↦ busy | None ↦ begin x ])
    of_call None = c x
    of_call (Some d) = b

refresh_plain : (s : ScriptState) (r : ℕ) → Plain (refresh_reply s r)
refresh_plain s r = begin_plain (replies.NoReader r) (replies.ReaderBusy r) (λ x. replies.Refreshing r) (reader_in r s.readers) refl refl (λ x. refl)

read_plain : (s : ScriptState) (r from count : ℕ) → Plain (read_reply s r from count)
read_plain s r from count =
    begin_plain (replies.NoReader r) (replies.ReaderBusy r)
    (λ x. cond (nat_lt x.seen (from + count)) (replies.OutOfRows r from count x.seen) (cond (count == 0) (replies.Values r []) (replies.Reading r)))
    (reader_in r s.readers) refl refl
    (λ x.
    cond_both (nat_lt x.seen (from + count)) (replies.OutOfRows r from count x.seen) (cond (count == 0) (replies.Values r []) (replies.Reading r)) Plain
    (λ t. refl)
    (λ t. cond_both (count == 0) (replies.Values r []) (replies.Reading r) Plain (λ t. refl) (λ t. refl)))

answer_plain : (g : Rules) (s : ScriptState) (r : ℕ) (x : ReaderState) (c : Calling) (k : ℕ) (kind : CallKind) (reply : Reply) → AnswerAllowed g s r x c k kind reply → Plain reply
answer_plain g s r x c k for_rows reply (inl (some, inl h)) = plain_as reply (replies.Rows r h.rows) h.is refl
answer_plain g s r x c k for_rows reply (inl (some, inr h)) = plain_as reply (replies.Again r g.attempts) h.is refl
answer_plain g s r x c k for_rows reply (inr h) = plain_as reply (replies.Looking r) h.is refl
answer_plain g s r x c k (for_values from count) reply (inl (some, h)) = plain_as reply (replies.Values r _) h refl
answer_plain g s r x c k (for_values from count) reply (inr h) = plain_as reply (replies.Looking r) h.is refl

look_plain : (g : Rules) (s : ScriptState) (r k : ℕ) (o : Option ReaderState) (reply : Reply) → LookAllowed g s r k o reply → Plain reply
look_plain g s r k None reply h = plain_as reply (replies.NoReader r) h refl
look_plain g s r k (Some x) reply h = of_call x.call h
  where
    of_call : (call : Option Calling) → CallAllowed g s r x k call reply → Plain reply
    of_call None h = plain_as reply (replies.Idle r) h refl
    of_call (Some c) h = answer_plain g s r x c k c.kind reply h

-- ---- The one dataset

abbrev one_set : Rules → ScriptState → SetState
one_set g s = record { rules = g; state = s }

one_total : (n : ℕ) → n ≡ total (n ∷ [])
one_total n = omega arith

asked_alone : (g : Rules) (s : ScriptState) (r : ℕ) → set_asked (alone g s) r ≡ 0
asked_alone g s r = of_reader (reader_in r s.readers)
  where
    of_reader : (o : Option ReaderState) → elim o as (λ _. ℕ) [ Some y ↦ 0 | None ↦ 0 ] ≡ 0
    of_reader None = refl
    of_reader (Some y) = refl

set_is : (x y : SetState) → ◌≡◌ {A = Option SetState} (Some x) (Some y) → x ≡ y
set_is x y e = cc

-- ---- Append

append_same : (g : Rules) (s : ScriptState) (vs : List ℤ) → append_reply g s vs ≡ append_reply_in (alone g s) (one_set g s) vs
append_same g s vs = ap (λ (n : ℕ). append_reply g (record s { pending = n; stopped = s.stopped }) vs) (one_total s.pending)

append_allowed : (g : Rules) (s : ScriptState) (vs : List ℤ) (reply : Reply) → Allowed g s (adds vs) reply → AppendAllowedIn (alone g s) vs (of_one reply)
append_allowed g s vs reply (inl h) = record { set = one_set g s; used = refl; allowed = inl (ap of_one h ∙ append_plain g s vs ∙ ap says (append_same g s vs)) }
append_allowed g s vs reply (inr h) = record {
  set = one_set g s;
  used = refl;
  allowed = inr (record {
    pieces = h.pieces;
    accepted = sym (append_same g s vs) ∙ h.accepted;
    is = ap of_one h.is;
    some = h.some;
    bound = omega (arith, h.bound);
    over = omega (arith, h.over);
  });
}

append_only : (g : Rules) (s : ScriptState) (vs : List ℤ) (reply : FileReply) → AppendAllowedIn (alone g s) vs reply → (own : Reply) × (reply ≡ of_one own) × Allowed g s (adds vs) own
append_only g s vs reply h = of_set (subst (λ (x : SetState). (reply ≡ says (append_reply_in (alone g s) x vs)) ⊎ IsEarlyIn (alone g s) x vs reply) (sym (set_is (one_set g s) h.set h.used)) h.allowed)
  where
    of_set : (reply ≡ says (append_reply_in (alone g s) (one_set g s) vs)) ⊎ IsEarlyIn (alone g s) (one_set g s) vs reply → (own : Reply) × (reply ≡ of_one own) × Allowed g s (adds vs) own
    of_set (inl e) = (append_reply g s vs, e ∙ sym (append_plain g s vs ∙ ap says (append_same g s vs)), inl refl)
    of_set (inr k) = (
      replies.Appended (rows_in g (s.appended ++ vs)) k.pieces,
      k.is,
      inr (record {
        pieces = k.pieces;
        accepted = append_same g s vs ∙ k.accepted;
        is = refl;
        some = k.some;
        bound = omega (arith, k.bound);
        over = omega (arith, k.over);
      }),
    )

-- ---- Flush

busy_same : (n : ℕ) → nat_lt 0 n ≡ nat_lt 0 (total (n ∷ []))
busy_same n = ap (nat_lt 0) (one_total n)

module _ (g : Rules) (s : ScriptState) where
  planned_in : (reply : Reply) → rows_wait (one_set g s) ≡ true → IsPlanned g s reply ⊎ IsFull g s reply → IsPlannedIn (alone g s) (of_one reply) ⊎ IsFullIn (alone g s) (of_one reply)
  planned_in reply wait (inl h) = inl (record {
    counts = h.pieces ∷ [];
    is = ap of_one h.is;
    each = (match_true (1 ≤ h.pieces) (h.pieces ≡ 0) (rows_wait (one_set g s)) wait h.positive, tt);
    bound = omega (arith, h.bound);
  })
  planned_in reply wait (inr h) = inr (record {
    place = h.place;
    size = h.size;
    is = ap of_one h.is;
    positive = h.positive;
    size_bound = omega (arith, h.size_bound);
    place_bound = omega (arith, h.place_bound);
    full = h.full;
  })

  flush_allowed : (reply : Reply) → FlushAllowed g s reply → FlushAllowedIn (alone g s) (of_one reply)
  flush_allowed reply h =
      match_out _ _ (FlushAllowedIn (alone g s) (of_one reply)) s.stopped
      (λ t e. match_true _ _ s.stopped t (ap of_one e))
      (λ f going. match_false _ _ s.stopped f
      (match_out _ _ _ (nat_lt 0 s.pending)
      (λ t e. match_true _ _ (nat_lt 0 (total (s.pending ∷ []))) (sym (busy_same s.pending) ∙ t) (ap of_one e ∙ ap (λ (n : ℕ). says (replies.Busy n)) (one_total s.pending)))
      (λ f idle. match_false _ _ (nat_lt 0 (total (s.pending ∷ []))) (sym (busy_same s.pending) ∙ f)
      (match_out _ _ _ (rows_wait (one_set g s))
      (λ t some. match_true _ _ (cond (rows_wait (one_set g s)) true false) (if_same (rows_wait (one_set g s)) ∙ t) (planned_in reply t some))
      (λ f e. match_false _ _ (cond (rows_wait (one_set g s)) true false) (if_same (rows_wait (one_set g s)) ∙ f) (ap of_one e))
      idle))
      going))
      h

  -- pieces for one dataset are one number
  one_part : (counts : List ℕ) → ArePlanned (one_set g s ∷ []) counts → (n : ℕ) × (counts ≡ n ∷ []) × MatchBool (rows_wait (one_set g s)) (1 ≤ n) (n ≡ 0)
  one_part [] h = absurd h
  one_part (n ∷ []) h = (n, refl, h.0)
  one_part (n ∷ m ∷ ms) h = absurd h.1

  abbrev Own : FileReply → Type 0
  Own reply = (own : Reply) × (reply ≡ of_one own) × FlushAllowed g s own

  waiting_own : (reply : FileReply) → s.stopped ≡ false → nat_lt 0 s.pending ≡ false → rows_wait (one_set g s) ≡ true → IsPlannedIn (alone g s) reply ⊎ IsFullIn (alone g s) reply → Own reply
  waiting_own reply going idle wait (inl p) =
      let one = one_part p.counts p.each in
      let some : 1 ≤ one.0 = match_out (1 ≤ one.0) (one.0 ≡ 0) (1 ≤ one.0) (rows_wait (one_set g s)) (λ t h. h) (λ f h. let clash : true ≡ false = sym wait ∙ f in cc) one.2 in
      let few : total p.counts ≡ total (one.0 ∷ []) = ap total one.1 in (
        replies.Flushing one.0,
        p.is ∙ ap flushing_each one.1,
        match_false _ _ s.stopped going (match_false _ _ (nat_lt 0 s.pending) idle (match_true _ _ (rows_wait (one_set g s)) wait
            (inl (record { pieces = one.0; is = refl; positive = some; bound = omega (arith, p.bound, few) })))),
      )
  waiting_own reply going idle wait (inr f) = (
    replies.FullSpace f.place f.size g.space_limit,
    f.is,
    match_false _ _ s.stopped going (match_false _ _ (nat_lt 0 s.pending) idle (match_true _ _ (rows_wait (one_set g s)) wait
        (inr (record {
          place = f.place;
          size = f.size;
          is = refl;
          positive = f.positive;
          size_bound = omega (arith, f.size_bound);
          place_bound = omega (arith, f.place_bound);
          full = f.full;
        })))),
  )

  flush_only : (reply : FileReply) → FlushAllowedIn (alone g s) reply → Own reply
  flush_only reply h =
      match_out _ _ (Own reply) s.stopped
      (λ t e. (replies.Stopped, e, match_true _ _ s.stopped t refl))
      (λ going. match_out _ _ (Own reply) (nat_lt 0 (total (s.pending ∷ [])))
      (λ t e. (
        replies.Busy s.pending,
        e ∙ ap (λ (n : ℕ). says (replies.Busy n)) (sym (one_total s.pending)),
        match_false _ _ s.stopped going (match_true _ _ (nat_lt 0 s.pending) (busy_same s.pending ∙ t) refl),
      ))
      (λ f. match_out _ _ (Own reply) (cond (rows_wait (one_set g s)) true false)
      (λ t some. waiting_own reply going (busy_same s.pending ∙ f) (sym (if_same (rows_wait (one_set g s))) ∙ t) some)
      (λ n e. (
        replies.Flushing 0,
        e,
        match_false _ _ s.stopped going (match_false _ _ (nat_lt 0 s.pending) (busy_same s.pending ∙ f) (match_false _ _ (rows_wait (one_set g s)) (sym (if_same (rows_wait (one_set g s))) ∙ n) refl)),
      ))))
      h

-- ---- Lines of a reader

reader_allowed : (g : Rules) (s : ScriptState) (r : ℕ) (line : Line) (reply : Reply) → Plain reply → Allowed g s line reply → AllowedOf (alone g s) (set_asked (alone g s) r) line (of_one reply)
reader_allowed g s r line reply plain h =
    subst (λ (d : ℕ). AllowedOf (alone g s) d line (of_one reply)) (sym (asked_alone g s r)) (record { set = one_set g s; there = refl; own = reply; is = plain; allowed = h })

reader_only : (g : Rules) (s : ScriptState) (r : ℕ) (line : Line) (reply : FileReply) → ((own : Reply) → Allowed g s line own → Plain own) → AllowedOf (alone g s) (set_asked (alone g s) r) line reply
    → (own : Reply) × (reply ≡ of_one own) × Allowed g s line own
reader_only g s r line reply plain h = of_set (subst (λ (d : ℕ). AllowedOf (alone g s) d line reply) (asked_alone g s r) h)
  where
    of_set : AllowedOf (alone g s) 0 line reply → (own : Reply) × (reply ≡ of_one own) × Allowed g s line own
    of_set k =
        let own : Allowed g s line k.own = subst (λ (x : SetState). Allowed x.rules x.state line k.own) (sym (set_is (one_set g s) k.set k.there)) k.allowed in
        (k.own, k.is ∙ sym (plain k.own own), own)

allowed_alone : (g : Rules) (s : ScriptState) (line : Line) (reply : Reply) → Allowed g s line reply → AllowedAll (alone g s) (asks line) (of_one reply)
allowed_alone g s (adds vs) reply h = append_allowed g s vs reply h
allowed_alone g s flushes reply h = flush_allowed g s reply h
allowed_alone g s (shows_up_to k) reply h = ap of_one h ∙ ap (λ (n : ℕ). says (replies.Written (min k n) (n - min k n))) (one_total s.pending)
allowed_alone g s ends reply h = ap of_one h
allowed_alone g s (opens r) reply h = reader_allowed g s r (opens r) reply (plain_as reply (open_reply s r) h (open_plain s r)) h
allowed_alone g s (refreshes r) reply h = reader_allowed g s r (refreshes r) reply (plain_as reply (refresh_reply s r) h (refresh_plain s r)) h
allowed_alone g s (reads r from count) reply h = reader_allowed g s r (reads r from count) reply (plain_as reply (read_reply s r from count) h (read_plain s r from count)) h
allowed_alone g s (looks r k) reply h = reader_allowed g s r (looks r k) reply (look_plain g s r k (reader_in r s.readers) reply h) h

only_alone : (g : Rules) (s : ScriptState) (line : Line) (reply : FileReply) → AllowedAll (alone g s) (asks line) reply → (own : Reply) × (reply ≡ of_one own) × Allowed g s line own
only_alone g s (adds vs) reply h = append_only g s vs reply h
only_alone g s flushes reply h = flush_only g s reply h
only_alone g s (shows_up_to k) reply h =
    (replies.Written (min k s.pending) (s.pending - min k s.pending), h ∙ sym (ap (λ (n : ℕ). says (replies.Written (min k n) (n - min k n))) (one_total s.pending)), refl)
only_alone g s ends reply h = (replies.Stopped, h, refl)
only_alone g s (opens r) reply h = reader_only g s r (opens r) reply (λ own k. plain_as own (open_reply s r) k (open_plain s r)) h
only_alone g s (refreshes r) reply h = reader_only g s r (refreshes r) reply (λ own k. plain_as own (refresh_reply s r) k (refresh_plain s r)) h
only_alone g s (reads r from count) reply h = reader_only g s r (reads r from count) reply (λ own k. plain_as own (read_reply s r from count) k (read_plain s r from count)) h
only_alone g s (looks r k) reply h = reader_only g s r (looks r k) reply (λ own l. look_plain g s r k (reader_in r s.readers) own l) h

-- ---- The state after a line

-- nothing but the readers is another
abbrev Rereads : ScriptState → ScriptState → Type 0
Rereads s t = t ≡ record s { readers = t.readers }

on_reader_rereads : (s : ScriptState) (r : ℕ) (f : ReaderState → ReaderState) → Rereads s (on_reader s r f)
on_reader_rereads s r f = of_reader (reader_in r s.readers)
  where
    of_reader : (o : Option ReaderState) → Rereads s (elim o as (λ _. ScriptState) [ None ↦ s | Some x ↦ with_reader s r (f x) ])
    of_reader None = refl
    of_reader (Some x) = refl

reread : (g : Rules) (s t : ScriptState) → Rereads s t → record (alone g s) { sets = one_set g t ∷ [] } ≡ alone g t
reread g s t is = λ i. record (alone g s) { sets = one_set g t ∷ []; left = (sym is i).pending ∷ []; spent = (sym is i).spent; stopped = (sym is i).stopped }

reader_next : (g : Rules) (s : ScriptState) (r : ℕ) (line : Line) (reply : Reply) → Rereads s (next_state g s line reply) → asked_of (alone g s) r line reply ≡ alone g (next_state g s line reply)
reader_next g s r line reply is =
    ap (λ (d : ℕ). record (alone g s) { sets = sets_after d line reply (one_set g s ∷ []) }) (asked_alone g s r) ∙ reread g s (next_state g s line reply) is

next_opens : (g : Rules) (s : ScriptState) (r : ℕ) (reply : Reply) → next_all (alone g s) (asks (opens r)) (of_one reply) ≡ alone g (next_state g s (opens r) reply)
next_opens g s r (replies.Flushing pieces) = refl
next_opens g s r (replies.Opening reader) = reader_next g s r (opens r) (replies.Opening reader) refl
next_opens g s r reply = reader_next g s r (opens r) reply refl

next_refreshes : (g : Rules) (s : ScriptState) (r : ℕ) (reply : Reply) → next_all (alone g s) (asks (refreshes r)) (of_one reply) ≡ alone g (next_state g s (refreshes r) reply)
next_refreshes g s r (replies.Flushing pieces) = refl
next_refreshes g s r (replies.Refreshing reader) = reader_next g s r (refreshes r) (replies.Refreshing reader) (on_reader_rereads s r (λ x. record x { call = Some (begun_call s for_rows) }))
next_refreshes g s r reply = reader_next g s r (refreshes r) reply refl

next_reads : (g : Rules) (s : ScriptState) (r from count : ℕ) (reply : Reply) → next_all (alone g s) (asks (reads r from count)) (of_one reply) ≡ alone g (next_state g s (reads r from count) reply)
next_reads g s r from count (replies.Flushing pieces) = refl
next_reads g s r from count (replies.Reading reader) = reader_next g s r (reads r from count) (replies.Reading reader) (on_reader_rereads s r (λ x. record x { call = Some (begun_call s (for_values from count)) }))
next_reads g s r from count reply = reader_next g s r (reads r from count) reply refl

-- a look that is answered with pieces changes nothing: no such answer is allowed
look_nothing : (g : Rules) (s : ScriptState) (r k pieces : ℕ) → next_state g s (looks r k) (replies.Flushing pieces) ≡ s
look_nothing g s r k pieces = of_reader (reader_in r s.readers) refl
  where
    of_reader : (o : Option ReaderState) → reader_in r s.readers ≡ o → elim o as (λ _. ScriptState) [ None ↦ s | Some x ↦ with_reader s r x ] ≡ s
    of_reader None is = refl
    of_reader (Some x) is = ap (λ (xs : List (ℕ × ReaderState)). record s { readers = xs }) (put_same r x s.readers is)

next_looks : (g : Rules) (s : ScriptState) (r k : ℕ) (reply : Reply) → next_all (alone g s) (asks (looks r k)) (of_one reply) ≡ alone g (next_state g s (looks r k) reply)
next_looks g s r k (replies.Flushing pieces) = ap (alone g) (sym (look_nothing g s r k pieces))
next_looks g s r k reply = reader_next g s r (looks r k) reply (on_reader_rereads s r (λ x. after_looks s k x reply))

next_adds : (g : Rules) (s : ScriptState) (vs : List ℤ) (reply : Reply) → next_all (alone g s) (asks (adds vs)) (of_one reply) ≡ alone g (next_state g s (adds vs) reply)
next_adds g s vs (replies.Appended rows pending) =
    let load = load_of g s (s.appended ++ vs) in
    let more : s.spent + (load + 0) ≡ s.spent + load = omega arith in
    ap (λ (n : ℕ). record (alone g (next_state g s (adds vs) (replies.Appended rows pending))) { spent = n }) more
next_adds g s vs (replies.Flushing pieces) = refl
next_adds g s vs reply = refl

alone_due : (n : ℕ) → due 0 n ≡ n
alone_due zero = refl
alone_due (suc n) = omega arith

next_flushes : (g : Rules) (s : ScriptState) (reply : Reply) → next_all (alone g s) (asks flushes) (of_one reply) ≡ alone g (next_state g s flushes reply)
next_flushes g s (replies.Flushing pieces) =
    let load = load_of g s s.appended in
    let more : s.spent + (load + 0) ≡ s.spent + load = omega arith in
    λ i. record (alone g s) { sets = one_set g (next_state g s flushes (replies.Flushing (alone_due pieces i))) ∷ []; left = pieces ∷ []; spent = more i }
next_flushes g s reply = refl

next_shows : (g : Rules) (s : ScriptState) (k : ℕ) (reply : Reply) → next_all (alone g s) (asks (shows_up_to k)) (of_one reply) ≡ alone g (next_state g s (shows_up_to k) reply)
next_shows g s k (replies.Written pieces pending) =
    cond_both (nat_lt pieces s.pending) (record s { pending = s.pending - pieces }) (cond s.ends_flush (committed g s) (record s { pending = 0 }))
    (λ (t : ScriptState). record (alone g s) { sets = one_set g t ∷ []; left = (s.pending - pieces) ∷ [] } ≡ alone g t)
    (λ t. refl)
    (λ f.
    let low : s.pending ≤ pieces = ltb-false pieces s.pending f in
    let none : s.pending - pieces ≡ 0 = omega arith in
    cond_both s.ends_flush (committed g s) (record s { pending = 0 })
    (λ (t : ScriptState). record (alone g s) { sets = one_set g t ∷ []; left = (s.pending - pieces) ∷ [] } ≡ alone g t)
    (λ t i. record (alone g (committed g s)) { left = none i ∷ [] })
    (λ t i. record (alone g (record s { pending = 0 })) { left = none i ∷ [] }))
next_shows g s k (replies.Flushing pieces) = refl
next_shows g s k reply = refl

next_ends : (g : Rules) (s : ScriptState) (reply : Reply) → next_all (alone g s) (asks ends) (of_one reply) ≡ alone g (next_state g s ends reply)
next_ends g s replies.Stopped = refl
next_ends g s (replies.Flushing pieces) = refl
next_ends g s reply = refl

next_alone : (g : Rules) (s : ScriptState) (line : Line) (reply : Reply) → next_all (alone g s) (asks line) (of_one reply) ≡ alone g (next_state g s line reply)
next_alone g s (adds vs) reply = next_adds g s vs reply
next_alone g s flushes reply = next_flushes g s reply
next_alone g s (shows_up_to k) reply = next_shows g s k reply
next_alone g s ends reply = next_ends g s reply
next_alone g s (opens r) reply = next_opens g s r reply
next_alone g s (refreshes r) reply = next_refreshes g s r reply
next_alone g s (reads r from count) reply = next_reads g s r from count reply
next_alone g s (looks r k) reply = next_looks g s r k reply

-- ---- Line after line

lawful_alone : (g : Rules) (s : ScriptState) (lines : List Line) (answers : List Reply) → Lawful g s lines answers → LawfulAll (alone g s) (map asks lines) (map of_one answers)
lawful_alone g s [] [] h = tt
lawful_alone g s [] (reply ∷ rest) h = absurd h
lawful_alone g s (line ∷ lines) [] h = absurd h
lawful_alone g s (line ∷ lines) (reply ∷ rest) h = (
  allowed_alone g s line reply h.0,
  subst (λ (F : FileState). LawfulAll F (map asks lines) (map of_one rest)) (sym (next_alone g s line reply)) (lawful_alone g (next_state g s line reply) lines rest h.1),
)

only_lawful_alone : (g : Rules) (s : ScriptState) (lines : List Line) (answers : List FileReply) → LawfulAll (alone g s) (map asks lines) answers → (own : List Reply) × (answers ≡ map of_one own) × Lawful g s lines own
only_lawful_alone g s [] [] h = ([], refl, tt)
only_lawful_alone g s [] (reply ∷ rest) h = absurd h
only_lawful_alone g s (line ∷ lines) [] h = absurd h
only_lawful_alone g s (line ∷ lines) (reply ∷ rest) h =
    let o = only_alone g s line reply h.0 in
    let then : LawfulAll (alone g (next_state g s line o.0)) (map asks lines) rest =
    subst (λ (F : FileState). LawfulAll F (map asks lines) rest) (ap (next_all (alone g s) (asks line)) o.1 ∙ next_alone g s line o.0) h.1 in
    let later = only_lawful_alone g (next_state g s line o.0) lines rest then in
    (o.0 ∷ later.0, (λ i. o.1 i ∷ later.1 i), (o.2, later.2))

pub one_dataset_laws : OneDatasetLaws
one_dataset_laws = record {
  first = λ g. refl;
  allowed = allowed_alone;
  only = only_alone;
  next = next_alone;
  lawful = lawful_alone;
  only_lawful = only_lawful_alone;
}
