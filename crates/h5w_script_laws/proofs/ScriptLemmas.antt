-- All readers of a script at each of its lines.
use Rattle.std.proofs.Common.{◌≡◌, ◌⊎◌, ℕ, ◌+◌, ◌-◌, ◌<◌, cond, Bool, true, false, List, [], Option, Some, None, option_map, refl, sym, ◌∙◌, ap, subst, inl, inr, arith}
use Rattle.std.specs.Prelude.{ℤ, nat_lt, ◌==◌}
use Rattle.std.proofs.lemmas.Bool.{cond_both, cond-true, cond-false, ltb-true, lt-ltb, le-ltb, ne_eqb}
use Rattle.h5w_model.specs.Logs.{Log, appends, plans, shows, flushed_rows, and_now}
use Rattle.h5w_model.specs.Tables.{Reading}
use Rattle.h5w_model.specs.Calls.{rows_seen}
use Rattle.h5w_model.specs.Unfinished.{Unfinished, next_look_of, Reader}
use Rattle.h5w_model.specs.Lawful.{Line, ScriptState, ReaderState, Calling, for_rows, for_values, reader_in, with_reader, committed, after_shows, after_looks, next_state, LookAllowed, begun_call, begin_reply, idle_or, refresh_reply, read_reply, on_reader}
use Rattle.h5w_model.specs.declared.piece.Write.{Write}
use Rattle.h5w_model.specs.declared.reply.Reply.{Reply}
use Rattle.h5w_model.specs.declared.reply.Reply.TheVariants as replies
use Rattle.h5w_script_laws.specs.Polling.{Polling, now, Knows, CallPolls, Polls, MayPoll}
use Rattle.h5w_script_laws.specs.Premises.{LogHolds}
use Rattle.h5w_script_laws.specs.Laws.{opening, refreshing, reading, begun, risen_reader, reply_to, after_look, Replies}
use Rattle.h5w_script_laws.specs.Scripts.{Readers, AllPoll, and_reader, WriterLineLaws, Polled, BeginLineLaws, looked_now, LookLineLaws}
use Rattle.h5w_script_laws.proofs.PutLemmas.{put_other, put_same}
use Rattle.h5w_script_laws.proofs.EventLemmas.{other_event_laws}
use Rattle.h5w_script_laws.proofs.CallLemmas.{begin_laws, is_idle, values_wants}
use Rattle.h5w_script_laws.proofs.LookLemmas.{look_laws}

-- ---- Lines of the writer

adding : (g : Polling) (s : ScriptState) (values : List ℤ) (reply : Reply) → (next_state g.rules s (Line.adds values) reply).readers ≡ s.readers
adding g s values (replies.Appended rows pending) = refl
adding g s values reply = refl

flushing : (g : Polling) (s : ScriptState) (reply : Reply) → (next_state g.rules s Line.flushes reply).readers ≡ s.readers
flushing g s (replies.Flushing pieces) = refl
flushing g s reply = refl

ending : (g : Polling) (s : ScriptState) (reply : Reply) → (next_state g.rules s Line.ends reply).readers ≡ s.readers
ending g s replies.Stopped = refl
ending g s reply = refl

-- one reader that may be opened, in another log
may_poll : (g : Polling) (old new : Log) (x : Option ReaderState) (r : Option Reader) → ((x : ReaderState) (r : Reader) → Polls g old x r → Polls g new x r)
    → MayPoll g old x r → MayPoll g new x r
may_poll g old new None None each h = h
may_poll g old new (Some x) (Some r) each h = each x r h
may_poll g old new None (Some r) each h = h
may_poll g old new (Some x) None each h = h

may_rise : (g : Polling) (old new : Log) (x : Option ReaderState) (r : Option Reader) → ((x : ReaderState) (r : Reader) → Polls g old x r → Polls g new (risen_reader x) r)
    → MayPoll g old x r → MayPoll g new (option_map risen_reader x) r
may_rise g old new None None each h = h
may_rise g old new (Some x) (Some r) each h = each x r h
may_rise g old new None (Some r) each h = h
may_rise g old new (Some x) None each h = h

pub all_kept : (g : Polling) (old new : Log) (s t : ScriptState) (rs : Readers) → t.readers ≡ s.readers → ((x : ReaderState) (r : Reader) → Polls g old x r → Polls g new x r)
    → AllPoll g old s rs → AllPoll g new t rs
all_kept g old new s t rs same each all n =
    subst (λ (xs : List (ℕ × ReaderState)). MayPoll g new (reader_in n xs) (rs n)) (sym same) (may_poll g old new (reader_in n s.readers) (rs n) each (all n))

shown : (g : Polling) (log : Log) (s : ScriptState) (rs : Readers) (w : Write) (pieces : ℕ)
    → ((pieces < s.pending) ⊎ (s.ends_flush ≡ false) → flushed_rows (and_now (shows w) log) ≡ flushed_rows log)
    → AllPoll g log s rs → AllPoll g (and_now (shows w) log) (after_shows g.rules s pieces) rs
shown g log s rs w pieces level all =
    let new = and_now (shows w) log in
    cond_both (nat_lt pieces s.pending) (record s { pending = s.pending - pieces }) (cond s.ends_flush (committed g.rules s) (record s { pending = 0 }))
    (λ (t : ScriptState). AllPoll g new t rs)
    (λ t.
    let e = level (inl (ltb-true pieces s.pending t)) in
    all_kept g log new s (record s { pending = s.pending - pieces }) rs refl (λ x r h. other_event_laws.showing g log x r w e h) all)
    (λ t.
    cond_both s.ends_flush (committed g.rules s) (record s { pending = 0 }) (λ (t : ScriptState). AllPoll g new t rs)
    (λ ends n.
    subst (λ (o : Option ReaderState). MayPoll g new o (rs n)) (sym (other_event_laws.risen n s.readers))
    (may_rise g log new (reader_in n s.readers) (rs n) (λ x r h. other_event_laws.committing g log x r w h) (all n)))
    (λ open_still.
    let e = level (inr open_still) in
    all_kept g log new s (record s { pending = 0 }) rs refl (λ x r h. other_event_laws.showing g log x r w e h) all))

showing_nothing : (g : Polling) (s : ScriptState) (pieces : ℕ) → s.ends_flush ≡ false → (after_shows g.rules s pieces).readers ≡ s.readers
showing_nothing g s pieces open_still =
    cond_both (nat_lt pieces s.pending) (record s { pending = s.pending - pieces }) (cond s.ends_flush (committed g.rules s) (record s { pending = 0 })) (λ (t : ScriptState). t.readers ≡ s.readers)
    (λ t. refl)
    (λ t. ap (λ (x : ScriptState). x.readers) (cond-false s.ends_flush (committed g.rules s) (record s { pending = 0 }) open_still))

pub writer_line_laws : WriterLineLaws
writer_line_laws = record {
  adding = adding;
  flushing = flushing;
  ending = ending;
  showing_nothing = showing_nothing;
  appended = λ g log s rs values all. all_kept g log (and_now (appends values) log) s s rs refl (λ x r h. other_event_laws.appending g log x r values h) all;
  planned = λ g log s rs pieces some all. all_kept g log (and_now (plans pieces) log) s s rs refl (λ x r h. other_event_laws.planning g log x r pieces some h) all;
  shown = shown;
}

-- ---- One reader

absent : (g : Polling) (log : Log) (x : Option ReaderState) (r : Option Reader) → r ≡ None → MayPoll g log x r → x ≡ None
absent g log None r e h = refl
absent g log (Some x) None e h = absurd h
absent g log (Some x) (Some r) e h = cc

present : (g : Polling) (log : Log) (o : Option ReaderState) (r : Reader) → MayPoll g log o (Some r) → (x : ReaderState) × (o ≡ Some x) × Polls g log x r
present g log None r h = absurd h
present g log (Some x) r h = (x, refl, h)

absent_in : (g : Polling) (log : Log) (s : ScriptState) (rs : Readers) (n : ℕ) → Polled g log s rs → rs n ≡ None → reader_in n s.readers ≡ None
absent_in g log s rs n polled e = absent g log (reader_in n s.readers) (rs n) e (polled.all n)

-- a reader's state as the script has it: what it has seen is what it knows
record Kept (g : Polling) (log : Log) (s : ScriptState) (n : ℕ) (r : Reader) : Type 0 where
  call : Option Calling
  is : reader_in n s.readers ≡ Some (record { seen = rows_seen r.known; call = call })
  polls : Polls g log (record { seen = rows_seen r.known; call = call }) r

kept : (g : Polling) (log : Log) (s : ScriptState) (rs : Readers) (n : ℕ) (r : Reader) → Polled g log s rs → rs n ≡ Some r → Kept g log s n r
kept g log s rs n r polled e =
    let x = present g log (reader_in n s.readers) r (subst (λ (o : Option Reader). MayPoll g log (reader_in n s.readers) o) e (polled.all n)) in
    record {
      call = x.0.call;
      is = x.1 ∙ ap (λ (k : ℕ). Some (record { seen = k; call = x.0.call })) x.2.seen;
      polls = record { rules = x.2.rules; seen = refl; call = x.2.call };
    }

-- one that has no call
idle_in : (g : Polling) (log : Log) (s : ScriptState) (n : ℕ) (r : Reader) (k : Kept g log s n r) → r.left ≡ None → reader_in n s.readers ≡ Some (record { seen = rows_seen r.known; call = None })
idle_in g log s n r k e = k.is ∙ ap (λ (c : Option Calling). Some (record { seen = rows_seen r.known; call = c })) (is_idle g log k.call r k.polls.call e).none

-- one that has one
calling_in : (g : Polling) (log : Log) (s : ScriptState) (n : ℕ) (r : Reader) (left : Unfinished) (k : Kept g log s n r) → r.left ≡ Some left
    → (c : Calling) × (reader_in n s.readers ≡ Some (record { seen = rows_seen r.known; call = Some c }))
calling_in g log s n r left k e = of_call k.call k.is k.polls.call
  where
    of_call : (call : Option Calling) → reader_in n s.readers ≡ Some (record { seen = rows_seen r.known; call = call }) → CallPolls g log r call
        → (c : Calling) × (reader_in n s.readers ≡ Some (record { seen = rows_seen r.known; call = Some c }))
    of_call None is h = absurd (let f : Some left ≡ None = sym e ∙ h.0 in cc)
    of_call (Some c) is h = (c, is)

-- one of two, by whose number it is
may_pick : (g : Polling) (log : Log) (b : Bool) (x : ReaderState) (r : Reader) (o : Option ReaderState) (q : Option Reader) → Polls g log x r → MayPoll g log o q
    → MayPoll g log (cond b (Some x) o) (cond b (Some r) q)
may_pick g log true x r o q h k = h
may_pick g log false x r o q h k = k

all_with : (g : Polling) (log : Log) (s : ScriptState) (rs : Readers) (n : ℕ) (x : ReaderState) (r : Reader) → AllPoll g log s rs → Polls g log x r
    → AllPoll g log (with_reader s n x) (and_reader n r rs)
all_with g log s rs n x r all h k =
    subst (λ (o : Option ReaderState). MayPoll g log o (and_reader n r rs k)) (sym (put_other n k x s.readers)) (may_pick g log (n == k) x r (reader_in k s.readers) (rs k) h (all k))

on_reader_is : (s : ScriptState) (n : ℕ) (f : ReaderState → ReaderState) (x : ReaderState) → reader_in n s.readers ≡ Some x → on_reader s n f ≡ with_reader s n (f x)
on_reader_is s n f x e = ap (λ (o : Option ReaderState). elim o as (λ _. ScriptState) [ None ↦ s | Some x ↦ with_reader s n (f x) ]) e

-- ---- Lines that begin a call

refreshed : (s : ScriptState) (n : ℕ) (o : Option ReaderState) → reader_in n s.readers ≡ o
    → refresh_reply s n ≡ begin_reply (replies.NoReader n) o (idle_or (replies.ReaderBusy n) (λ x. replies.Refreshing n))
refreshed s n o e = ap (λ (o : Option ReaderState). begin_reply (replies.NoReader n) o (idle_or (replies.ReaderBusy n) (λ x. replies.Refreshing n))) e

abbrev read_of : (n from count : ℕ) → ReaderState → Reply
read_of n from count x = cond (nat_lt x.seen (from + count)) (replies.OutOfRows n from count x.seen) (cond (count == 0) (replies.Values n []) (replies.Reading n))

was_read : (s : ScriptState) (n from count : ℕ) (o : Option ReaderState) → reader_in n s.readers ≡ o
    → read_reply s n from count ≡ begin_reply (replies.NoReader n) o (idle_or (replies.ReaderBusy n) (read_of n from count))
was_read s n from count o e = ap (λ (o : Option ReaderState). begin_reply (replies.NoReader n) o (idle_or (replies.ReaderBusy n) (read_of n from count))) e

opened : (s : ScriptState) (n : ℕ) (o : Option ReaderState) → reader_in n s.readers ≡ o → elim o as (λ _. Reply) [ Some x ↦ replies.ReaderExists n | None ↦ replies.Opening n ] ≡ elim (reader_in n s.readers) as (λ _. Reply) [ Some x ↦ replies.ReaderExists n | None ↦ replies.Opening n ]
opened s n o e = sym (ap (λ (o : Option ReaderState). elim o as (λ _. Reply) [ Some x ↦ replies.ReaderExists n | None ↦ replies.Opening n ]) e)

pub begin_line_laws : BeginLineLaws
begin_line_laws = record {
  opens_one = λ g log s rs n polled e.
      let x : ReaderState = record { seen = 0; call = None } in
      record {
        allowed = opened s n None (absent_in g log s rs n polled e);
        state = begun s for_rows x;
        is = refl;
        polls = all_with g log s rs n (begun s for_rows x) (opening g) polled.all (begin_laws.opens g log s polled.follows polled.begun);
      };
  opens_again = λ g log s rs n r polled e.
      let k = kept g log s rs n r polled e in
      record { allowed = opened s n (Some (record { seen = rows_seen r.known; call = k.call })) k.is; same = refl };
  refreshes_one = λ g log s rs n r polled e none.
      let k = kept g log s rs n r polled e in
      let there = idle_in g log s n r k none in
      let x : ReaderState = record { seen = rows_seen r.known; call = None } in
      record {
        allowed = sym (refreshed s n (Some x) there);
        state = begun s for_rows x;
        is = on_reader_is s n (λ x. record x { call = Some (begun_call s for_rows) }) x there;
        polls = all_with g log s rs n (begun s for_rows x) (refreshing r) polled.all
            (begin_laws.refreshes g log s (record { seen = rows_seen r.known; call = k.call }) r polled.follows polled.begun k.polls none);
      };
  refreshes_busy = λ g log s rs n r left polled e some.
      let c = calling_in g log s n r left (kept g log s rs n r polled e) some in
      record { allowed = sym (refreshed s n (Some (record { seen = rows_seen r.known; call = Some c.0 })) c.1); same = refl };
  refreshes_none = λ g log s rs n polled e. record { allowed = sym (refreshed s n None (absent_in g log s rs n polled e)); same = refl };
  reads_some = λ g log s rs n from count r what holds polled e none known some within.
      let k = kept g log s rs n r polled e in
      let there = idle_in g log s n r k none in
      let seen : ℕ = rows_seen r.known in
      let x : ReaderState = record { seen = seen; call = None } in
      record {
        allowed = sym (was_read s n from count (Some x) there
            ∙ cond-false (nat_lt seen (from + count)) (replies.OutOfRows n from count seen) (cond (count == 0) (replies.Values n []) (replies.Reading n)) (le-ltb seen (from + count) within)
            ∙ cond-false (count == 0) (replies.Values n []) (replies.Reading n) (ne_eqb count 0 (λ z. omega arith)));
        state = begun s (for_values from count) x;
        is = on_reader_is s n (λ x. record x { call = Some (begun_call s (for_values from count)) }) x there;
        polls = all_with g log s rs n (begun s (for_values from count) x) (reading r what from count) polled.all
            (begin_laws.reads g log s (record { seen = seen; call = k.call }) r what from count holds polled.follows polled.begun k.polls none known some within);
      };
  reads_want = λ g log s rs n from count r what holds polled e none known some within.
      let k = kept g log s rs n r polled e in
      let knows = subst (λ (o : Option Reading). Knows g log (now log) o) known (is_idle g log k.call r k.polls.call none).knows in
      values_wants g log (now log) from count what holds knows some (omega (arith, within, ap rows_seen known));
  reads_nothing = λ g log s rs n from r polled e none within.
      let there = idle_in g log s n r (kept g log s rs n r polled e) none in
      let seen : ℕ = rows_seen r.known in
      record {
        allowed = sym (was_read s n from 0 (Some (record { seen = seen; call = None })) there
            ∙ cond-false (nat_lt seen (from + 0)) (replies.OutOfRows n from 0 seen) (replies.Values n []) (le-ltb seen (from + 0) (omega arith)));
        same = refl;
      };
  reads_past = λ g log s rs n from count r polled e none past.
      let there = idle_in g log s n r (kept g log s rs n r polled e) none in
      let seen : ℕ = rows_seen r.known in
      record {
        allowed = sym (was_read s n from count (Some (record { seen = seen; call = None })) there
            ∙ cond-true (nat_lt seen (from + count)) (replies.OutOfRows n from count seen) (cond (count == 0) (replies.Values n []) (replies.Reading n)) (lt-ltb seen (from + count) past));
        same = refl;
      };
  reads_busy = λ g log s rs n from count r left polled e some.
      let c = calling_in g log s n r left (kept g log s rs n r polled e) some in
      record { allowed = sym (was_read s n from count (Some (record { seen = rows_seen r.known; call = Some c.0 })) c.1); same = refl };
  reads_none = λ g log s rs n from count polled e. record { allowed = sym (was_read s n from count None (absent_in g log s rs n polled e)); same = refl };
}

-- ---- Looks

look_line : (g : Polling) (s : ScriptState) (n : ℕ) (o : Option ReaderState) (reply : Reply) → reader_in n s.readers ≡ o → LookAllowed g.rules s n 1 o reply → LookAllowed g.rules s n 1 (reader_in n s.readers) reply
look_line g s n o reply e h = subst (λ (o : Option ReaderState). LookAllowed g.rules s n 1 o reply) (sym e) h

replies_by : (g : Polling) (log : Log) (s : ScriptState) (n place len : ℕ) (r : Reader) (left : Unfinished) (k : Kept g log s n r) → LogHolds g log → (rs : Readers) → Polled g log s rs
    → r.left ≡ Some left → next_look_of left ≡ Some (place, len) → Replies g log s n (record { seen = rows_seen r.known; call = k.call }) r (looked_now log place len left)
replies_by g log s n place len r left k holds rs polled some wants =
    look_laws.gives g log s n (record { seen = rows_seen r.known; call = k.call }) r left place len holds polled.follows k.polls some wants

one_reply : (o : Option Reply) (a b : Reply) → o ≡ Some a → o ≡ Some b → a ≡ b
one_reply o a b h g = cc

pub look_line_laws : LookLineLaws
look_line_laws = record {
  looks_on = λ g log s rs n place len r left reply holds polled e some wants is.
      let k = kept g log s rs n r polled e in
      let x : ReaderState = record { seen = rows_seen r.known; call = k.call } in
      let l = replies_by g log s n place len r left k holds rs polled some wants in
      let after = after_look r (looked_now log place len left) in
      let same : l.reply ≡ reply = one_reply (reply_to n (looked_now log place len left)) l.reply reply l.is is in
      record {
        allowed = look_line g s n (Some x) reply k.is (subst (λ (t : Reply). LookAllowed g.rules s n 1 (Some x) t) same l.allowed);
        state = after_looks s 1 x reply;
        is = on_reader_is s n (λ x. after_looks s 1 x reply) x k.is;
        polls = all_with g log s rs n (after_looks s 1 x reply) after polled.all (subst (λ (t : Reply). Polls g log (after_looks s 1 x t) after) same l.polls);
      };
  replies_one = λ g log s rs n place len r left holds polled e some wants.
      let l = replies_by g log s n place len r left (kept g log s rs n r polled e) holds rs polled some wants in
      (l.reply, l.is);
  looks_idle = λ g log s rs n r polled e none.
      let there = idle_in g log s n r (kept g log s rs n r polled e) none in
      let x : ReaderState = record { seen = rows_seen r.known; call = None } in
      record {
        allowed = look_line g s n (Some x) (replies.Idle n) there refl;
        same = on_reader_is s n (λ x. after_looks s 1 x (replies.Idle n)) x there ∙ ap (λ (xs : List (ℕ × ReaderState)). record s { readers = xs }) (put_same n x s.readers there);
      };
  looks_none = λ g log s rs n polled e.
      let o = absent_in g log s rs n polled e in
      record {
        allowed = look_line g s n None (replies.NoReader n) o refl;
        same = ap (λ (o : Option ReaderState). elim o as (λ _. ScriptState) [ None ↦ s | Some x ↦ with_reader s n (after_looks s 1 x (replies.NoReader n)) ]) o;
      };
}
