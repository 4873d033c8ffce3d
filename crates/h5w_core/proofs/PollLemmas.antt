-- The readers of a world poll its log: what each event of a reader is answered, and how they poll on.
use Rattle.std.proofs.Common.{◌≡◌, ◌⊎◌, ℕ, cond, Bool, List, [], Option, Some, None, refl, sym, ◌∙◌, ap, subst, inl, inr}
use Rattle.std.specs.Prelude.{IsSome, ◌==◌}
use Rattle.std.proofs.lemmas.Bool.{cond_both, eq-eqb, eqb-true}
use Rattle.h5w_model.specs.Numbers.{range}
use Rattle.h5w_model.specs.Images.{image}
use Rattle.h5w_model.specs.Logs.{Log, hist}
use Rattle.h5w_model.specs.Calls.{values_call}
use Rattle.h5w_model.specs.Unfinished.{Unfinished, values_left, next_look_of, wanted, fed_left, Reader}
use Rattle.h5w_model.specs.Lawful.{Line, opens, refreshes, reads, looks, ScriptState, ReaderState, Calling, Allowed, next_state, reader_in, put_reader}
use Rattle.h5w_model.specs.declared.reply.Reply.{Reply}
use Rattle.h5w_model.specs.declared.reply.Reply.TheVariants as replies
use Rattle.h5w_script_laws.specs.Polling.{Polling, CallPolls, MayPoll, Wants}
use Rattle.h5w_script_laws.specs.Premises.{LogHolds}
use Rattle.h5w_script_laws.specs.Laws.{reading, reply_to, after_look}
use Rattle.h5w_script_laws.specs.Scripts.{AllPoll, Moves, Polled, Readers, Refuses, looked_now, and_reader}
use Rattle.h5w_script_laws.proofs.LookLemmas.{look_laws}
use Rattle.h5w_script_laws.proofs.ScriptLemmas.{begin_line_laws, look_line_laws}
use Rattle.h5w_reader.specs.Readers.{reader_rules}
use Rattle.h5w_core.specs.Readers.{LookGives, LooksTo, LookReplies, CallReplies, OpenGives, ReadGives, ReadLooks, ReadsTo, ReadsPast, ReadsNothing, ReadBegins, RefreshGives, RefreshesTo, looked, reader_at}
use Rattle.h5w_core.specs.Worlds.{WorldView, IsStateOf, StandsFor, polling_of}

-- the readers with another in the place of this number
abbrev pub with_place : ℕ → Option Reader → Readers → Readers
with_place n o rs k = cond (n == k) o (rs k)

-- A line of a reader may be given this reply; it changes the script's readers alone, and they poll so.
pub record Acts (g : Polling) (log : Log) (s : ScriptState) (line : Line) (reply : Reply) (rs : Readers) : Type 0 where
  pub allowed : Allowed g.rules s line reply
  pub states : List (ℕ × ReaderState)
  pub is : next_state g.rules s line reply ≡ record s { readers = states }
  pub polls : AllPoll g log (record s { readers = states }) rs

acts_move : (g : Polling) (log : Log) (s : ScriptState) (rs qs : Readers) (line : Line) (reply : Reply) (n : ℕ) (r : Reader) → ((k : ℕ) → qs k ≡ and_reader n r rs k)
    → Moves g log s rs line reply n r → Acts g log s line reply qs
acts_move g log s rs qs line reply n r same m = record {
  allowed = m.allowed;
  states = put_reader n m.state s.readers;
  is = m.is;
  polls = λ k. subst (λ (o : Option Reader). MayPoll g log (reader_in k (put_reader n m.state s.readers)) o) (sym (same k)) (m.polls k);
}

acts_refuse : (g : Polling) (log : Log) (s : ScriptState) (rs qs : Readers) (line : Line) (reply : Reply) → ((k : ℕ) → qs k ≡ rs k) → AllPoll g log s rs → Refuses g s line reply
    → Acts g log s line reply qs
acts_refuse g log s rs qs line reply same all m = record {
  allowed = m.allowed;
  states = s.readers;
  is = m.same;
  polls = λ k. subst (λ (o : Option Reader). MayPoll g log (reader_in k s.readers) o) (sym (same k)) (all k);
}

-- a reader that was there is put back
same_place : (n : ℕ) (o : Option Reader) (rs : Readers) → rs n ≡ o → (k : ℕ) → with_place n o rs k ≡ rs k
same_place n o rs is k =
    cond_both (n == k) o (rs k) (λ (p : Option Reader). p ≡ rs k) (λ t. sym is ∙ ap rs (eqb-true n k t)) (λ t. refl)

-- ---- A world at a state

-- a world at a state of a script, whose log readers can poll
pub record PollsAt (w : WorldView) (s : ScriptState) (log : Log) : Type 0 where
  pub holds : LogHolds (polling_of w) log
  pub stands : StandsFor w log
  pub state : IsStateOf w s log

polled : (w : WorldView) (s : ScriptState) (log : Log) → IsStateOf w s log → Polled (polling_of w) log s (reader_at w.readers)
polled w s log state = record {
  follows = record { appended = state.appended; flushed = state.flushed };
  begun = state.begun;
  all = state.polls;
}

-- a reader with an unfinished call wants a look
some_wants : (left : Option Unfinished) → Wants left → IsSome (wanted left)
some_wants left wants = subst (λ (o : Option (ℕ × ℕ)). IsSome o) (sym wants.is) refl

call_wants : (g : Polling) (log : Log) (r : Reader) (left : Unfinished) (c : Option Calling) → r.left ≡ Some left → CallPolls g log r c → IsSome (wanted r.left)
call_wants g log r left None is polls = absurd (let clash : Some left ≡ None = sym is ∙ polls.0 in cc)
call_wants g log r left (Some c) is polls = some_wants r.left polls.wants

may_wants : (g : Polling) (log : Log) (x : Option ReaderState) (o : Option Reader) (r : Reader) (left : Unfinished) → o ≡ Some r → r.left ≡ Some left → MayPoll g log x o → IsSome (next_look_of left)
may_wants g log None None r left there is polls = absurd cc
may_wants g log None (Some y) r left there is polls = absurd polls
may_wants g log (Some x) None r left there is polls = absurd cc
may_wants g log (Some x) (Some y) r left there is polls =
    let same : y.left ≡ Some left = ap (λ (o : Option Reader). elim o as (λ _. Option Unfinished) [ None ↦ None | Some z ↦ z.left ]) there ∙ is in
    subst (λ (l : Option Unfinished). IsSome (wanted l)) same (call_wants g log y left x.call same polls.call)

module _ (w : WorldView) (s : ScriptState) (log : Log) (at : PollsAt w s log) (n : ℕ) where
  -- the readers with another one in the place of this number
  abbrev pub with_reader_at : Option Reader → Readers
  with_reader_at new = with_place n new (reader_at w.readers)

  refuse : (line : Line) (reply : Reply) (old new : Option Reader) → reader_at w.readers n ≡ old → new ≡ old → Refuses (polling_of w) s line reply
      → Acts (polling_of w) log s line reply (with_reader_at new)
  refuse line reply old new there same m =
      acts_refuse (polling_of w) log s (reader_at w.readers) (with_reader_at new) line reply (same_place n new (reader_at w.readers) (there ∙ sym same)) at.state.polls m

  move : (line : Line) (reply : Reply) (new : Option Reader) (r : Reader) → new ≡ Some r → Moves (polling_of w) log s (reader_at w.readers) line reply n r
      → Acts (polling_of w) log s line reply (with_reader_at new)
  move line reply new r is m =
      acts_move (polling_of w) log s (reader_at w.readers) (with_reader_at new) line reply n r (λ k. ap (λ (o : Option Reader). with_place n o (reader_at w.readers) k) is) m

  given : (line : Line) (reply other : Reply) (new : Option Reader) → reply ≡ other → Acts (polling_of w) log s line other (with_reader_at new) → Acts (polling_of w) log s line reply (with_reader_at new)
  given line reply other new is acts = subst (λ (x : Reply). Acts (polling_of w) log s line x (with_reader_at new)) (sym is) acts

  -- ---- Open

  pub open_acts : (old new : Option Reader) (reply : Reply) → reader_at w.readers n ≡ old → OpenGives n (reader_rules w.session.name w.attempts) old reply new
      → Acts (polling_of w) log s (opens n) reply (with_reader_at new)
  open_acts None new reply there gives =
      given (opens n) reply (replies.Opening n) new gives.0
      (move (opens n) (replies.Opening n) new _ gives.1 (begin_line_laws.opens_one (polling_of w) log s (reader_at w.readers) n (polled w s log at.state) there))
  open_acts (Some r) new reply there gives =
      given (opens n) reply (replies.ReaderExists n) new gives.0
      (refuse (opens n) (replies.ReaderExists n) (Some r) new there gives.1 (begin_line_laws.opens_again (polling_of w) log s (reader_at w.readers) n r (polled w s log at.state) there))

  -- ---- Refresh

  refresh_to : (r : Reader) (left : Option Unfinished) (new : Option Reader) (reply : Reply) → r.left ≡ left → reader_at w.readers n ≡ Some r → RefreshesTo n r left reply new
      → Acts (polling_of w) log s (refreshes n) reply (with_reader_at new)
  refresh_to r None new reply is there gives =
      given (refreshes n) reply (replies.Refreshing n) new gives.0
      (move (refreshes n) (replies.Refreshing n) new _ gives.1 (begin_line_laws.refreshes_one (polling_of w) log s (reader_at w.readers) n r (polled w s log at.state) there is))
  refresh_to r (Some left) new reply is there gives =
      given (refreshes n) reply (replies.ReaderBusy n) new gives.0
      (refuse (refreshes n) (replies.ReaderBusy n) (Some r) new there gives.1 (begin_line_laws.refreshes_busy (polling_of w) log s (reader_at w.readers) n r left (polled w s log at.state) there is))

  pub refresh_acts : (old new : Option Reader) (reply : Reply) → reader_at w.readers n ≡ old → RefreshGives n old reply new
      → Acts (polling_of w) log s (refreshes n) reply (with_reader_at new)
  refresh_acts None new reply there gives =
      given (refreshes n) reply (replies.NoReader n) new gives.0
      (refuse (refreshes n) (replies.NoReader n) None new there gives.1 (begin_line_laws.refreshes_none (polling_of w) log s (reader_at w.readers) n (polled w s log at.state) there))
  refresh_acts (Some r) new reply there gives = refresh_to r r.left new reply refl there gives

  -- ---- Read

  module _ (from count : ℕ) where
    reads_on : (r : Reader) (new : Option Reader) (reply : Reply) → r.left ≡ None → reader_at w.readers n ≡ Some r
        → ReadsPast n from count r reply new ⊎ (ReadsNothing n from count r reply new ⊎ ReadBegins n from count r reply new)
        → Acts (polling_of w) log s (reads n from count) reply (with_reader_at new)
    reads_on r new reply is there (inl h) =
        given (reads n from count) reply _ new h.is
        (refuse (reads n from count) _ (Some r) new there h.same (begin_line_laws.reads_past (polling_of w) log s (reader_at w.readers) n from count r (polled w s log at.state) there is h.past))
    reads_on r new reply is there (inr (inl h)) =
        given (reads n from count) reply _ new h.is
        (refuse (reads n from count) _ (Some r) new there h.same
        (subst (λ (c : ℕ). Refuses (polling_of w) s (reads n from c) (replies.Values n [])) (sym h.none)
        (begin_line_laws.reads_nothing (polling_of w) log s (reader_at w.readers) n from r (polled w s log at.state) there is h.inside)))
    reads_on r new reply is there (inr (inr h)) =
        given (reads n from count) reply _ new h.is
        (move (reads n from count) (replies.Reading n) new _ h.begun
        (begin_line_laws.reads_some (polling_of w) log s (reader_at w.readers) n from count r h.what at.holds (polled w s log at.state) there is h.known h.some h.inside))

    read_to : (r : Reader) (left : Option Unfinished) (new : Option Reader) (reply : Reply) → r.left ≡ left → reader_at w.readers n ≡ Some r → ReadsTo n from count r left reply new
        → Acts (polling_of w) log s (reads n from count) reply (with_reader_at new)
    read_to r None new reply is there gives = reads_on r new reply is there gives
    read_to r (Some left) new reply is there gives =
        given (reads n from count) reply (replies.ReaderBusy n) new gives.0
        (refuse (reads n from count) (replies.ReaderBusy n) (Some r) new there gives.1 (begin_line_laws.reads_busy (polling_of w) log s (reader_at w.readers) n from count r left (polled w s log at.state) there is))

    pub read_acts : (old new : Option Reader) (reply : Reply) → reader_at w.readers n ≡ old → ReadGives n from count old reply new
        → Acts (polling_of w) log s (reads n from count) reply (with_reader_at new)
    read_acts None new reply there gives =
        given (reads n from count) reply (replies.NoReader n) new gives.0
        (refuse (reads n from count) (replies.NoReader n) None new there gives.1 (begin_line_laws.reads_none (polling_of w) log s (reader_at w.readers) n from count (polled w s log at.state) there))
    read_acts (Some r) new reply there gives = read_to r r.left new reply refl there gives

    -- a read of rows that were seen needs a look
    pub read_looks : (old : Option Reader) → reader_at w.readers n ≡ old → ReadLooks from count old
    read_looks None there = tt
    read_looks (Some r) there = λ what left known some inside.
        let m = begin_line_laws.reads_some (polling_of w) log s (reader_at w.readers) n from count r what at.holds (polled w s log at.state) there left known some inside in
        let own : and_reader n (reading r what from count) (reader_at w.readers) n ≡ Some (reading r what from count) =
        ap (λ (b : Bool). cond b (Some (reading r what from count)) (reader_at w.readers n)) (eq-eqb n n refl) in
        may_wants (polling_of w) log (reader_in n (put_reader n m.state s.readers)) (and_reader n (reading r what from count) (reader_at w.readers) n) (reading r what from count) (values_left (values_call what from count))
        own refl (m.polls n)

  -- ---- Look

  left_wants : (o : Option Reader) (x : Option ReaderState) (r : Reader) (left : Unfinished) → o ≡ Some r → r.left ≡ Some left → MayPoll (polling_of w) log x o → Wants (Some left)
  left_wants None None r left there is polls = absurd cc
  left_wants None (Some x) r left there is polls = absurd polls
  left_wants (Some y) None r left there is polls = absurd polls
  left_wants (Some y) (Some x) r left there is polls =
      look_laws.wants (polling_of w) log x y left polls (ap (λ (o : Option Reader). elim o as (λ _. Option Unfinished) [ None ↦ None | Some z ↦ z.left ]) there ∙ is)

  wants_look : (r : Reader) (left : Unfinished) → r.left ≡ Some left → reader_at w.readers n ≡ Some r → Wants (Some left)
  wants_look r left is there = left_wants (reader_at w.readers n) (reader_in n s.readers) r left there is (at.state.polls n)

  -- the image's bytes are those of the log's last image
  looked_is_now : (left : Unfinished) (place len : ℕ) → next_look_of left ≡ Some (place, len) → looked w.bytes left ≡ looked_now log place len left
  looked_is_now left place len wants =
      let bytes : range w.bytes place len ≡ range (image log.start (hist log.events)) place len =
      ap (λ (b : List ℕ). range b place len) (at.stands.bytes ∙ ap (λ (b : List ℕ). image b (hist log.events)) (sym (ap (λ (l : Log). l.start) at.stands.new.log_is))) in
      ap (λ (o : Option (ℕ × ℕ)). elim o as (λ _. Unfinished) [ None ↦ left | Some x ↦ fed_left (range w.bytes x.0 x.1) left ]) wants
      ∙ ap (λ (b : List ℕ). fed_left b left) bytes

  look_to : (r : Reader) (left : Option Unfinished) (new : Option Reader) (reply : Reply) → r.left ≡ left → reader_at w.readers n ≡ Some r → LooksTo n w.bytes r left reply new
      → Acts (polling_of w) log s (looks n 1) reply (with_reader_at new)
  look_to r None new reply is there gives =
      given (looks n 1) reply (replies.Idle n) new gives.0
      (refuse (looks n 1) (replies.Idle n) (Some r) new there gives.1 (look_line_laws.looks_idle (polling_of w) log s (reader_at w.readers) n r (polled w s log at.state) there is))
  look_to r (Some left) new reply is there gives =
      let wants = wants_look r left is there in
      let now_is = looked_is_now left wants.place wants.len wants.is in
      move (looks n 1) reply new _ (gives.new_is ∙ ap (λ (u : Unfinished). Some (after_look r u)) now_is)
      (look_line_laws.looks_on (polling_of w) log s (reader_at w.readers) n wants.place wants.len r left reply at.holds (polled w s log at.state) there is wants.is
      (ap (reply_to n) (sym now_is) ∙ gives.is))

  pub look_acts : (old new : Option Reader) (reply : Reply) → reader_at w.readers n ≡ old → LookGives n w.bytes old reply new
      → Acts (polling_of w) log s (looks n 1) reply (with_reader_at new)
  look_acts None new reply there gives =
      given (looks n 1) reply (replies.NoReader n) new gives.0
      (refuse (looks n 1) (replies.NoReader n) None new there gives.1 (look_line_laws.looks_none (polling_of w) log s (reader_at w.readers) n (polled w s log at.state) there))
  look_acts (Some r) new reply there gives = look_to r r.left new reply refl there gives

  replies_by : (r : Reader) (left : Option Unfinished) → r.left ≡ left → reader_at w.readers n ≡ Some r → CallReplies n w.bytes left
  replies_by r None is there = tt
  replies_by r (Some left) is there =
      let wants = wants_look r left is there in
      let reply =
      look_line_laws.replies_one (polling_of w) log s (reader_at w.readers) n wants.place wants.len r left at.holds (polled w s log at.state) there is wants.is in
      subst (λ (o : Option Reply). IsSome o) (sym (ap (reply_to n) (looked_is_now left wants.place wants.len wants.is) ∙ reply.1)) refl

  pub look_replies : (old : Option Reader) → reader_at w.readers n ≡ old → LookReplies n w.bytes old
  look_replies None there = tt
  look_replies (Some r) there = replies_by r r.left refl there
