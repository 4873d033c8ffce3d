-- An event of a reader, by its place.
use Rattle.std.proofs.Common.{◌≡◌, ℕ, ◌<◌, ◌≤◌, cond, Bool, true, false, List, length, get_or, Option, Some, None, option_map, Result, Ok, Err, sym, refl, ap, ◌∙◌, subst, arith}
use Rattle.std.specs.Prelude.{◌==◌, slice_set}
use Rattle.std.specs.Result.{IfOk, OnErr}
use Rattle.std.proofs.lemmas.Bool.{cond_both, eq-eqb, eqb-true}
use Rattle.std.proofs.lemmas.List.{get_or-set_same, get_or-set_other, length-set}
use Rattle.std.proofs.lemmas.Option.{slice_get-get_or}
use Rattle.std.specs.Option.{unwrap_or}
use Rattle.h5w_model.specs.Logs.{Log}
use Rattle.h5w_model.specs.Unfinished.{Reader}
use Rattle.h5w_model.specs.Lawful.{ScriptState, ReaderState, Calling, line_of, next_state, reader_in, put_reader}
use Rattle.h5w_model.specs.declared.event.Event.{Event}
use Rattle.h5w_model.specs.declared.event.Event.TheVariants as events
use Rattle.h5w_model.specs.declared.memory.OutOfMemory.{OutOfMemory}
use Rattle.h5w_model.specs.declared.reply.Reply.{Reply}
use Rattle.h5w_image.specs.Memory.{MemView}
use Rattle.h5w_image.specs.View.{Same}
use Rattle.h5w_image.proofs.ViewLemmas.{same_itself}
use Rattle.h5w_script_laws.specs.Polling.{Polling, CallPolls, MayPoll, now}
use Rattle.h5w_script_laws.specs.Scripts.{AllPoll, Readers}
use Rattle.h5w_script_laws.proofs.EventLemmas.{knows_later}
use Rattle.h5w_script_laws.proofs.PutLemmas.{put_other}
use Rattle.h5w_reader.specs.Readers.{reader_rules}
use Rattle.h5w_reader.specs.declared.reader.ReaderCore.{ReaderCore}
use Rattle.h5w_writer.specs.Sessions.{Session}
use Rattle.h5w_core.specs.Readers.{LookGives, LookReplies, OpenGives, ReadGives, ReadLooks, RefreshGives, ended, placed, reader_at}
use Rattle.h5w_steady.specs.Steady.{steady}
use Rattle.h5w_core.specs.Worlds.{HaveOneLog, HoldsTogether, IsKept, Steps, WorldView, polling_of}
use Rattle.h5w_core.proofs.HoldLemmas.{same_room, steps_hold}
use Rattle.h5w_core.proofs.HoldsLemmas.{log_holds}
use Rattle.h5w_core.proofs.PollLemmas.{Acts, PollsAt, look_acts, look_replies, open_acts, read_acts, read_looks, refresh_acts, with_place}
use Rattle.h5w_core.proofs.WorldLemmas.{changed, same_folded, world_of}

true_false : true ≡ false → ⊥
true_false e = cc

-- the readers once one was put into its place
pub set_at : (places : List (Option ReaderCore)) (r : ℕ) (new : Option ReaderCore) (q : ℕ) → r < length places → reader_at (slice_set places r new) q ≡ cond (r == q) (placed new) (reader_at places q)
set_at places r new q inside =
    cond_both (r == q) (placed new) (reader_at places q) (λ (o : Option Reader). reader_at (slice_set places r new) q ≡ o)
    (λ t. ap (λ (k : ℕ). reader_at (slice_set places r new) k) (sym (eqb-true r q t)) ∙ ap placed (get_or-set_same places r new None inside))
    (λ t. ap placed (get_or-set_other places r q new None (λ e. true_false (sym (eq-eqb r q (sym e)) ∙ t))))

set_readers : (places : List (Option ReaderCore)) (r : ℕ) (new : Option ReaderCore) (q : ℕ) → r < length places → reader_at (slice_set places r new) q ≡ with_place r (placed new) (reader_at places) q
set_readers places r new q inside = set_at places r new q inside

-- ---- What an event makes of a world

-- the state after it fits the world with the new reader
acts_fit : (w : WorldView) (s : ScriptState) (log : Log) (r : ℕ) (new : Option ReaderCore) (event : Event) (reply : Reply) → r < length w.readers → PollsAt w s log
    → Acts (polling_of w) log s (line_of event) reply (with_place r (placed new) (reader_at w.readers))
    → HaveOneLog (record w { readers = slice_set w.readers r new }) (next_state (polling_of w).rules s (line_of event) reply)
acts_fit w s log r new event reply inside at acts =
    let state = at.state in
    let after = record w { readers = slice_set w.readers r new } in
    subst (λ (t : ScriptState). HaveOneLog after t) (sym acts.is)
    (record {
      log = log;
      stands = record { stands = at.stands.stands; new = at.stands.new; journal = at.stands.journal; bytes = at.stands.bytes };
      state = record {
        appended = state.appended;
        flushed = state.flushed;
        pending = state.pending;
        ends_flush = state.ends_flush;
        taken = state.taken;
        idle = state.idle;
        spent = state.spent;
        stopped = state.stopped;
        tries = state.tries;
        begun = state.begun;
        polls = λ q. subst (λ (o : Option Reader). MayPoll (polling_of w) log (reader_in q acts.states) o) (sym (set_readers w.readers r new q inside)) (acts.polls q);
      };
    })

polls_at : (w : WorldView) (s : ScriptState) → (fits : HaveOneLog w s) → PollsAt w s fits.log
polls_at w s fits = record { holds = log_holds w fits.log fits.state.tries fits.stands.stands fits.stands.new; stands = fits.stands; state = fits.state }

-- what a reader's event may be given, at each state that fits
abbrev pub ActsAt : WorldView → ℕ → Option ReaderCore → Event → Reply → Type 0
ActsAt w r new event reply = (s : ScriptState) (log : Log) → PollsAt w s log → Acts (polling_of w) log s (line_of event) reply (with_place r (placed new) (reader_at w.readers))

acts_steps : (w : WorldView) (r : ℕ) (new : Option ReaderCore) (event : Event) (reply : Reply) → r < length w.readers → ActsAt w r new event reply
    → Steps w event reply (record w { readers = slice_set w.readers r new })
acts_steps w r new event reply inside acts = record {
  rules = refl;
  lawful = λ s fits. let a = acts s fits.log (polls_at w s fits) in (a.allowed, acts_fit w s fits.log r new event reply inside (polls_at w s fits) a);
}

-- by the parts of a world, over looks at its image
pub place_steps : (s : Session) (m n : MemView) (attempts r : ℕ) (places : List (Option ReaderCore)) (new : Option ReaderCore) (event : Event) (reply : Reply) → HoldsTogether s m attempts places → r ≤ 16
    → Same (steady m) (steady n) → ActsAt (world_of s m attempts places) r new event reply
    → Steps (world_of s m attempts places) event reply (world_of s n attempts (slice_set places r new))
place_steps s m n attempts r places new event reply h few same acts =
    subst (λ (x : WorldView). Steps (world_of s m attempts places) event reply x) (sym (changed s s m n attempts (slice_set places r new) same (λ x. x) refl))
    (acts_steps (world_of s m attempts places) r new event reply (omega (arith, h.places)) acts)

pub place_hold : (s : Session) (m n : MemView) (attempts r : ℕ) (places : List (Option ReaderCore)) (new : Option ReaderCore) (event : Event) (reply : Reply) → HoldsTogether s m attempts places → r ≤ 16
    → Same (steady m) (steady n) → ActsAt (world_of s m attempts places) r new event reply → HoldsTogether s n attempts (slice_set places r new)
place_hold s m n attempts r places new event reply h few same acts =
    steps_hold s s m n attempts places (slice_set places r new) event reply h (place_steps s m n attempts r places new event reply h few same acts) (same_room s s m n same refl h.room)
    (same_folded m n same h.folds) (length-set places r new ∙ h.places)

-- ---- A place that stays, or whose call is taken away

-- the world with a reader that polls as before at this state
other_fits : (w : WorldView) (s : ScriptState) (states : List (ℕ × ReaderState)) (r : ℕ) (new : Option ReaderCore) → r < length w.readers → (fits : HaveOneLog w s)
    → AllPoll (polling_of w) fits.log (record s { readers = states }) (with_place r (placed new) (reader_at w.readers))
    → HaveOneLog (record w { readers = slice_set w.readers r new }) (record s { readers = states })
other_fits w s states r new inside fits polls =
    let state = fits.state in
    record {
      log = fits.log;
      stands = record { stands = fits.stands.stands; new = fits.stands.new; journal = fits.stands.journal; bytes = fits.stands.bytes };
      state = record {
        appended = state.appended;
        flushed = state.flushed;
        pending = state.pending;
        ends_flush = state.ends_flush;
        taken = state.taken;
        idle = state.idle;
        spent = state.spent;
        stopped = state.stopped;
        tries = state.tries;
        begun = state.begun;
        polls = λ q. subst (λ (o : Option Reader). MayPoll (polling_of w) fits.log (reader_in q states) o) (sym (set_readers w.readers r new q inside)) (polls q);
      };
    }

-- a reader's state without its call
abbrev pub without_call : ReaderState → ReaderState
without_call x = record x { call = None }

call_ends : (g : Polling) (log : Log) (x : Reader) (call : Option Calling) → CallPolls g log x call → CallPolls g log (ended x) None
call_ends g log x None polls = (refl, polls.1)
call_ends g log x (Some c) polls = (refl, knows_later g log polls.from (now log) x.known polls.within polls.knew)

pub may_end : (g : Polling) (log : Log) (o : Option ReaderState) (x : Reader) → MayPoll g log o (Some x) → (y : ReaderState) × MayPoll g log (Some y) (Some (ended x))
may_end g log None x polls = absurd polls
may_end g log (Some y) x polls = (without_call y, record { rules = polls.rules; seen = polls.seen; call = call_ends g log x y.call polls.call })

-- the states once a reader's call was taken away
record Ends (g : Polling) (log : Log) (s : ScriptState) (r : ℕ) (rs : Readers) (new : Option Reader) : Type 0 where
  states : List (ℕ × ReaderState)
  polls : AllPoll g log (record s { readers = states }) (with_place r new rs)

both_poll : (g : Polling) (log : Log) (b : Bool) (o : Option ReaderState) (p : Option Reader) (y : ReaderState) (x : Reader) → MayPoll g log (Some y) (Some x) → MayPoll g log o p
    → MayPoll g log (cond b (Some y) o) (cond b (Some x) p)
both_poll g log true o p y x polls others = polls
both_poll g log false o p y x polls others = others

ends_at : (g : Polling) (log : Log) (s : ScriptState) (r : ℕ) (rs : Readers) (old : Option Reader) → rs r ≡ old → AllPoll g log s rs → Ends g log s r rs (option_map ended old)
ends_at g log s r rs None there all = record {
  states = s.readers;
  polls = λ q.
      cond_both (r == q) None (rs q) (λ (o : Option Reader). MayPoll g log (reader_in q s.readers) o)
      (λ t. subst (λ (o : Option Reader). MayPoll g log (reader_in q s.readers) o) (ap rs (sym (eqb-true r q t)) ∙ there) (all q))
      (λ t. all q);
}
ends_at g log s r rs (Some x) there all =
    let ended_there = may_end g log (reader_in r s.readers) x (subst (λ (o : Option Reader). MayPoll g log (reader_in r s.readers) o) there (all r)) in
    record {
      states = put_reader r ended_there.0 s.readers;
      polls = λ q.
          subst (λ (o : Option ReaderState). MayPoll g log o (with_place r (Some (ended x)) rs q)) (sym (put_other r q ended_there.0 s.readers))
          (both_poll g log (r == q) (reader_in q s.readers) (rs q) ended_there.0 (ended x) ended_there.1 (all q));
    }

-- a place whose call was taken away
pub place_ends : (s : Session) (m n : MemView) (attempts r : ℕ) (places : List (Option ReaderCore)) (new : Option ReaderCore) → HoldsTogether s m attempts places → r ≤ 16 → Same (steady m) (steady n)
    → placed new ≡ option_map ended (reader_at places r) → HoldsTogether s n attempts (slice_set places r new)
place_ends s m n attempts r places new h few same is =
    let w = world_of s m attempts places in
    let e = ends_at (polling_of w) h.fits.log h.script r (reader_at places) (reader_at places r) refl h.fits.state.polls in
    let polls = subst (λ (o : Option Reader). AllPoll (polling_of w) h.fits.log (record (h.script) { readers = e.states }) (with_place r o (reader_at places))) (sym is) e.polls in
    record {
      room = same_room s s m n same refl h.room;
      folds = same_folded m n same h.folds;
      places = length-set places r new ∙ h.places;
      script = record (h.script) { readers = e.states };
      fits =
          subst (λ (x : WorldView). HaveOneLog x (record (h.script) { readers = e.states })) (sym (changed s s m n attempts (slice_set places r new) same (λ x. x) refl))
          (other_fits w h.script e.states r new (omega (arith, h.places)) h.fits polls);
    }

pub place_keeps : (s : Session) (m : MemView) (attempts r : ℕ) (places : List (Option ReaderCore)) (new : Option ReaderCore) → HoldsTogether s m attempts places → r ≤ 16
    → placed new ≡ reader_at places r → HoldsTogether s m attempts (slice_set places r new)
place_keeps s m attempts r places new h few is =
    let w = world_of s m attempts places in
    record {
      room = h.room;
      folds = h.folds;
      places = length-set places r new ∙ h.places;
      script = h.script;
      fits =
          other_fits w h.script (h.script).readers r new (omega (arith, h.places)) h.fits
          (λ q.
          cond_both (r == q) (placed new) (reader_at places q) (λ (o : Option Reader). MayPoll (polling_of w) h.fits.log (reader_in q (h.script).readers) o)
          (λ t. subst (λ (o : Option Reader). MayPoll (polling_of w) h.fits.log (reader_in q (h.script).readers) o) (ap (reader_at places) (sym (eqb-true r q t)) ∙ sym is) (h.fits.state.polls q))
          (λ t. h.fits.state.polls q));
    }

-- what is kept of a world where a place is as it was
pub kept_place : (s : Session) (m n : MemView) (attempts r : ℕ) (places : List (Option ReaderCore)) (new : Option ReaderCore) (o : Option Reader) (w : WorldView) → world_of s m attempts places ≡ w → r < length places
    → Same (steady m) (steady n) → placed new ≡ o → IsKept w (world_of s n attempts (slice_set places r new)) r o
kept_place s m n attempts r places new o w view inside same is =
    let there = changed s s m n attempts (slice_set places r new) same (λ x. x) refl in
    subst (λ (x : WorldView). IsKept x (world_of s n attempts (slice_set places r new)) r o) view
    (record {
      session = refl;
      bytes = ap (λ (x : WorldView). x.bytes) there;
      journal = ap (λ (x : WorldView). x.journal) there;
      attempts = refl;
      readers = λ q. set_at places r new q inside ∙ ap (λ (x : Option Reader). cond (r == q) x (reader_at places q)) is;
    })

-- ---- Each event

-- within a list no default is taken
any_default : (places : List (Option ReaderCore)) (r : ℕ) (d e : Option ReaderCore) → r < length places → get_or places r d ≡ get_or places r e
any_default places r d e inside =
    ap (λ (o : Option (Option ReaderCore)). unwrap_or o d) (sym (slice_get-get_or places r d inside) ∙ slice_get-get_or places r e inside)

module _ (s : Session) (m : MemView) (attempts r : ℕ) (places : List (Option ReaderCore)) (h : HoldsTogether s m attempts places) (few : r ≤ 16) (place new : Option ReaderCore) (value : place ≡ get_or places r place) where
  here : reader_at places r ≡ placed place
  here = ap placed (any_default places r None place (omega (arith, h.places)) ∙ sym value)

  itself : Same (steady m) (steady m)
  itself = same_itself (steady m)

  pub open_steps : (reply : Reply) → OpenGives r (reader_rules s.name attempts) (placed place) reply (placed new) → Steps (world_of s m attempts places) (events.Open r) reply (world_of s m attempts (slice_set places r new))
  open_steps reply gives =
      place_steps s m m attempts r places new (events.Open r) reply h few itself
      (λ t log at. open_acts (world_of s m attempts places) t log at r (placed place) (placed new) reply here gives)

  pub open_hold : (result : Result Reply OutOfMemory) → IfOk result (λ reply. OpenGives r (reader_rules s.name attempts) (placed place) reply (placed new)) → OnErr result (placed new ≡ placed place)
      → HoldsTogether s m attempts (slice_set places r new)
  open_hold (Ok reply) gives kept =
      place_hold s m m attempts r places new (events.Open r) reply h few itself
      (λ t log at. open_acts (world_of s m attempts places) t log at r (placed place) (placed new) reply here gives)
  open_hold (Err e) gives kept = place_keeps s m attempts r places new h few (kept ∙ sym here)

  refresh_all : (reply : Reply) → RefreshGives r (placed place) reply (placed new) → ActsAt (world_of s m attempts places) r new (events.Refresh r) reply
  refresh_all reply gives = λ t log at. refresh_acts (world_of s m attempts places) t log at r (placed place) (placed new) reply here gives

  pub refresh_steps : (reply : Reply) → RefreshGives r (placed place) reply (placed new) → Steps (world_of s m attempts places) (events.Refresh r) reply (world_of s m attempts (slice_set places r new))
  refresh_steps reply gives =
      place_steps s m m attempts r places new (events.Refresh r) reply h few itself (refresh_all reply gives)

  pub refresh_hold : (reply : Reply) → RefreshGives r (placed place) reply (placed new) → HoldsTogether s m attempts (slice_set places r new)
  refresh_hold reply gives =
      place_hold s m m attempts r places new (events.Refresh r) reply h few itself (refresh_all reply gives)

  read_all : (from count : ℕ) (reply : Reply) → ReadGives r from count (placed place) reply (placed new) → ActsAt (world_of s m attempts places) r new (events.Read r from count) reply
  read_all from count reply gives = λ t log at. read_acts (world_of s m attempts places) t log at r from count (placed place) (placed new) reply here gives

  pub read_steps : (from count : ℕ) (reply : Reply) → ReadGives r from count (placed place) reply (placed new)
      → Steps (world_of s m attempts places) (events.Read r from count) reply (world_of s m attempts (slice_set places r new))
  read_steps from count reply gives =
      place_steps s m m attempts r places new (events.Read r from count) reply h few itself (read_all from count reply gives)

  pub read_hold : (from count : ℕ) (result : Result Reply OutOfMemory) → IfOk result (λ reply. ReadGives r from count (placed place) reply (placed new)) → OnErr result (placed new ≡ placed place)
      → HoldsTogether s m attempts (slice_set places r new)
  read_hold from count (Ok reply) gives kept =
      place_hold s m m attempts r places new (events.Read r from count) reply h few itself (read_all from count reply gives)
  read_hold from count (Err e) gives kept = place_keeps s m attempts r places new h few (kept ∙ sym here)

  look_all : (reply : Reply) → LookGives r m.bytes (placed place) reply (placed new) → ActsAt (world_of s m attempts places) r new (events.Look r) reply
  look_all reply gives = λ t log at. look_acts (world_of s m attempts places) t log at r (placed place) (placed new) reply here gives

  pub look_steps : (n : MemView) (reply : Reply) → Same (steady m) (steady n) → LookGives r m.bytes (placed place) reply (placed new)
      → Steps (world_of s m attempts places) (events.Look r) reply (world_of s n attempts (slice_set places r new))
  look_steps n reply same gives =
      place_steps s m n attempts r places new (events.Look r) reply h few same (look_all reply gives)

  pub look_hold : (n : MemView) (result : Result Reply OutOfMemory) → Same (steady m) (steady n) → IfOk result (λ reply. LookGives r m.bytes (placed place) reply (placed new))
      → OnErr result (placed new ≡ option_map ended (placed place)) → HoldsTogether s n attempts (slice_set places r new)
  look_hold n (Ok reply) same gives kept =
      place_hold s m n attempts r places new (events.Look r) reply h few same (look_all reply gives)
  look_hold n (Err e) same gives kept = place_ends s m n attempts r places new h few same (kept ∙ ap (option_map ended) (sym here))

  -- ---- What the calls rest on

  pub read_may : (from count : ℕ) → ReadLooks from count (placed place)
  read_may from count = read_looks (world_of s m attempts places) h.script h.fits.log (polls_at (world_of s m attempts places) h.script h.fits) r from count (placed place) here

  pub look_may : LookReplies r m.bytes (placed place)
  look_may = look_replies (world_of s m attempts places) h.script h.fits.log (polls_at (world_of s m attempts places) h.script h.fits) r (placed place) here

  -- by the value of the world, and the call's result
  pub open_answers : (w : WorldView) (result : Result Reply OutOfMemory) → world_of s m attempts places ≡ w → IfOk result (λ reply. OpenGives r (reader_rules s.name attempts) (placed place) reply (placed new))
      → IfOk result (λ reply. Steps w (events.Open r) reply (world_of s m attempts (slice_set places r new)))
  open_answers w (Ok reply) view gives = subst (λ (x : WorldView). Steps x (events.Open r) reply (world_of s m attempts (slice_set places r new))) view (open_steps reply gives)
  open_answers w (Err e) view gives = tt

  pub refresh_answers : (w : WorldView) (reply : Reply) → world_of s m attempts places ≡ w → RefreshGives r (placed place) reply (placed new)
      → Steps w (events.Refresh r) reply (world_of s m attempts (slice_set places r new))
  refresh_answers w reply view gives = subst (λ (x : WorldView). Steps x (events.Refresh r) reply (world_of s m attempts (slice_set places r new))) view (refresh_steps reply gives)

  pub read_answers : (from count : ℕ) (w : WorldView) (result : Result Reply OutOfMemory) → world_of s m attempts places ≡ w → IfOk result (λ reply. ReadGives r from count (placed place) reply (placed new))
      → IfOk result (λ reply. Steps w (events.Read r from count) reply (world_of s m attempts (slice_set places r new)))
  read_answers from count w (Ok reply) view gives = subst (λ (x : WorldView). Steps x (events.Read r from count) reply (world_of s m attempts (slice_set places r new))) view (read_steps from count reply gives)
  read_answers from count w (Err e) view gives = tt

  pub look_answers : (n : MemView) (w : WorldView) (result : Result Reply OutOfMemory) → world_of s m attempts places ≡ w → Same (steady m) (steady n)
      → IfOk result (λ reply. LookGives r m.bytes (placed place) reply (placed new)) → IfOk result (λ reply. Steps w (events.Look r) reply (world_of s n attempts (slice_set places r new)))
  look_answers n w (Ok reply) view same gives = subst (λ (x : WorldView). Steps x (events.Look r) reply (world_of s n attempts (slice_set places r new))) view (look_steps n reply same gives)
  look_answers n w (Err e) view same gives = tt

  pub look_kept : (n : MemView) (w : WorldView) (result : Result Reply OutOfMemory) → world_of s m attempts places ≡ w → Same (steady m) (steady n) → OnErr result (placed new ≡ option_map ended (placed place))
      → OnErr result (IsKept w (world_of s n attempts (slice_set places r new)) r (option_map ended (reader_at w.readers r)))
  look_kept n w (Ok reply) view same kept = tt
  look_kept n w (Err e) view same kept =
      let places_are = ap (λ (x : WorldView). option_map ended (reader_at x.readers r)) (sym view) in
      subst (λ (o : Option Reader). IsKept w (world_of s n attempts (slice_set places r new)) r o) (sym places_are)
      (kept_place s m n attempts r places new (option_map ended (reader_at places r)) w view (omega (arith, h.places)) same (kept ∙ ap (option_map ended) (sym here)))

  pub place_kept : (w : WorldView) (result : Result Reply OutOfMemory) → world_of s m attempts places ≡ w → OnErr result (placed new ≡ placed place)
      → OnErr result (IsKept w (world_of s m attempts (slice_set places r new)) r (reader_at w.readers r))
  place_kept w (Ok reply) view kept = tt
  place_kept w (Err e) view kept =
      let places_are = ap (λ (x : WorldView). reader_at x.readers r) (sym view) in
      subst (λ (o : Option Reader). IsKept w (world_of s m attempts (slice_set places r new)) r o) (sym places_are)
      (kept_place s m m attempts r places new (reader_at places r) w view (omega (arith, h.places)) itself (kept ∙ sym here))
