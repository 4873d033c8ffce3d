-- The writer plans a flush.
use Rattle.std.proofs.Common.{◌≡◌, ◌⊎◌, ℕ, ◌+◌, ◌<◌, ◌≤◌, List, [], ◌∷◌, length, ℤ, Bool, true, false, nat_lt, sym, refl, ap, ◌∙◌, subst, inl, inr, arith, Option, Some, None, Result, Ok, Err, if◌then◌else◌}
use Rattle.std.specs.Prelude.{MatchBool}
use Rattle.std.proofs.lemmas.Bool.{cases_lt, lt-ltb, le-ltb}
use Rattle.h5w_model.specs.Logs.{Log, plans, appended, flushed_rows, load, spent, spent_in, Cutting, and_now}
use Rattle.h5w_model.specs.Datasets.{Described}
use Rattle.h5w_model.specs.Lawful.{Rules, ScriptState, FlushAllowed, IsPlanned, IsFull, load_of, rows_in, rows_of}
use Rattle.h5w_model.specs.declared.event.Event.TheVariants as events
use Rattle.h5w_model.specs.declared.piece.Write.{Write}
use Rattle.h5w_model.specs.declared.memory.OutOfMemory.{OutOfMemory}
use Rattle.h5w_model.specs.declared.reply.Reply.{Reply}
use Rattle.h5w_model.specs.declared.reply.Reply.TheVariants as replies
use Rattle.h5w_script_laws.specs.Polling.{Polling}
use Rattle.h5w_script_laws.specs.Scripts.{AllPoll, Readers}
use Rattle.h5w_script_laws.proofs.EventLemmas.{counts_same, goes_on_still, polls_on}
use Rattle.h5w_script_laws.proofs.ScriptLemmas.{all_kept}
use Rattle.h5w_space.specs.declared.Full.{Full}
use Rattle.h5w_image.specs.Memory.{MemView}
use Rattle.h5w_image.specs.View.{Same}
use Rattle.h5w_reader.specs.declared.reader.ReaderCore.{ReaderCore}
use Rattle.h5w_writer.specs.Flushes.{SameBut}
use Rattle.h5w_writer.specs.Sessions.{Session, TakesRows, cutting_of}
use Rattle.h5w_writer.specs.Sessions as sessions
use Rattle.h5w_writer.specs.Refusals.{IsFullFor, IsSpace, flush_refusal}
use Rattle.h5w_writer.specs.Loads.{NoPlace}
use Rattle.h5w_writer.specs.Stands.{Stands}
use Rattle.h5w_writer.specs.declared.refusal.FlushError.{FlushError}
use Rattle.h5w_writer.specs.declared.refusal.FlushError.TheVariants as errors
use Rattle.h5w_writer.specs.Past.{IsNew}
use Rattle.h5w_writer.proofs.LawLemmas.{standing_laws}
use Rattle.h5w_writer.proofs.PastLemmas.{new_end, spent_in-events}
use Rattle.h5w_core.specs.Readers.{reader_at}
use Rattle.h5w_steady.specs.Steady.{steady}
use Rattle.h5w_core.specs.Worlds.{WorldView, HaveOneLog, IsStateOf, Steps, full_reply, polling_by, polling_of, rules_of}
use Rattle.h5w_core.proofs.StateLemmas.{columns_of, in_rows, load_of-log, new_now, rules_by}
use Rattle.h5w_core.proofs.WorldLemmas.{world_of, replaced, with_session}

-- ---- A session that may hold more blocks

-- the state is that of the world with it
pub held_state : (w : WorldView) (t : Session) (s : ScriptState) (log : Log) → SameBut w.session t → IsStateOf w s log → IsStateOf (with_session w t) s log
held_state w t s log same state =
    subst (λ (x : Session). IsStateOf (with_session w x) s log) (sym same.session)
    (record {
      appended = state.appended;
      flushed = state.flushed;
      pending = state.pending;
      ends_flush = state.ends_flush;
      taken = state.taken;
      idle = state.idle;
      spent = state.spent;
      stopped = state.stopped;
      tries = state.tries;
      begun = state.begun;
      polls = state.polls;
    })

pub held_rules : (w : WorldView) (t : Session) → SameBut w.session t → rules_of (with_session w t) ≡ rules_of w
held_rules w t same = ap (λ (x : Session). rules_of (with_session w x)) same.session

-- the log is as before
pub held_log : (w : WorldView) (t : Session) (s : ScriptState) → SameBut w.session t → ((log : Log) → Stands w.session log → Stands t log) → HaveOneLog w s → HaveOneLog (with_session w t) s
held_log w t s same stands fits = record {
  log = fits.log;
  stands = record { stands = stands fits.log fits.stands.stands; new = fits.stands.new; journal = fits.stands.journal; bytes = fits.stands.bytes };
  state = held_state w t s fits.log same fits.state;
}

-- ---- Busy

stopped_allowed : (g : Rules) (s : ScriptState) → s.stopped ≡ true → FlushAllowed g s replies.Stopped
stopped_allowed g s stopped = rw stopped refl

busy_allowed : (g : Rules) (s : ScriptState) → s.stopped ≡ false → 0 < s.pending → FlushAllowed g s (replies.Busy s.pending)
busy_allowed g s running some =
    rw (running, lt-ltb 0 s.pending some) refl

-- what a refused flush leaves of its session
pub record LeavesSession (s t : Session) : Type 0 where
  pub same : SameBut s t
  pub stands : (log : Log) → Stands s log → Stands t log

stopped_steps : (w : WorldView) (t : Session) → w.session.stopped ≡ true → LeavesSession w.session t → Steps w events.Flush replies.Stopped (with_session w t)
stopped_steps w t stopped left =
    record {
      rules = held_rules w t left.same;
      lawful = λ s fits. (stopped_allowed (rules_of w) s (fits.state.stopped ∙ stopped), held_log w t s left.same left.stands fits);
    }

busy_steps : (w : WorldView) (t : Session) (n : ℕ) → w.session.stopped ≡ false → n ≡ length w.session.pending → 0 < n → LeavesSession w.session t → Steps w events.Flush (replies.Busy n) (with_session w t)
busy_steps w t n going is some left =
    record {
      rules = held_rules w t left.same;
      lawful = λ s fits.
          let same : s.pending ≡ n = fits.state.pending ∙ sym is in
          (subst (λ (k : ℕ). FlushAllowed (rules_of w) s (replies.Busy k)) same (busy_allowed (rules_of w) s (fits.state.stopped ∙ going) (omega arith)), held_log w t s left.same left.stands fits);
    }

-- ---- Planned

-- what a session's flush tells of the pieces that it planned
pub record IsFlush (s t : Session) (pieces : ℕ) : Type 0 where
  pub going : s.stopped ≡ false
  pub idle : s.pending ≡ []
  pub takes : TakesRows s t
  pub count : pieces ≡ length t.pending
  pub some : 0 < s.waits → 1 ≤ pieces
  pub none : s.waits ≡ 0 → t ≡ s
  pub load_bound : (log : Log) → Stands s log → pieces ≤ load (cutting_of s) log
  pub carries : (log : Log) → Stands s log → Stands t (and_now (plans pieces) log)

-- no piece where no row waits
none_planned : (s t : Session) (pieces : ℕ) → IsFlush s t pieces → s.waits ≡ 0 → pieces ≡ 0
none_planned s t pieces flush none = flush.count ∙ ap (λ (x : Session). length x.pending) (flush.none none) ∙ ap length flush.idle

unflushed : (w : WorldView) (s : ScriptState) (log : Log) → w.session.stopped ≡ false → w.session.pending ≡ [] → Stands w.session log → IsStateOf w s log
    → rows_of (rules_of w) s ≡ s.flushed + w.session.waits
unflushed w s log going idle stands state =
    let all : rows_of (rules_of w) s ≡ sessions.rows_of w.session =
    ap (λ (vs : List ℤ). rows_in (rules_of w) vs) state.appended ∙ sym (standing_laws.appended_rows w.session log stands ∙ in_rows w.session log (appended log) stands) in
    let old : flushed_rows log ≡ w.session.dataset.shape.rows = standing_laws.planned_rows w.session log stands going idle in
    omega (arith, all, old, state.flushed)

planned_allowed : (w : WorldView) (t : Session) (s : ScriptState) (log : Log) (pieces : ℕ) → IsFlush w.session t pieces → Stands w.session log → IsStateOf w s log
    → MatchBool (nat_lt s.flushed (rows_of (rules_of w) s)) (IsPlanned (rules_of w) s (replies.Flushing pieces) ⊎ IsFull (rules_of w) s (replies.Flushing pieces)) (replies.Flushing pieces ≡ replies.Flushing 0)
planned_allowed w t s log pieces flush stands state =
    let g = rules_of w in
    let reply = replies.Flushing pieces in
    let rows = unflushed w s log flush.going flush.idle stands state in
    elim (cases_lt 0 w.session.waits) [
      | inl some ↦
          let bound : pieces ≤ load_of g s s.appended =
          subst (λ (n : ℕ). pieces ≤ n) (sym (load_of-log g s s.appended log (columns_of w.session log stands) state.flushed state.appended)) (flush.load_bound log stands) in
          subst (λ (b : Bool). MatchBool b (IsPlanned g s reply ⊎ IsFull g s reply) (reply ≡ replies.Flushing 0)) (sym (lt-ltb s.flushed (rows_of g s) (omega (arith, rows))))
          (inl (record { pieces = pieces; is = refl; positive = flush.some some; bound = bound }))
      | inr none ↦
          subst (λ (b : Bool). MatchBool b (IsPlanned g s reply ⊎ IsFull g s reply) (reply ≡ replies.Flushing 0)) (sym (le-ltb s.flushed (rows_of g s) (omega (arith, rows))))
          (ap replies.Flushing (none_planned w.session t pieces flush (omega arith)))
    ]

flush_allowed : (w : WorldView) (t : Session) (s : ScriptState) (log : Log) (pieces : ℕ) → IsFlush w.session t pieces → Stands w.session log → IsStateOf w s log
    → FlushAllowed (rules_of w) s (replies.Flushing pieces)
flush_allowed w t s log pieces flush stands state =
    let g = rules_of w in
    let none : s.pending ≡ 0 = state.pending ∙ ap length flush.idle in
    let reply = replies.Flushing pieces in
    let free : Type 0 = MatchBool (nat_lt s.flushed (rows_of g s)) (IsPlanned g s reply ⊎ IsFull g s reply) (reply ≡ replies.Flushing 0) in
    subst (λ (b : Bool). MatchBool b (reply ≡ replies.Stopped) (MatchBool (nat_lt 0 s.pending) (reply ≡ replies.Busy s.pending) free)) (sym (state.stopped ∙ flush.going))
    (subst (λ (n : ℕ). MatchBool (nat_lt 0 n) (reply ≡ replies.Busy n) free) (sym none) (planned_allowed w t s log pieces flush stands state))

-- readers poll on over a plan that flushes nothing by itself
plan_polls : (g : Polling) (log : Log) (s t : ScriptState) (rs : Readers) (pieces : ℕ) → t.readers ≡ s.readers → flushed_rows (and_now (plans pieces) log) ≡ flushed_rows log
    → AllPoll g log s rs → AllPoll g (and_now (plans pieces) log) t rs
plan_polls g log s t rs pieces same level all =
    let new = and_now (plans pieces) log in
    let on = goes_on_still (plans pieces) log refl level in
    all_kept g log new s t rs same (λ x r h. polls_on g log new x r on (λ from n within. counts_same log new from n on refl) h) all

-- the rules and what readers poll for stay
planned_rules : (w : WorldView) (t : Session) → TakesRows w.session t → rules_of (with_session w t) ≡ rules_of w
planned_rules w t takes = λ i. rules_by (takes.dataset i) (takes.limit i) (takes.budget i) w.attempts

planned_polling : (w : WorldView) (t : Session) → TakesRows w.session t → polling_of (with_session w t) ≡ polling_of w
planned_polling w t takes = λ i. polling_by (takes.name i) (rules_by (takes.dataset i) (takes.limit i) (takes.budget i) w.attempts)

planned_cutting : (s t : Session) → TakesRows s t → cutting_of t ≡ cutting_of s
planned_cutting s t takes =
    ap (λ (d : Described). record { chunk_rows = d.layout.chunk_rows; chunk_columns = d.layout.chunk_cols; columns = d.shape.cols; value_size = d.int_type.size }) takes.dataset

-- what is pending is a flush where some rows waited
flush_begun : (s t : Session) (pieces : ℕ) → IsFlush s t pieces → (s.pending ≡ [] → s.flushing ≡ false) → nat_lt 0 pieces ≡ t.flushing
flush_begun s t pieces flush idle =
    elim (cases_lt 0 s.waits) [
      | inl some ↦ lt-ltb 0 pieces (omega (arith, flush.some some)) ∙ sym (flush.takes.flushing some)
      | inr none ↦
          let same = flush.none (omega arith) in
          le-ltb 0 pieces (omega (arith, none_planned s t pieces flush (omega arith))) ∙ sym (ap (λ (x : Session). x.flushing) same ∙ idle flush.idle)
    ]

still_idle : (s t : Session) (pieces : ℕ) → IsFlush s t pieces → (s.pending ≡ [] → s.flushing ≡ false) → t.pending ≡ [] → t.flushing ≡ false
still_idle s t pieces flush idle none =
    let nothing : pieces ≡ 0 = flush.count ∙ ap length none in
    sym (flush_begun s t pieces flush idle) ∙ ap (λ n. nat_lt 0 n) nothing

-- the state of the script after it
abbrev planned_script : WorldView → ScriptState → ℕ → ScriptState
planned_script w s pieces = record s { pending = pieces; ends_flush = nat_lt 0 pieces; spent = s.spent + load_of (rules_of w) s s.appended }

planned_state : (w : WorldView) (t : Session) (s : ScriptState) (log : Log) (pieces : ℕ) → IsFlush w.session t pieces → Stands w.session log → IsStateOf w s log
    → IsStateOf (with_session w t) (planned_script w s pieces) (and_now (plans pieces) log)
planned_state w t s log pieces flush stands state =
    let takes = flush.takes in
    let level : flushed_rows (and_now (plans pieces) log) ≡ flushed_rows log =
    sym (standing_laws.flushed_rows t (and_now (plans pieces) log) (flush.carries log stands)) ∙ takes.committed ∙ standing_laws.flushed_rows w.session log stands in
    let polls = plan_polls (polling_of w) log s (planned_script w s pieces) (reader_at w.readers) pieces refl level state.polls in
    record {
      appended = state.appended;
      flushed = state.flushed ∙ sym level;
      pending = flush.count;
      ends_flush = flush_begun w.session t pieces flush state.idle;
      taken = λ ends. takes.waits;
      idle = still_idle w.session t pieces flush state.idle;
      spent =
          (λ i. state.spent i + load_of-log (rules_of w) s s.appended log (columns_of w.session log stands) state.flushed state.appended i)
          ∙ ap (λ n. n + load (cutting_of w.session) log) (sym (spent_in-events (cutting_of w.session) log (plans pieces ∷ log.events) log.events))
          ∙ ap (λ (c : Cutting). spent_in c (and_now (plans pieces) log) log.events + load c log) (sym (planned_cutting w.session t takes));
      stopped = state.stopped ∙ sym takes.stopped;
      tries = state.tries;
      begun = state.begun;
      polls = subst (λ (g : Polling). AllPoll g (and_now (plans pieces) log) (planned_script w s pieces) (reader_at w.readers)) (sym (planned_polling w t takes)) polls;
    }

planned_steps : (w : WorldView) (t : Session) (pieces : ℕ) → IsFlush w.session t pieces → Steps w events.Flush (replies.Flushing pieces) (with_session w t)
planned_steps w t pieces flush =
    record {
      rules = planned_rules w t flush.takes;
      lawful = λ s fits. (
        flush_allowed w t s fits.log pieces flush fits.stands.stands fits.state,
        record {
          log = and_now (plans pieces) fits.log;
          stands = record { stands = flush.carries fits.log fits.stands.stands; new = new_now (plans pieces) fits.log fits.stands.new; journal = fits.stands.journal; bytes = fits.stands.bytes };
          state = planned_state w t s fits.log pieces flush fits.stands.stands fits.state;
        },
      );
    }

-- ---- Without a place

full_free : (w : WorldView) (s : ScriptState) (log : Log) (full : Full) → NoPlace w.session log full → s.flushed < rows_of (rules_of w) s → Stands w.session log → IsNew log → IsStateOf w s log
    → MatchBool (nat_lt s.flushed (rows_of (rules_of w) s))
    (IsPlanned (rules_of w) s (replies.FullSpace full.at full.size full.limit) ⊎ IsFull (rules_of w) s (replies.FullSpace full.at full.size full.limit)) (replies.FullSpace full.at full.size full.limit ≡ replies.Flushing 0)
full_free w s log full none some stands new state =
    let g = rules_of w in
    let reply = replies.FullSpace full.at full.size full.limit in
    let load_is = load_of-log (rules_of w) s s.appended log (columns_of w.session log stands) state.flushed state.appended in
    let size : full.size ≤ load_of g s s.appended = subst (λ (n : ℕ). full.size ≤ n) (sym load_is) none.size_bound in
    let place : full.at ≤ 1024 + s.spent + load_of g s s.appended =
    subst (λ (n : ℕ). full.at ≤ 1024 + s.spent + n) (sym load_is) (subst (λ (n : ℕ). full.at ≤ 1024 + n + load g.cutting log) (sym state.spent) (subst (λ (n : ℕ). full.at ≤ n + spent g.cutting log + load g.cutting log) (new_end log new) none.at_bound)) in
    subst (λ (b : Bool). MatchBool b (IsPlanned g s reply ⊎ IsFull g s reply) (reply ≡ replies.Flushing 0)) (sym (lt-ltb s.flushed (rows_of g s) some))
    (inr (record {
      place = full.at;
      size = full.size;
      is = ap (λ n. replies.FullSpace full.at full.size n) none.limit;
      positive = none.some;
      size_bound = size;
      place_bound = place;
      full = subst (λ (n : ℕ). n < full.at + full.size) none.limit none.past;
    }))

full_allowed : (w : WorldView) (s : ScriptState) (log : Log) (full : Full) → w.session.stopped ≡ false → w.session.pending ≡ [] → NoPlace w.session log full → Stands w.session log → IsNew log → IsStateOf w s log
    → FlushAllowed (rules_of w) s (replies.FullSpace full.at full.size full.limit)
full_allowed w s log full going idle none stands new state =
    let g = rules_of w in
    let rows = unflushed w s log going idle stands state in
    let empty : s.pending ≡ 0 = state.pending ∙ ap length idle in
    let reply = replies.FullSpace full.at full.size full.limit in
    let free : Type 0 = MatchBool (nat_lt s.flushed (rows_of g s)) (IsPlanned g s reply ⊎ IsFull g s reply) (reply ≡ replies.Flushing 0) in
    subst (λ (b : Bool). MatchBool b (reply ≡ replies.Stopped) (MatchBool (nat_lt 0 s.pending) (reply ≡ replies.Busy s.pending) free)) (sym (state.stopped ∙ going))
    (subst (λ (n : ℕ). MatchBool (nat_lt 0 n) (reply ≡ replies.Busy n) free) (sym empty) (full_free w s log full none (omega (arith, rows, none.waits)) stands new state))

full_steps : (w : WorldView) (t : Session) (full : Full) → w.session.stopped ≡ false → w.session.pending ≡ [] → ((log : Log) → Stands w.session log → NoPlace w.session log full) → LeavesSession w.session t
    → Steps w events.Flush (replies.FullSpace full.at full.size full.limit) (with_session w t)
full_steps w t full going idle none left =
    record {
      rules = held_rules w t left.same;
      lawful = λ s fits. (full_allowed w s fits.log full going idle (none fits.log fits.stands.stands) fits.stands.stands fits.stands.new fits.state, held_log w t s left.same left.stands fits);
    }

-- ---- By the parts of a world

-- why a session plans nothing
abbrev FlushCauses : Session → FlushError → Type 0
FlushCauses s e = (flush_refusal s ≡ Some e) ⊎ (IsSpace e ⊎ ((e ≡ errors.Deep) ⊎ ((e ≡ errors.Failed) ⊎ (e ≡ errors.OutOfMemory))))

abbrev FlushRefused : Session → Result ℕ FlushError → Type 0
FlushRefused s r = (e : FlushError) → flush_refusal s ≡ Some e → r ≡ Err e

-- what is refused first, by what is asked of the session
abbrev refusal_by : Bool → ℕ → Option FlushError
refusal_by stopped pending = if stopped then Some errors.Stopped else (if nat_lt 0 pending then Some (errors.Busy pending) else None)

idle_none : (b : Bool) (ws : List Write) → refusal_by b (length ws) ≡ None → (b ≡ false) × (ws ≡ [])
idle_none true ws none = absurd cc
idle_none false [] none = (refl, refl)
idle_none false (w ∷ ws) none =
    let busy : Some (errors.Busy (length (w ∷ ws))) ≡ None = ap (λ (b : Bool). if b then Some (errors.Busy (length (w ∷ ws))) else None) (sym (lt-ltb 0 (length (w ∷ ws)) (omega arith))) ∙ none in
    absurd cc

busy_is : (b : Bool) (k n : ℕ) → refusal_by b k ≡ Some (errors.Busy n) → (b ≡ false) × ((n ≡ k) × (0 < n))
busy_is true k n is = absurd cc
busy_is false k n is =
    elim (cases_lt 0 k) [
      | inl some ↦
          let same : Some (errors.Busy k) ≡ Some (errors.Busy n) = ap (λ (b : Bool). if b then Some (errors.Busy k) else None) (sym (lt-ltb 0 k some)) ∙ is in
          let own : k ≡ n = cc in
          (refl, (sym own, omega arith))
      | inr none ↦
          let clash : None ≡ Some (errors.Busy n) = ap (λ (b : Bool). if b then Some (errors.Busy k) else None) (sym (le-ltb 0 k none)) ∙ is in
          absurd cc
    ]

stopped_is : (b : Bool) (k : ℕ) → refusal_by b k ≡ Some errors.Stopped → b ≡ true
stopped_is true k is = refl
stopped_is false k is =
    elim (cases_lt 0 k) [
      | inl some ↦
          let clash : Some (errors.Busy k) ≡ Some errors.Stopped = ap (λ (b : Bool). if b then Some (errors.Busy k) else None) (sym (lt-ltb 0 k some)) ∙ is in
          absurd cc
      | inr none ↦
          let clash : None ≡ Some errors.Stopped = ap (λ (b : Bool). if b then Some (errors.Busy k) else None) (sym (le-ltb 0 k none)) ∙ is in
          absurd cc
    ]

-- nothing is refused at first where the answer is another
no_refusal : (o : Option FlushError) (r : Result ℕ FlushError) → ((e : FlushError) → o ≡ Some e → r ≡ Err e) → ((e : FlushError) → o ≡ Some e → r ≡ Err e → ⊥) → o ≡ None
no_refusal None r refused other = refl
no_refusal (Some e) r refused other = absurd (other e refl (refused e refl))

ok_err : (e : FlushError) (r : Result ℕ FlushError) (pieces : ℕ) → r ≡ Ok pieces → r ≡ Err e → ⊥
ok_err e r pieces ok err = cc

-- neither a full file nor want of memory is a first refusal
not_space : (b : Bool) (k : ℕ) (full : Full) → refusal_by b k ≡ Some (errors.Space full) → ⊥
not_space true k full is = cc
not_space false k full is =
    elim (cases_lt 0 k) [
      | inl some ↦ (let clash : Some (errors.Busy k) ≡ Some (errors.Space full) = ap (λ (b : Bool). if b then Some (errors.Busy k) else None) (sym (lt-ltb 0 k some)) ∙ is in cc)
      | inr none ↦ (let clash : None ≡ Some (errors.Space full) = ap (λ (b : Bool). if b then Some (errors.Busy k) else None) (sym (le-ltb 0 k none)) ∙ is in cc)
    ]

not_memory : (b : Bool) (k : ℕ) → refusal_by b k ≡ Some errors.OutOfMemory → ⊥
not_memory true k is = cc
not_memory false k is =
    elim (cases_lt 0 k) [
      | inl some ↦ (let clash : Some (errors.Busy k) ≡ Some errors.OutOfMemory = ap (λ (b : Bool). if b then Some (errors.Busy k) else None) (sym (lt-ltb 0 k some)) ∙ is in cc)
      | inr none ↦ (let clash : None ≡ Some errors.OutOfMemory = ap (λ (b : Bool). if b then Some (errors.Busy k) else None) (sym (le-ltb 0 k none)) ∙ is in cc)
    ]

error_is : (e f : FlushError) → ◌≡◌ {A = Result ℕ FlushError} (Err e) (Err f) → e ≡ f
error_is e f h = cc

free_of_space : (s : Session) (full : Full) (r : Result ℕ FlushError) → FlushRefused s r → r ≡ Err (errors.Space full) → flush_refusal s ≡ None
free_of_space s full r refused is =
    no_refusal (flush_refusal s) r refused
    (λ e refusal answer. not_space s.stopped (length s.pending) full (refusal ∙ ap Some (error_is e (errors.Space full) (sym answer ∙ is))))

-- memory is wanted where nothing is refused first
pub memory_only : (s : Session) (r : Result ℕ FlushError) → FlushRefused s r → r ≡ Err errors.OutOfMemory → flush_refusal s ≡ None
memory_only s r refused is =
    no_refusal (flush_refusal s) r refused
    (λ e refusal answer. not_memory s.stopped (length s.pending) (refusal ∙ ap Some (error_is e errors.OutOfMemory (sym answer ∙ is))))

first_cause : (s : Session) (e f : FlushError) → FlushCauses s e → e ≡ f → (IsSpace f → ⊥) → (f ≡ errors.Deep → ⊥) → (f ≡ errors.Failed → ⊥) → (f ≡ errors.OutOfMemory → ⊥) → flush_refusal s ≡ Some f
first_cause s e f (inl refusal) is space deep failed memory = refusal ∙ ap Some is
first_cause s e f (inr (inl full)) is space deep failed memory = absurd (space (subst IsSpace is full))
first_cause s e f (inr (inr (inl h))) is space deep failed memory = absurd (deep (sym is ∙ h))
first_cause s e f (inr (inr (inr (inl h)))) is space deep failed memory = absurd (failed (sym is ∙ h))
first_cause s e f (inr (inr (inr (inr h)))) is space deep failed memory = absurd (memory (sym is ∙ h))

no_space_busy : (n : ℕ) → IsSpace (errors.Busy n) → ⊥
no_space_busy n h = let clash = h.1 in cc

no_space_stopped : IsSpace errors.Stopped → ⊥
no_space_stopped h = let clash = h.1 in cc

-- the worlds before and after a refused flush, by their parts
module _ (s t : Session) (m k : MemView) (attempts : ℕ) (readers : List (Option ReaderCore)) (w : WorldView) (view : world_of s m attempts readers ≡ w) (same : Same (steady m) (steady k)) (left : LeavesSession s t) where
  pub busy_done : (n : ℕ) (e : FlushError) → FlushCauses s e → e ≡ errors.Busy n → Steps w events.Flush (replies.Busy n) (world_of t k attempts readers)
  busy_done n e causes is =
      let old = world_of s m attempts readers in
      let busy = busy_is s.stopped (length s.pending) n (first_cause s e (errors.Busy n) causes is (λ h. no_space_busy n h) (λ h. cc) (λ h. cc) (λ h. cc)) in
      subst (λ (x : WorldView). Steps x events.Flush (replies.Busy n) (world_of t k attempts readers)) view
      (subst (λ (x : WorldView). Steps old events.Flush (replies.Busy n) x) (sym (replaced s t m k attempts readers same)) (busy_steps old t n busy.0 busy.1.0 busy.1.1 left))

  pub stopped_done : (e : FlushError) → FlushCauses s e → e ≡ errors.Stopped → Steps w events.Flush replies.Stopped (world_of t k attempts readers)
  stopped_done e causes is =
      let old = world_of s m attempts readers in
      let stopped = stopped_is s.stopped (length s.pending) (first_cause s e errors.Stopped causes is (λ h. no_space_stopped h) (λ h. cc) (λ h. cc) (λ h. cc)) in
      subst (λ (x : WorldView). Steps x events.Flush replies.Stopped (world_of t k attempts readers)) view
      (subst (λ (x : WorldView). Steps old events.Flush replies.Stopped x) (sym (replaced s t m k attempts readers same)) (stopped_steps old t stopped left))

  pub full_done : (e : FlushError) (full : Full) (r : Result ℕ FlushError) → e ≡ errors.Space full → r ≡ Err e → FlushRefused s r
      → ((f : Full) → r ≡ Err (errors.Space f) → (log : Log) → Stands s log → NoPlace s log f) → Steps w events.Flush (replies.FullSpace full.at full.size full.limit) (world_of t k attempts readers)
  full_done e full r is result refused space =
      let old = world_of s m attempts readers in
      let answered : r ≡ Err (errors.Space full) = result ∙ ap Err is in
      let free = idle_none s.stopped s.pending (free_of_space s full r refused answered) in
      let reply = replies.FullSpace full.at full.size full.limit in
      subst (λ (x : WorldView). Steps x events.Flush reply (world_of t k attempts readers)) view
      (subst (λ (x : WorldView). Steps old events.Flush reply x) (sym (replaced s t m k attempts readers same)) (full_steps old t full free.0 free.1 (space full answered) left))

-- the place that a reply tells
abbrev ok_reply : Reply → Result Reply OutOfMemory
ok_reply r = Ok r

same_place : (f full : Full) → ok_reply (full_reply f) ≡ ok_reply (full_reply full) → f ≡ full
same_place f full same =
    let at : f.at ≡ full.at = cc in
    let size : f.size ≡ full.size = cc in
    let limit : f.limit ≡ full.limit = cc in
    λ i. record { at = at i; size = size i; limit = limit i }

abbrev flush_err : FlushError → Result ℕ FlushError
flush_err e = Err e

-- is the session's
pub full_told : (w : WorldView) (s : Session) (e : FlushError) (f full : Full) → s ≡ w.session → e ≡ errors.Space f → ((x : Full) → flush_err e ≡ Err (errors.Space x) → IsFullFor s x)
    → ok_reply (full_reply f) ≡ ok_reply (full_reply full) → IsFullFor w.session full
full_told w s e f full same is told replied =
    subst (λ (t : Session). IsFullFor t full) same (subst (IsFullFor s) (same_place f full replied) (told f (ap Err is)))

-- what a flush that is answered with pieces tells
pub record IsAnswered (s t : Session) (r : Result ℕ FlushError) (pieces : ℕ) : Type 0 where
  pub ok : r ≡ Ok pieces
  pub refused : FlushRefused s r
  pub takes : TakesRows s t
  pub count : pieces ≡ length t.pending
  pub some : 0 < s.waits → 1 ≤ pieces
  pub nothing : s.waits ≡ 0 → t ≡ s
  pub bound : (log : Log) → Stands s log → pieces ≤ load (cutting_of s) log
  pub stands : (log : Log) → Stands s log → Stands t (and_now (plans pieces) log)

-- it was ready for that
pub ready : (s t : Session) (r : Result ℕ FlushError) (pieces : ℕ) → IsAnswered s t r pieces → (s.stopped ≡ false) × (s.pending ≡ [])
ready s t r pieces by = idle_none s.stopped s.pending (no_refusal (flush_refusal s) r by.refused (λ e refusal answer. ok_err e r pieces by.ok answer))

pub flush_done : (s t : Session) (m k : MemView) (attempts pieces : ℕ) (readers : List (Option ReaderCore)) (w : WorldView) (r : Result ℕ FlushError) → world_of s m attempts readers ≡ w → Same (steady m) (steady k)
    → IsAnswered s t r pieces → Steps w events.Flush (replies.Flushing pieces) (world_of t k attempts readers)
flush_done s t m k attempts pieces readers w r view same by =
    let old = world_of s m attempts readers in
    let free = ready s t r pieces by in
    let flush : IsFlush s t pieces = record {
      going = free.0;
      idle = free.1;
      takes = by.takes;
      count = by.count;
      some = by.some;
      none = by.nothing;
      load_bound = by.bound;
      carries = by.stands;
    } in
    subst (λ (x : WorldView). Steps x events.Flush (replies.Flushing pieces) (world_of t k attempts readers)) view
    (subst (λ (x : WorldView). Steps old events.Flush (replies.Flushing pieces) x) (sym (replaced s t m k attempts readers same)) (planned_steps old t pieces flush))
