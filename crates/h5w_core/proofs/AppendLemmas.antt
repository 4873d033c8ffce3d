-- The writer appends values.
use Rattle.std.proofs.Common.{◌≡◌, ◌≢◌, ◌⊎◌, ℕ, ◌+◌, ◌/◌, ◌<◌, ◌≤◌, List, [], ◌∷◌, ◌++◌, length, ℤ, Bool, true, false, nat_lt, if◌then◌else◌, Option, Some, None, Result, Ok, Err, sym, refl, ap, ◌∙◌, subst, inl, inr, arith, append_assoc}
use Rattle.std.proofs.lemmas.Bool.{lt-ltb}
use Rattle.std.specs.Result.{OnOk, OnErr, IfOk}
use Rattle.h5w_model.specs.declared.piece.Write.{Write}
use Rattle.h5w_model.specs.Logs.{Cutting, Log, appends, appended, appended_in, load, spent, and_now, needed_chunks}
use Rattle.h5w_model.specs.Lawful.{Rules, ScriptState, AppendAllowed, adds, append_reply, first_outside, fitting_reply, load_of, next_state, rows_in}
use Rattle.h5w_model.specs.declared.event.Event.TheVariants as events
use Rattle.h5w_model.specs.declared.reply.Reply.{Reply}
use Rattle.h5w_model.specs.declared.reply.Reply.TheVariants as replies
use Rattle.h5w_script_laws.specs.Polling.{Polling}
use Rattle.h5w_script_laws.specs.Scripts.{AllPoll}
use Rattle.h5w_script_laws.proofs.ScriptLemmas.{writer_line_laws}
use Rattle.h5w_writer.specs.Refusals.{append_refusal, chunks_refusal}
use Rattle.h5w_writer.specs.Sessions.{AddsValues, Session, chunk_limit, chunks_with, cutting_of, rows_of}
use Rattle.h5w_writer.specs.Stands.{Stands}
use Rattle.h5w_writer.specs.declared.refusal.AppendError.{AppendError}
use Rattle.h5w_writer.specs.declared.refusal.AppendError.TheVariants as errors
use Rattle.h5w_writer.proofs.LawLemmas.{standing_laws}
use Rattle.h5w_core.specs.Worlds.{AreRowsBy, WorldView, HaveOneLog, IsStateOf, Steps, polling_by, polling_of, rules_of}
use Rattle.h5w_core.proofs.StateLemmas.{columns_of, in_rows, load_of-log, more_rows, new_now, rules_by, some_columns}
use Rattle.h5w_core.proofs.WorldLemmas.{world_of, changed, replaced, with_session}
use Rattle.h5w_image.specs.Memory.{MemView}
use Rattle.h5w_image.specs.View.{Same}
use Rattle.h5w_reader.specs.declared.reader.ReaderCore.{ReaderCore}
use Rattle.h5w_core.specs.Readers.{reader_at}
use Rattle.h5w_steady.specs.Steady.{steady}
use Rattle.h5w_writer.proofs.PastLemmas.{spent_in-events}

-- what is answered to a refusal, and where nothing is refused
abbrev pub append_answer : Option AppendError → ℕ → Reply
append_answer None rows = replies.Appended rows 0
append_answer (Some errors.Stopped) rows = replies.Stopped
append_answer (Some (errors.Busy pending)) rows = replies.Busy pending
append_answer (Some (errors.OutOfRange index value)) rows = replies.OutOfRange index value
append_answer (Some (errors.Chunks chunks limit)) rows = replies.FullChunks chunks limit
append_answer (Some errors.Failed) rows = replies.Stopped
append_answer (Some errors.OutOfMemory) rows = replies.Stopped

-- so many rows that these values are
abbrev pub rows_more : Session → List ℤ → ℕ
rows_more s vs = length vs / s.dataset.shape.cols

-- the rows of a state with these values, by the session
rows_with : (w : WorldView) (s : ScriptState) (log : Log) (vs : List ℤ) → AreRowsBy (rules_of w) vs → Stands w.session log → IsStateOf w s log
    → rows_in (rules_of w) (s.appended ++ vs) ≡ rows_of w.session + rows_more w.session vs
rows_with w s log vs rows stands state =
    more_rows (rules_of w) s.appended vs (some_columns w.session log stands) rows
    ∙ ap (λ n. n + rows_more w.session vs) (ap (λ (xs : List ℤ). rows_in (rules_of w) xs) state.appended ∙ sym (standing_laws.appended_rows w.session log stands ∙ in_rows w.session log (appended log) stands))

chosen : (b : Bool) (chunks limit rows : ℕ) → (if b then replies.FullChunks chunks limit else replies.Appended rows 0)
    ≡ append_answer (if b then Some (errors.Chunks chunks limit) else None) rows
chosen true chunks limit rows = refl
chosen false chunks limit rows = refl

fitting : (w : WorldView) (s : ScriptState) (log : Log) (vs : List ℤ) → AreRowsBy (rules_of w) vs → Stands w.session log → IsStateOf w s log
    → fitting_reply (rules_of w) (s.appended ++ vs) ≡ append_answer (chunks_refusal w.session (rows_more w.session vs)) (rows_of w.session + rows_more w.session vs)
fitting w s log vs rows stands state =
    let n = rows_of w.session + rows_more w.session vs in
    let limit = chunk_limit w.session in
    ap (λ (m : ℕ). if nat_lt limit (needed_chunks (rules_of w).cutting m) then replies.FullChunks (needed_chunks (rules_of w).cutting m) limit else replies.Appended m 0) (rows_with w s log vs rows stands state)
    ∙ chosen (nat_lt limit (chunks_with w.session (rows_more w.session vs))) (chunks_with w.session (rows_more w.session vs)) limit n

inside : (o : Option (ℕ × ℤ)) (rest : Reply) (refusal : Option AppendError) (rows : ℕ) → rest ≡ append_answer refusal rows
    → elim o as (λ _. Reply) [ Some x ↦ replies.OutOfRange x.0 x.1 | None ↦ rest ]
    ≡ append_answer (elim o as (λ _. Option AppendError) [ Some x ↦ Some (errors.OutOfRange x.0 x.1) | None ↦ refusal ]) rows
inside None rest refusal rows is = is
inside (Some x) rest refusal rows is = refl

busy_or : (b : Bool) (pending : ℕ) (rest : Reply) (refusal : Option AppendError) (rows : ℕ) → rest ≡ append_answer refusal rows
    → (if b then replies.Busy pending else rest) ≡ append_answer (if b then Some (errors.Busy pending) else refusal) rows
busy_or true pending rest refusal rows is = refl
busy_or false pending rest refusal rows is = is

stopped_or : (b : Bool) (rest : Reply) (refusal : Option AppendError) (rows : ℕ) → rest ≡ append_answer refusal rows
    → (if b then replies.Stopped else rest) ≡ append_answer (if b then Some errors.Stopped else refusal) rows
stopped_or true rest refusal rows is = refl
stopped_or false rest refusal rows is = is

-- the lawful reply is the one to the session's refusal
pub append_reply-answer : (w : WorldView) (s : ScriptState) (log : Log) (vs : List ℤ) → AreRowsBy (rules_of w) vs → Stands w.session log → IsStateOf w s log
    → append_reply (rules_of w) s vs ≡ append_answer (append_refusal w.session vs) (rows_of w.session + rows_more w.session vs)
append_reply-answer w s log vs are stands state =
    let g = rules_of w in
    let rows = rows_of w.session + rows_more w.session vs in
    let within : Option AppendError = chunks_refusal w.session (rows_more w.session vs) in
    let outside : Option AppendError = elim (first_outside g.int_type 0 vs) [ Some x ↦ Some (errors.OutOfRange x.0 x.1) | None ↦ within ] in
    let rest : Reply = elim (first_outside g.int_type 0 vs) [ Some x ↦ replies.OutOfRange x.0 x.1 | None ↦ fitting_reply g (s.appended ++ vs) ] in
    let n = length w.session.pending in
    let busy : Option AppendError = if nat_lt 0 n then Some (errors.Busy n) else outside in
    ap (λ (b : Bool). if b then replies.Stopped else (if nat_lt 0 s.pending then replies.Busy s.pending else rest)) state.stopped
    ∙ ap (λ (k : ℕ). if w.session.stopped then replies.Stopped else (if nat_lt 0 k then replies.Busy k else rest)) state.pending
    ∙ stopped_or w.session.stopped (if nat_lt 0 n then replies.Busy n else rest) busy rows
    (busy_or (nat_lt 0 n) n rest outside rows
    (inside (first_outside g.int_type 0 vs) (fitting_reply g (s.appended ++ vs)) within rows (fitting w s log vs are stands state)))

-- ---- Refused

-- a refusal of the session's own, not of the image or of memory
abbrev pub IsOwn : AppendError → Type 0
IsOwn errors.Stopped = Unit {0}
IsOwn (errors.Busy pending) = Unit {0}
IsOwn (errors.OutOfRange index value) = Unit {0}
IsOwn (errors.Chunks chunks limit) = Unit {0}
IsOwn errors.Failed = ⊥
IsOwn errors.OutOfMemory = ⊥

abbrev refusal_by : (stopped busy past : Bool) → (pending chunks limit : ℕ) → Option (ℕ × ℤ) → Option AppendError
refusal_by stopped busy past pending chunks limit o =
    if stopped then Some errors.Stopped
    else if busy then Some (errors.Busy pending)
    else elim o [ Some x ↦ Some (errors.OutOfRange x.0 x.1) | None ↦ if past then Some (errors.Chunks chunks limit) else None ]

same_error : (e f : AppendError) → ◌≡◌ {A = Option AppendError} (Some e) (Some f) → e ≡ f
same_error e f h = cc

is_own : (stopped busy past : Bool) (pending chunks limit : ℕ) (o : Option (ℕ × ℤ)) (e : AppendError) → refusal_by stopped busy past pending chunks limit o ≡ Some e → IsOwn e
is_own true busy past pending chunks limit o e h = subst IsOwn (same_error errors.Stopped e h) tt
is_own false true past pending chunks limit o e h = subst IsOwn (same_error (errors.Busy pending) e h) tt
is_own false false past pending chunks limit (Some x) e h = subst IsOwn (same_error (errors.OutOfRange x.0 x.1) e h) tt
is_own false false true pending chunks limit None e h = subst IsOwn (same_error (errors.Chunks chunks limit) e h) tt
is_own false false false pending chunks limit None e h = cc

-- memory is wanted where nothing is refused first
pub append_memory : (s : Session) (vs : List ℤ) (r : Result ℕ AppendError) → ((e : AppendError) → append_refusal s vs ≡ Some e → r ≡ Err e) → r ≡ Err errors.OutOfMemory → append_refusal s vs ≡ None
append_memory s vs r refused is = go (append_refusal s vs) refl
  where
    error_is : (e : AppendError) → ◌≡◌ {A = Result ℕ AppendError} (Err e) (Err errors.OutOfMemory) → e ≡ errors.OutOfMemory
    error_is e h = cc

    more : ℕ
    more = length vs / s.dataset.shape.cols

    go : (o : Option AppendError) → append_refusal s vs ≡ o → append_refusal s vs ≡ None
    go None h = h
    go (Some e) h =
        absurd (subst IsOwn (error_is e (sym (refused e h) ∙ is))
        (is_own s.stopped (nat_lt 0 (length s.pending)) (nat_lt (chunk_limit s) (chunks_with s more)) (length s.pending) (chunks_with s more) (chunk_limit s) (first_outside s.dataset.int_type 0 vs) e h))

-- its reply leaves the state, and tells no rows
refused_state : (g : Rules) (s : ScriptState) (vs : List ℤ) (e : AppendError) → IsOwn e → next_state g s (adds vs) (append_answer (Some e) 0) ≡ s
refused_state g s vs errors.Stopped own = refl
refused_state g s vs (errors.Busy pending) own = refl
refused_state g s vs (errors.OutOfRange index value) own = refl
refused_state g s vs (errors.Chunks chunks limit) own = refl
refused_state g s vs errors.Failed own = absurd own
refused_state g s vs errors.OutOfMemory own = absurd own

refused_rows : (e : AppendError) (rows : ℕ) → append_answer (Some e) rows ≡ append_answer (Some e) 0
refused_rows errors.Stopped rows = refl
refused_rows (errors.Busy pending) rows = refl
refused_rows (errors.OutOfRange index value) rows = refl
refused_rows (errors.Chunks chunks limit) rows = refl
refused_rows errors.Failed rows = refl
refused_rows errors.OutOfMemory rows = refl

-- a refusal leaves the world
refused_steps : (w : WorldView) (vs : List ℤ) (e : AppendError) → AreRowsBy (rules_of w) vs → append_refusal w.session vs ≡ Some e → IsOwn e → Steps w (events.Append vs) (append_answer (Some e) 0) w
refused_steps w vs e rows refusal own =
    record {
      rules = refl;
      lawful = λ s fits. (
        inl (sym (refused_rows e (rows_of w.session + rows_more w.session vs)) ∙ ap (λ (r : Option AppendError). append_answer r (rows_of w.session + rows_more w.session vs)) (sym refusal)
            ∙ sym (append_reply-answer w s fits.log vs rows fits.stands.stands fits.state)),
        subst (λ (t : ScriptState). HaveOneLog w t) (sym (refused_state (rules_of w) s vs e own)) fits,
      );
    }

-- why a session refuses
abbrev Causes : Session → List ℤ → AppendError → Type 0
Causes s vs e = (append_refusal s vs ≡ Some e) ⊎ ((e ≡ errors.Failed) ⊎ (e ≡ errors.OutOfMemory))

own_cause : (s : Session) (vs : List ℤ) (e f : AppendError) → Causes s vs e → e ≡ f → IsOwn f → append_refusal s vs ≡ Some f
own_cause s vs e f (inl refusal) is own = refusal ∙ ap Some is
own_cause s vs e f (inr (inl failed)) is own = absurd (subst IsOwn (sym is ∙ failed) own)
own_cause s vs e f (inr (inr memory)) is own = absurd (subst IsOwn (sym is ∙ memory) own)

pub refused_done : (s t : Session) (m n : MemView) (attempts : ℕ) (readers : List (Option ReaderCore)) (w : WorldView) (vs : List ℤ) (e f : AppendError) → AreRowsBy (rules_of w) vs → world_of s m attempts readers ≡ w → Same (steady m) (steady n) → t ≡ s
    → Causes s vs e → e ≡ f → IsOwn f → Steps w (events.Append vs) (append_answer (Some f) 0) (world_of t n attempts readers)
refused_done s t m n attempts readers w vs e f are view same kept causes is own =
    let old = world_of s m attempts readers in
    let rows : AreRowsBy (rules_of old) vs = subst (λ (x : WorldView). AreRowsBy (rules_of x) vs) (sym view) are in
    let reply = append_answer (Some f) 0 in
    let unchanged : world_of t n attempts readers ≡ old = changed s t m n attempts readers same (λ x. x) kept in
    subst (λ (x : WorldView). Steps x (events.Append vs) reply (world_of t n attempts readers)) view
    (subst (λ (x : WorldView). Steps old (events.Append vs) reply x) (sym unchanged) (refused_steps old vs f rows (own_cause s vs e f causes is own) own))

-- ---- Appended

-- nothing is refused to a session that goes on
going_rest : (b : Bool) (rest : Option AppendError) → (if b then Some errors.Stopped else rest) ≡ None → rest ≡ None
going_rest true rest accepted = cc
going_rest false rest accepted = accepted

none_pending : (ws : List Write) (rest : Option AppendError) → (if nat_lt 0 (length ws) then Some (errors.Busy (length ws)) else rest) ≡ None → ws ≡ []
none_pending [] rest accepted = refl
none_pending (w ∷ ws) rest accepted =
    let busy : Some (errors.Busy (length (w ∷ ws))) ≡ None =
    ap (λ (b : Bool). if b then Some (errors.Busy (length (w ∷ ws))) else rest) (sym (lt-ltb 0 (length (w ∷ ws)) (omega arith))) ∙ accepted in
    cc

-- what is true of the session after it, and of the pieces that it wrote early
pub record IsAppend (s t : Session) (vs : List ℤ) : Type 0 where
  pub accepted : append_refusal s vs ≡ None
  pub added : AddsValues s vs t
  pub bound : (log : Log) → Stands s log → length t.pending ≤ load (cutting_of s) (and_now (appends vs) log)
  pub over : t.pending ≢ [] → (log : Log) → Stands s log → s.budget < load (cutting_of s) (and_now (appends vs) log)
  pub carries : (log : Log) → Stands s log → Stands t (and_now (appends vs) log)

was_idle : (s t : Session) (vs : List ℤ) → IsAppend s t vs → s.pending ≡ []
was_idle s t vs app = none_pending s.pending _ (going_rest s.stopped _ app.accepted)

-- the rules, what readers poll for and how rows are cut stay
added_rules : (w : WorldView) (t : Session) (vs : List ℤ) → AddsValues w.session vs t → rules_of (with_session w t) ≡ rules_of w
added_rules w t vs more = λ i. rules_by (more.session i).dataset (more.limit i) (more.session i).budget w.attempts

added_polling : (w : WorldView) (t : Session) (vs : List ℤ) → AddsValues w.session vs t → polling_of (with_session w t) ≡ polling_of w
added_polling w t vs more = λ i. polling_by (more.session i).name (rules_by (more.session i).dataset (more.limit i) (more.session i).budget w.attempts)

added_cutting : (s t : Session) (vs : List ℤ) → AddsValues s vs t → cutting_of t ≡ cutting_of s
added_cutting s t vs more = ap cutting_of more.session

-- all values are the log's
all_values : (w : WorldView) (s : ScriptState) (log : Log) (vs : List ℤ) → IsStateOf w s log → s.appended ++ vs ≡ appended (and_now (appends vs) log)
all_values w s log vs state = ap (λ (xs : List ℤ). xs ++ vs) state.appended ∙ append_assoc log.values (appended_in log.events) vs

-- the load of the rows that wait
load_with : (w : WorldView) (s : ScriptState) (log : Log) (vs : List ℤ) → Stands w.session log → IsStateOf w s log → load_of (rules_of w) s (s.appended ++ vs) ≡ load (cutting_of w.session) (and_now (appends vs) log)
load_with w s log vs stands state =
    load_of-log (rules_of w) s (s.appended ++ vs) (and_now (appends vs) log) (columns_of w.session log stands) state.flushed (all_values w s log vs state)

-- the reply is lawful: without pieces, or with those that were written early
append_allowed : (w : WorldView) (t : Session) (vs : List ℤ) (s : ScriptState) (log : Log) → AreRowsBy (rules_of w) vs → IsAppend w.session t vs → Stands w.session log → IsStateOf w s log
    → AppendAllowed (rules_of w) s vs (replies.Appended (rows_of w.session + rows_more w.session vs) (length t.pending))
append_allowed w t vs s log are app stands state = by_pieces t.pending refl
  where
    g : Rules
    g = rules_of w

    rows : ℕ
    rows = rows_of w.session + rows_more w.session vs

    plain : append_reply g s vs ≡ replies.Appended rows 0
    plain = append_reply-answer w s log vs are stands state ∙ ap (λ (r : Option AppendError). append_answer r rows) app.accepted

    all : rows ≡ rows_in g (s.appended ++ vs)
    all = sym (rows_with w s log vs are stands state)

    load_is : load (cutting_of w.session) (and_now (appends vs) log) ≡ load_of g s (s.appended ++ vs)
    load_is = sym (load_with w s log vs stands state)

    cons_some : (p : Write) (ps : List Write) → t.pending ≡ p ∷ ps → t.pending ≢ []
    cons_some p ps some none = let clash : p ∷ ps ≡ [] = sym some ∙ none in cc

    by_pieces : (ws : List Write) → t.pending ≡ ws → AppendAllowed g s vs (replies.Appended rows (length t.pending))
    by_pieces [] none = inl (ap (λ (ws : List Write). replies.Appended rows (length ws)) none ∙ sym plain)
    by_pieces (p ∷ ps) some =
        inr (record {
          pieces = length t.pending;
          accepted = plain ∙ ap (λ (n : ℕ). replies.Appended n 0) all;
          is = ap (λ (n : ℕ). replies.Appended n (length t.pending)) all;
          some = omega (arith, ap length some);
          bound = subst (λ (n : ℕ). length t.pending ≤ n) load_is (app.bound log stands);
          over = subst (λ (n : ℕ). w.session.budget < n) load_is (app.over (cons_some p ps some) log stands);
        })

-- the state of the script after it
abbrev appended_script : WorldView → ScriptState → List ℤ → Session → ScriptState
appended_script w s vs t = record s { appended = s.appended ++ vs; pending = length t.pending; ends_flush = false; spent = s.spent + load_of (rules_of w) s (s.appended ++ vs) }

appended_state : (w : WorldView) (t : Session) (vs : List ℤ) (s : ScriptState) (log : Log) → IsAppend w.session t vs → Stands w.session log → IsStateOf w s log
    → IsStateOf (with_session w t) (appended_script w s vs t) (and_now (appends vs) log)
appended_state w t vs s log app stands state =
    let more = app.added in
    let still : t.flushing ≡ false = ap (λ (x : Session). x.flushing) more.session ∙ state.idle (was_idle w.session t vs app) in
    let polls = writer_line_laws.appended (polling_of w) log s (reader_at w.readers) vs state.polls in
    record {
      appended = all_values w s log vs state;
      flushed = state.flushed;
      pending = refl;
      ends_flush = sym still;
      taken = λ flush. let clash : false ≡ true = sym still ∙ flush in cc;
      idle = λ none. still;
      spent =
          (λ i. state.spent i + load_with w s log vs stands state i)
          ∙ ap (λ n. n + load (cutting_of w.session) (and_now (appends vs) log)) (sym (spent_in-events (cutting_of w.session) log (appends vs ∷ log.events) log.events))
          ∙ ap (λ (c : Cutting). spent c (and_now (appends vs) log)) (sym (added_cutting w.session t vs more));
      stopped = state.stopped ∙ sym (ap (λ (x : Session). x.stopped) more.session);
      tries = state.tries;
      begun = state.begun;
      polls = subst (λ (g : Polling). AllPoll g (and_now (appends vs) log) s (reader_at w.readers)) (sym (added_polling w t vs more)) polls;
    }

appended_steps : (w : WorldView) (t : Session) (vs : List ℤ) → AreRowsBy (rules_of w) vs → IsAppend w.session t vs
    → Steps w (events.Append vs) (replies.Appended (rows_of w.session + rows_more w.session vs) (length t.pending)) (with_session w t)
appended_steps w t vs rows app =
    record {
      rules = added_rules w t vs app.added;
      lawful = λ s fits. (
        append_allowed w t vs s fits.log rows app fits.stands.stands fits.state,
        record {
          log = and_now (appends vs) fits.log;
          stands = record { stands = app.carries fits.log fits.stands.stands; new = new_now (appends vs) fits.log fits.stands.new; journal = fits.stands.journal; bytes = fits.stands.bytes };
          state = appended_state w t vs s fits.log app fits.stands.stands fits.state;
        },
      );
    }

ok_err : (e : AppendError) (r : Result ℕ AppendError) (rows : ℕ) → r ≡ Ok rows → r ≡ Err e → ⊥
ok_err e r rows ok err = cc

pub not_refused : (refusal : Option AppendError) (r : Result ℕ AppendError) (rows : ℕ) → ((e : AppendError) → refusal ≡ Some e → r ≡ Err e) → r ≡ Ok rows → refusal ≡ None
not_refused None r rows refused ok = refl
not_refused (Some e) r rows refused ok = absurd (ok_err e r rows ok (refused e refl))

-- what the session's append tells
pub record AppendTells (s t : Session) (vs : List ℤ) (r : Result ℕ AppendError) : Type 0 where
  pub added : OnOk r (AddsValues s vs t)
  pub rows : IfOk r (λ rows. rows ≡ rows_of t)
  pub stands : OnOk r ((log : Log) → Stands s log → Stands t (and_now (appends vs) log))
  pub bound : OnOk r ((log : Log) → Stands s log → length t.pending ≤ load (cutting_of s) (and_now (appends vs) log))
  pub over : OnOk r (t.pending ≢ [] → (log : Log) → Stands s log → s.budget < load (cutting_of s) (and_now (appends vs) log))
  pub refused : (e : AppendError) → append_refusal s vs ≡ Some e → r ≡ Err e
  pub kept : OnErr r (t ≡ s)

pub append_done : (s t : Session) (m n : MemView) (attempts rows pieces : ℕ) (readers : List (Option ReaderCore)) (w : WorldView) (vs : List ℤ) → AreRowsBy (rules_of w) vs → world_of s m attempts readers ≡ w
    → Same (steady m) (steady n) → AppendTells s t vs (Ok rows) → pieces ≡ length t.pending → Steps w (events.Append vs) (replies.Appended rows pieces) (world_of t n attempts readers)
append_done s t m n attempts rows pieces readers w vs are view same tells count =
    let old = world_of s m attempts readers in
    let own : AreRowsBy (rules_of old) vs = subst (λ (x : WorldView). AreRowsBy (rules_of x) vs) (sym view) are in
    let app : IsAppend s t vs = record {
      accepted = not_refused (append_refusal s vs) (Ok rows) rows tells.refused refl;
      added = tells.added;
      bound = tells.bound;
      over = tells.over;
      carries = tells.stands;
    } in
    let all : rows ≡ rows_of s + rows_more s vs = tells.rows ∙ ap rows_of tells.added.session ∙ omega arith in
    let reply : replies.Appended rows pieces ≡ replies.Appended (rows_of s + rows_more s vs) (length t.pending) = λ i. replies.Appended (all i) (count i) in
    subst (λ (x : WorldView). Steps x (events.Append vs) (replies.Appended rows pieces) (world_of t n attempts readers)) view
    (subst (λ (x : WorldView). Steps old (events.Append vs) (replies.Appended rows pieces) x) (sym (replaced s t m n attempts readers same))
    (subst (λ (r : Reply). Steps old (events.Append vs) r (with_session old t)) (sym reply) (appended_steps old t vs own app)))
