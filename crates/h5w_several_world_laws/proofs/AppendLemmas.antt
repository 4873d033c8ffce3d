-- Values are appended to one of several datasets.
use Rattle.std.proofs.Common.{◌≡◌, ◌≢◌, ◌⊎◌, ℕ, zero, suc, ◌+◌, ◌-◌, ◌*◌, ◌/◌, ◌<◌, ◌≤◌, cond, Bool, true, false, List, [], ◌∷◌, ◌++◌, length, map, Option, Some, None, refl, sym, ◌∙◌, ap, subst, inl, inr, arith, length-append}
use Rattle.std.specs.Prelude.{nat_lt, ◌==◌, slice_get, slice_set, ℤ}
use Rattle.std.proofs.Math.Nat.{add-mul-div_right}
use Rattle.std.proofs.lemmas.Bool.{cond-true, cond-false, eq-eqb, ne_eqb}
use Rattle.std.proofs.lemmas.Nat.{div-mul-add}
use Rattle.std.proofs.lemmas.Option.{slice_get_within}
use Rattle.h5w_model.specs.Messages.{IntTypeFields}
use Rattle.h5w_model.specs.Lawful.{Rules, ScriptState, adds, append_reply, first_outside, fitting_reply, rows_in, rows_of as script_rows}
use Rattle.h5w_model.specs.Logs.{Log, Happening, appends, and_now, needed_chunks}
use Rattle.h5w_model.specs.Several.{Begun, FileLog, appends_to, log_of}
use Rattle.h5w_model.specs.declared.piece.Write.{Write}
use Rattle.h5w_model.specs.declared.reply.Reply.{Reply}
use Rattle.h5w_model.specs.declared.reply.Reply.TheVariants as replies
use Rattle.h5w_writer.specs.Refusals.{append_refusal}
use Rattle.h5w_writer.specs.Sessions.{AreRows, Session, chunk_limit, chunks_with, rows_of, with_values}
use Rattle.h5w_writer.specs.declared.refusal.AppendError.{AppendError}
use Rattle.h5w_writer.specs.declared.refusal.AppendError.TheVariants as errors
use Rattle.h5w_several_writer_laws.specs.Sessions.{AppendsTo, Sessions, all_pending, counts_of}
use Rattle.h5w_several_writer_laws.specs.Standing.{StandsAll, and_then}
use Rattle.h5w_several_writer_laws.proofs.CallLemmas.{calls_stand}
use Rattle.h5w_several_writer_laws.proofs.FlushAllLemmas.{back_nil, front_nil}
use Rattle.h5w_several_script_laws.specs.Scripts.{FileState, SetState, added, append_reply_in, asks, due, left_of, load_in, next_all, pending_in, says, set_after, sets_after, total}
use Rattle.h5w_several_script_laws.specs.Polled.{Places}
use Rattle.h5w_several_script_laws.proofs.PolledLemmas.{set_there, writer_file_laws}
use Rattle.h5w_several_world_laws.specs.Worlds.{AreStatesOf, HaveOneFileLog, IsFileStateOf, IsStateOfPart, polling_in, rules_in}
use Rattle.h5w_several_world_laws.specs.Steps.{AppendStep, StepsTo}
use Rattle.h5w_several_world_laws.proofs.BeginningLemmas.{new_then}
use Rattle.h5w_several_world_laws.proofs.ShownLemmas.{part_is}
use Rattle.h5w_several_world_laws.proofs.StepLemmas.{Tells, none_left, state_at, states_length, tells_of}

-- ---- What is answered

-- so many more rows
pub rows_added : (c k : ℕ) (all vs : List ℤ) → 0 < c → length vs ≡ k * c → length (all ++ vs) / c ≡ length all / c + length vs / c
rows_added c k all vs some is =
    let own : length vs / c ≡ k = ap (λ (n : ℕ). n / c) (is ∙ (let whole : k * c ≡ k * c + 0 = omega arith in whole)) ∙ div-mul-add k c 0 some in
    ap (λ (n : ℕ). n / c) (length-append all vs ∙ ap (λ (n : ℕ). length all + n) is) ∙ add-mul-div_right (length all) k some ∙ ap (λ (n : ℕ). length all / c + n) (sym own)

abbrev refusal_by : (stopped busy past : Bool) → (pending chunks limit : ℕ) → Option (ℕ × ℤ) → Option AppendError
refusal_by stopped busy past pending chunks limit o =
    cond stopped (Some errors.Stopped) (cond busy (Some (errors.Busy pending))
    (elim o as (λ _. Option AppendError) [ Some x ↦ Some (errors.OutOfRange x.0 x.1) | None ↦ cond past (Some (errors.Chunks chunks limit)) None ]))

accepted_by : (stopped busy past : Bool) (pending chunks limit : ℕ) (o : Option (ℕ × ℤ)) → refusal_by stopped busy past pending chunks limit o ≡ None → (o ≡ None) × (past ≡ false)
accepted_by true busy past pending chunks limit o e = absurd (cc)
accepted_by false true past pending chunks limit o e = absurd (cc)
accepted_by false false past pending chunks limit (Some x) e = absurd (cc)
accepted_by false false true pending chunks limit None e = absurd (cc)
accepted_by false false false pending chunks limit None e = (refl, refl)

accepted : (s : Session) (vs : List ℤ) → append_refusal s vs ≡ None → (first_outside s.dataset.int_type 0 vs ≡ None) × (nat_lt (chunk_limit s) (chunks_with s (length vs / s.dataset.shape.cols)) ≡ false)
accepted s vs e =
    let more = length vs / s.dataset.shape.cols in
    accepted_by s.stopped (nat_lt 0 (length s.pending)) (nat_lt (chunk_limit s) (chunks_with s more)) (length s.pending) (chunks_with s more) (chunk_limit s) (first_outside s.dataset.int_type 0 vs) e

-- ---- All parts

added_state : (limit attempts before : ℕ) (s : Session) (x : SetState) (vs : List ℤ) (rows : ℕ) → s.pending ≡ [] → IsStateOfPart limit attempts before s x
    → IsStateOfPart limit attempts before (with_values s vs) (set_after (adds vs) (replies.Appended rows 0) x)
added_state limit attempts before s x vs rows none st =
    let idle : s.flushing ≡ false = st.flushing ∙ ap (λ (ws : List Write). nat_lt 0 (length ws)) none in
    record {
      rules = st.rules;
      pending = sym (ap (λ (ws : List Write). due before (length ws)) none);
      ends_flush = sym (ap (λ (ws : List Write). nat_lt 0 (length ws)) none);
      flushing = st.flushing;
      taken = λ t. let clash : false ≡ true = sym idle ∙ t in cc;
    }

pub added_states : (limit attempts before d : ℕ) (ss : List Session) (xs : List SetState) (part : Session) (vs : List ℤ) (rows : ℕ) → all_pending ss ≡ [] → slice_get ss d ≡ Some part → AreStatesOf limit attempts before ss xs
    → AreStatesOf limit attempts before (slice_set ss d (with_values part vs)) (sets_after d (adds vs) (replies.Appended rows 0) xs)
added_states limit attempts before d [] xs part vs rows none at h = absurd (cc)
added_states limit attempts before d (s ∷ ss) [] part vs rows none at h = absurd h
added_states limit attempts before zero (s ∷ ss) (x ∷ xs) part vs rows none at h =
    let same : s ≡ part = part_is s part at in
    subst (λ (p : Session). AreStatesOf limit attempts before (with_values p vs ∷ ss) (set_after (adds vs) (replies.Appended rows 0) x ∷ xs)) same
    (added_state limit attempts before s x vs rows (front_nil s.pending (all_pending ss) none) h.0, h.1)
added_states limit attempts before (suc d) (s ∷ ss) (x ∷ xs) part vs rows none at h =
    (h.0, added_states limit attempts (before + length s.pending) d ss xs part vs rows (back_nil s.pending (all_pending ss) none) at h.1)

-- no piece is left of any
pub no_counts : (ss : List Session) (xs : List SetState) → all_pending ss ≡ [] → length xs ≡ length ss → counts_of ss ≡ map (λ (x : SetState). 0) xs
no_counts [] [] none same = refl
no_counts [] (x ∷ xs) none same = absurd (omega (arith, same))
no_counts (s ∷ ss) [] none same = absurd (omega (arith, same))
no_counts (s ∷ ss) (x ∷ xs) none same =
    let own : length s.pending ≡ 0 = ap length (front_nil s.pending (all_pending ss) none) in
    λ i. own i ∷ no_counts ss xs (back_nil s.pending (all_pending ss) none) (omega (arith, same)) i

pub no_left : (d : ℕ) (xs : List SetState) → left_of d 0 xs ≡ map (λ (x : SetState). 0) xs
no_left d [] = refl
no_left zero (x ∷ xs) = refl
no_left (suc d) (x ∷ xs) = ap (λ (ns : List ℕ). 0 ∷ ns) (no_left d xs)

-- the values that wait are no pieces
pub added_counts : (ss : List Session) (d : ℕ) (part : Session) (vs : List ℤ) → slice_get ss d ≡ Some part → counts_of (slice_set ss d (with_values part vs)) ≡ counts_of ss
added_counts [] d part vs at = absurd (cc)
added_counts (s ∷ ss) zero part vs at = ap (λ (p : Session). length p.pending ∷ counts_of ss) (sym (part_is s part at))
added_counts (s ∷ ss) (suc d) part vs at = ap (λ (ns : List ℕ). length s.pending ∷ ns) (added_counts ss d part vs at)

-- a part of the session that has more values
record WasAdded (ss : List Session) (e : ℕ) (u : Session) : Type 0 where
  was : Session
  there : slice_get ss e ≡ Some was
  polling : (limit attempts : ℕ) → polling_in limit attempts u ≡ polling_in limit attempts was

was_added : (ss : List Session) (d : ℕ) (part : Session) (vs : List ℤ) → slice_get ss d ≡ Some part → (e : ℕ) (u : Session) → slice_get (slice_set ss d (with_values part vs)) e ≡ Some u → WasAdded ss e u
was_added [] d part vs at e u is = absurd (cc)
was_added (s ∷ ss) zero part vs at zero u is = record {
  was = s;
  there = refl;
  polling = λ limit attempts. ap (polling_in limit attempts) (sym (part_is (with_values part vs) u is)) ∙ ap (polling_in limit attempts) (sym (part_is s part at));
}
was_added (s ∷ ss) zero part vs at (suc e) u is = record { was = u; there = is; polling = λ limit attempts. refl }
was_added (s ∷ ss) (suc d) part vs at zero u is = record { was = s; there = refl; polling = λ limit attempts. ap (polling_in limit attempts) (sym (part_is s u is)) }
was_added (s ∷ ss) (suc d) part vs at (suc e) u is = let p = was_added ss d part vs at e u is in record { was = p.was; there = p.there; polling = p.polling }

-- ---- The step

module _ (old new : Sessions) (attempts : ℕ) (ps : Places) (F : FileState) (values : List ℤ) (h : HaveOneFileLog old attempts ps F) (going : old.stopped ≡ false) (none : all_pending old.parts ≡ [])
    (x : AppendsTo F.used values old new) (are : AreRows x.part values) (accepts : append_refusal x.part values ≡ None) where
  abbrev pub part : Session
  part = x.part

  abbrev pub more : ℕ
  more = length values / part.dataset.shape.cols

  pub used_set : (y : SetState) × (slice_get F.sets F.used ≡ Some y)
  used_set = set_there F.sets F.used h.state.polls.used

  told : Tells old attempts ps F h.log h.state F.used used_set.0
  told = tells_of old attempts ps F h.log h.state h.stands F.used used_set.0 used_set.1

  same_part : told.part ≡ part
  same_part = part_is told.part part (sym told.part_is ∙ x.is)

  rules_are : used_set.0.rules ≡ rules_in old.places.limit attempts part
  rules_are = (state_at old.places.limit attempts 0 old.parts F.sets h.state.states F.used told.part used_set.0 told.part_is used_set.1).1.rules ∙ ap (rules_in old.places.limit attempts) same_part

  -- the rows then, by the script and by the session
  rows_are : rows_in (rules_in old.places.limit attempts part) (used_set.0.state.appended ++ values) ≡ rows_of part + more
  rows_are =
      let some : 0 < part.dataset.shape.cols = subst (λ (s : Session). 0 < s.dataset.shape.cols) same_part told.tells.some_columns in
      let all : script_rows (rules_in old.places.limit attempts part) used_set.0.state ≡ rows_of part =
      ap (λ (g : Rules). script_rows g used_set.0.state) (sym rules_are) ∙ told.all ∙ ap rows_of same_part in
      rows_added part.dataset.shape.cols are.0 used_set.0.state.appended values some are.1 ∙ ap (λ (n : ℕ). n + more) all

  pub answer : append_reply_in F used_set.0 values ≡ replies.Appended (rows_of part + more) 0
  answer =
      let g = rules_in old.places.limit attempts part in
      let s = used_set.0.state in
      let rest : Reply = elim (first_outside g.int_type 0 values) as (λ _. Reply) [ Some z ↦ replies.OutOfRange z.0 z.1 | None ↦ fitting_reply g (s.appended ++ values) ] in
      let idle : pending_in F ≡ 0 = ap total h.state.left ∙ none_left old.parts none in
      let a = accepted part values accepts in
      ap (λ (r : Rules). append_reply r (record s { pending = pending_in F; stopped = F.stopped }) values) rules_are
      ∙ cond-false F.stopped replies.Stopped (cond (nat_lt 0 (pending_in F)) (replies.Busy (pending_in F)) rest) (h.state.stopped ∙ going)
      ∙ cond-false (nat_lt 0 (pending_in F)) (replies.Busy (pending_in F)) rest (ap (nat_lt 0) idle)
      ∙ ap (λ (o : Option (ℕ × ℤ)). elim o as (λ _. Reply) [ Some z ↦ replies.OutOfRange z.0 z.1 | None ↦ fitting_reply g (s.appended ++ values) ]) a.0
      ∙ ap (λ (m : ℕ). cond (nat_lt (chunk_limit part) (needed_chunks g.cutting m)) (replies.FullChunks (needed_chunks g.cutting m) (chunk_limit part)) (replies.Appended m 0)) rows_are
      ∙ cond-false (nat_lt (chunk_limit part) (chunks_with part more)) (replies.FullChunks (chunks_with part more) (chunk_limit part)) (replies.Appended (rows_of part + more) 0) a.1

  -- the log of what a dataset sees
  abbrev pub logs_now : ℕ → Log
  logs_now d = record (h.state.logs d) { events = cond (F.used == d) (appends values ∷ (h.state.logs d).events) (h.state.logs d).events }

  pub own_log : logs_now F.used ≡ and_now (appends values) (h.state.logs F.used)
  own_log =
      let l = h.state.logs F.used in
      ap (λ (es : List Happening). record l { events = es }) (cond-true (F.used == F.used) (appends values ∷ l.events) l.events (eq-eqb F.used F.used refl))

  pub other_log : (d : ℕ) → d ≢ F.used → logs_now d ≡ h.state.logs d
  other_log d other =
      let l = h.state.logs d in
      ap (λ (es : List Happening). record l { events = es }) (cond-false (F.used == d) (appends values ∷ l.events) l.events (ne_eqb F.used d (λ z. other (sym z))))

  pub parts_are : new.parts ≡ slice_set old.parts F.used (with_values part values)
  parts_are = ap (λ (S : Sessions). S.parts) x.session

  pub limit_is : new.places.limit ≡ old.places.limit
  limit_is = ap (λ (S : Sessions). S.places.limit) x.session

  pub own_now : (d : ℕ) (b : Begun) (u : Session) → slice_get h.log.sets d ≡ Some b → slice_get new.parts d ≡ Some u
      → (h.state.pollings d ≡ polling_in new.places.limit attempts u) × (logs_now d ≡ log_of d b (and_then (appends_to F.used values) h.log))
  own_now d b u is at =
      let w = was_added old.parts F.used part values x.is d u (ap (λ (ss : List Session). slice_get ss d) (sym parts_are) ∙ at) in
      let own = h.state.own d b w.was is w.there in (
        own.0 ∙ sym (w.polling old.places.limit attempts) ∙ ap (λ (l : ℕ). polling_in l attempts u) (sym limit_is),
        ap (λ (l : Log). record l { events = cond (F.used == d) (appends values ∷ l.events) l.events }) own.1,
      )

  -- whatever is spent more
  pub still_grown : (load : ℕ) → new.places.end ≤ 1024 * length h.log.sets + (F.spent + load)
  still_grown load =
      let end : new.places.end ≡ old.places.end = ap (λ (S : Sessions). S.places.end) x.session in
      omega (arith, end, h.state.grown)

  abbrev pub added_all : IsFileStateOf new attempts ps (added F values (rows_of part + more) 0) (and_then (appends_to F.used values) h.log)
  added_all =
      let count = states_length old.places.limit attempts 0 old.parts F.sets h.state.states in
      record {
        states =
            subst (λ (l : ℕ). AreStatesOf l attempts 0 new.parts (sets_after F.used (adds values) (replies.Appended (rows_of part + more) 0) F.sets)) (sym limit_is)
            (subst (λ (ss : List Session). AreStatesOf old.places.limit attempts 0 ss (sets_after F.used (adds values) (replies.Appended (rows_of part + more) 0) F.sets)) (sym parts_are)
            (added_states old.places.limit attempts 0 F.used old.parts F.sets part values (rows_of part + more) none x.is h.state.states));
        left =
            no_left F.used F.sets ∙ sym (no_counts old.parts F.sets none count) ∙ sym (added_counts old.parts F.used part values x.is) ∙ ap counts_of (sym parts_are);
        stopped = h.state.stopped ∙ sym (ap (λ (S : Sessions). S.stopped) x.session);
        limit = h.state.limit ∙ sym limit_is;
        pollings = h.state.pollings;
        logs = logs_now;
        own = own_now;
        polls = writer_file_laws.appended h.state.pollings h.state.logs logs_now F ps values (rows_of part + more) 0 h.state.polls own_log other_log;
        grown = still_grown (load_in (sets_after F.used (adds values) (replies.Appended (rows_of part + more) 0) F.sets));
      }

  abbrev pub append_steps : StepsTo attempts ps F (asks (adds values)) (says (replies.Appended (rows_of part + more) 0)) new
  append_steps = record {
    allowed = record { set = used_set.0; used = used_set.1; allowed = inl (ap says (sym answer)) };
    fits = record {
      log = and_then (appends_to F.used values) h.log;
      stands = calls_stand.appends old new F.used values h.log h.stands going none x are accepts;
      new = new_then h.state.pollings h.log (appends_to F.used values) h.new;
      state = added_all;
    };
  }

pub append_step : AppendStep
append_step = record { appended = append_steps }
