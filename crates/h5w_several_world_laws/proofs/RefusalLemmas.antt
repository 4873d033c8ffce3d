-- Lines that a session of several datasets refuses.
use Rattle.std.proofs.Common.{◌≡◌, ◌≢◌, ℕ, zero, suc, ◌+◌, ◌-◌, ◌*◌, ◌/◌, ◌<◌, ◌≤◌, cond, Bool, true, false, List, [], ◌∷◌, ◌++◌, length, Option, Some, None, refl, sym, ◌∙◌, ap, subst, inl, arith}
use Rattle.std.specs.Prelude.{nat_lt, slice_get, ℤ}
use Rattle.std.proofs.lemmas.Bool.{cond-true, cond-false, lt-ltb}
use Rattle.h5w_model.specs.Lawful.{Rules, adds, append_reply, first_outside, fitting_reply, flushes, rows_in, rows_of as script_rows}
use Rattle.h5w_model.specs.Logs.{needed_chunks}
use Rattle.h5w_model.specs.declared.piece.Write.{Write}
use Rattle.h5w_model.specs.declared.reply.Reply.{Reply}
use Rattle.h5w_model.specs.declared.reply.Reply.TheVariants as replies
use Rattle.h5w_writer.specs.Sessions.{AreRows, Session, chunk_limit, chunks_with, rows_of}
use Rattle.h5w_several_writer_laws.specs.Sessions.{AreSameBut, SameButHeld, Sessions, all_pending, counts_of}
use Rattle.h5w_several_writer_laws.specs.Standing.{StandsAll}
use Rattle.h5w_several_writer_laws.proofs.CallLemmas.{calls_stand}
use Rattle.h5w_several_script_laws.specs.Scripts.{FileState, SetState, append_reply_in, asks, pending_in, says, total}
use Rattle.h5w_several_script_laws.specs.Polled.{Places}
use Rattle.h5w_several_script_laws.proofs.PolledLemmas.{set_there}
use Rattle.h5w_several_world_laws.specs.Worlds.{AreStatesOf, HaveOneFileLog, IsStateOfPart, polling_in, rules_in}
use Rattle.h5w_several_world_laws.specs.Steps.{StepsTo}
use Rattle.h5w_several_world_laws.specs.Refusals.{AllRefusedSteps, HeldStep}
use Rattle.h5w_several_world_laws.proofs.AppendLemmas.{rows_added}
use Rattle.h5w_several_world_laws.proofs.ShownLemmas.{part_is, total_left}
use Rattle.h5w_several_world_laws.proofs.StepLemmas.{match_no, match_yes, none_left, state_at, tells_of}

some_pending : (ws : List Write) → ws ≢ [] → 0 < length ws
some_pending [] some = absurd (some refl)
some_pending (w ∷ ws) some = omega arith

module _ (S : Sessions) (attempts : ℕ) (ps : Places) (F : FileState) (h : HaveOneFileLog S attempts ps F) where
  used_set : (x : SetState) × (slice_get F.sets F.used ≡ Some x)
  used_set = set_there F.sets F.used h.state.polls.used

  count : pending_in F ≡ length (all_pending S.parts)
  count = ap total h.state.left ∙ total_left S.parts

  busy : all_pending S.parts ≢ [] → nat_lt 0 (pending_in F) ≡ true
  busy some = lt-ltb 0 (pending_in F) (let n : 0 < length (all_pending S.parts) = some_pending (all_pending S.parts) some in omega (arith, count, n))

  -- what is answered past a stop and past pieces
  abbrev past_all : List ℤ → Reply
  past_all values =
      elim (first_outside used_set.0.rules.int_type 0 values) as (λ _. Reply) [ Some z ↦ replies.OutOfRange z.0 z.1 | None ↦ fitting_reply used_set.0.rules (used_set.0.state.appended ++ values) ]

  abbrev past_stop : List ℤ → Reply
  past_stop values = cond (nat_lt 0 (pending_in F)) (replies.Busy (pending_in F)) (past_all values)

  append_stopped : (values : List ℤ) → S.stopped ≡ true → StepsTo attempts ps F (asks (adds values)) (says replies.Stopped) S
  append_stopped values stopped =
      let is : append_reply_in F used_set.0 values ≡ replies.Stopped = cond-true F.stopped replies.Stopped (past_stop values) (h.state.stopped ∙ stopped) in
      record { allowed = record { set = used_set.0; used = used_set.1; allowed = inl (ap says (sym is)) }; fits = h }

  append_busy : (values : List ℤ) → S.stopped ≡ false → all_pending S.parts ≢ [] → StepsTo attempts ps F (asks (adds values)) (says (replies.Busy (length (all_pending S.parts)))) S
  append_busy values going some =
      let is : append_reply_in F used_set.0 values ≡ replies.Busy (length (all_pending S.parts)) =
      cond-false F.stopped replies.Stopped (past_stop values) (h.state.stopped ∙ going)
      ∙ cond-true (nat_lt 0 (pending_in F)) (replies.Busy (pending_in F)) (past_all values) (busy some)
      ∙ ap replies.Busy count in
      record { allowed = record { set = used_set.0; used = used_set.1; allowed = inl (ap says (sym is)) }; fits = h }

  -- a dataset in use, where nothing is pending
  module _ (values : List ℤ) (part : Session) (going : S.stopped ≡ false) (none : all_pending S.parts ≡ []) (at : slice_get S.parts F.used ≡ Some part) where
    abbrev rules : Rules
    rules = rules_in S.places.limit attempts part

    abbrev more : ℕ
    more = length values / part.dataset.shape.cols

    rules_are : used_set.0.rules ≡ rules
    rules_are = (state_at S.places.limit attempts 0 S.parts F.sets h.state.states F.used part used_set.0 at used_set.1).1.rules

    abbrev answer_by : Option (ℕ × ℤ) → Reply
    answer_by o = elim o as (λ _. Reply) [ Some z ↦ replies.OutOfRange z.0 z.1 | None ↦ fitting_reply rules (used_set.0.state.appended ++ values) ]

    answered : append_reply_in F used_set.0 values ≡ answer_by (first_outside part.dataset.int_type 0 values)
    answered =
        let s = used_set.0.state in
        let rest : Reply = answer_by (first_outside part.dataset.int_type 0 values) in
        let idle : pending_in F ≡ 0 = ap total h.state.left ∙ none_left S.parts none in
        ap (λ (r : Rules). append_reply r (record s { pending = pending_in F; stopped = F.stopped }) values) rules_are
        ∙ cond-false F.stopped replies.Stopped (cond (nat_lt 0 (pending_in F)) (replies.Busy (pending_in F)) rest) (h.state.stopped ∙ going)
        ∙ cond-false (nat_lt 0 (pending_in F)) (replies.Busy (pending_in F)) rest (ap (nat_lt 0) idle)

    append_outside : (x : ℕ × ℤ) → first_outside part.dataset.int_type 0 values ≡ Some x → StepsTo attempts ps F (asks (adds values)) (says (replies.OutOfRange x.0 x.1)) S
    append_outside x is = record {
      allowed = record { set = used_set.0; used = used_set.1; allowed = inl (ap says (sym (answered ∙ ap answer_by is))) };
      fits = h;
    }

    rows_are : AreRows part values → rows_in rules (used_set.0.state.appended ++ values) ≡ rows_of part + more
    rows_are are =
        let told = tells_of S attempts ps F h.log h.state h.stands F.used used_set.0 used_set.1 in
        let same : told.part ≡ part = part_is told.part part (sym told.part_is ∙ at) in
        let some : 0 < part.dataset.shape.cols = subst (λ (s : Session). 0 < s.dataset.shape.cols) same told.tells.some_columns in
        let all : script_rows rules used_set.0.state ≡ rows_of part = ap (λ (g : Rules). script_rows g used_set.0.state) (sym rules_are) ∙ told.all ∙ ap rows_of same in
        rows_added part.dataset.shape.cols are.0 used_set.0.state.appended values some are.1 ∙ ap (λ (n : ℕ). n + more) all

    append_full : AreRows part values → first_outside part.dataset.int_type 0 values ≡ None → chunk_limit part < chunks_with part more
        → StepsTo attempts ps F (asks (adds values)) (says (replies.FullChunks (chunks_with part more) (chunk_limit part))) S
    append_full are is past =
        let full : answer_by None ≡ replies.FullChunks (chunks_with part more) (chunk_limit part) =
        ap (λ (m : ℕ). cond (nat_lt (chunk_limit part) (needed_chunks rules.cutting m)) (replies.FullChunks (needed_chunks rules.cutting m) (chunk_limit part)) (replies.Appended m 0)) (rows_are are)
        ∙ cond-true (nat_lt (chunk_limit part) (chunks_with part more)) (replies.FullChunks (chunks_with part more) (chunk_limit part)) (replies.Appended (rows_of part + more) 0)
        (lt-ltb (chunk_limit part) (chunks_with part more) past) in
        record {
          allowed = record { set = used_set.0; used = used_set.1; allowed = inl (ap says (sym (answered ∙ ap answer_by is ∙ full))) };
          fits = h;
        }

  flush_stopped : S.stopped ≡ true → StepsTo attempts ps F (asks flushes) (says replies.Stopped) S
  flush_stopped stopped = record { allowed = match_yes _ _ F.stopped (h.state.stopped ∙ stopped) refl; fits = h }

  flush_busy : S.stopped ≡ false → all_pending S.parts ≢ [] → StepsTo attempts ps F (asks flushes) (says (replies.Busy (length (all_pending S.parts)))) S
  flush_busy going some = record {
    allowed = match_no _ _ F.stopped (h.state.stopped ∙ going) (match_yes _ _ (nat_lt 0 (pending_in F)) (busy some) (ap (λ (n : ℕ). says (replies.Busy n)) (sym count)));
    fits = h;
  }

pub all_refused_steps : AllRefusedSteps
all_refused_steps S attempts ps F h = record {
  append_stopped = append_stopped S attempts ps F h;
  append_busy = append_busy S attempts ps F h;
  append_outside = λ values part x going none at is. append_outside S attempts ps F h values part going none at x is;
  append_full = λ values part going none at are is past. append_full S attempts ps F h values part going none at are is past;
  flush_stopped = flush_stopped S attempts ps F h;
  flush_busy = flush_busy S attempts ps F h;
}

-- ---- A flush that was refused

pub held_states : (limit attempts before : ℕ) (ss uu : List Session) (xs : List SetState) → AreSameBut ss uu → AreStatesOf limit attempts before ss xs → AreStatesOf limit attempts before uu xs
held_states limit attempts before [] [] xs x h = h
held_states limit attempts before [] (u ∷ uu) xs x h = absurd x
held_states limit attempts before (s ∷ ss) [] xs x h = absurd x
held_states limit attempts before (s ∷ ss) (u ∷ uu) [] x h = absurd h
held_states limit attempts before (s ∷ ss) (u ∷ uu) (y ∷ ys) x h =
    let same : length s.pending ≡ length u.pending = sym (ap (λ (v : Session). length v.pending) x.0.session) in (
      subst (λ (v : Session). IsStateOfPart limit attempts before v y) (sym x.0.session)
          (record { rules = h.0.rules; pending = h.0.pending; ends_flush = h.0.ends_flush; flushing = h.0.flushing; taken = h.0.taken }),
      subst (λ (n : ℕ). AreStatesOf limit attempts (before + n) uu ys) same (held_states limit attempts (before + length s.pending) ss uu ys x.1 h.1),
    )

pub held_counts : (ss uu : List Session) → AreSameBut ss uu → counts_of ss ≡ counts_of uu
held_counts [] [] x = refl
held_counts [] (u ∷ uu) x = absurd x
held_counts (s ∷ ss) [] x = absurd x
held_counts (s ∷ ss) (u ∷ uu) x =
    let same : length s.pending ≡ length u.pending = sym (ap (λ (v : Session). length v.pending) x.0.session) in
    λ i. same i ∷ held_counts ss uu x.1 i

pub held_part : (ss uu : List Session) → AreSameBut ss uu → (d : ℕ) (u : Session) → slice_get uu d ≡ Some u → (s : Session) × (slice_get ss d ≡ Some s) × (u ≡ record s { index = u.index })
held_part [] [] x d u at = absurd (cc)
held_part [] (v ∷ uu) x d u at = absurd x
held_part (s ∷ ss) [] x d u at = absurd x
held_part (s ∷ ss) (v ∷ uu) x zero u at = (s, refl, subst (λ (q : Session). q ≡ record s { index = q.index }) (part_is v u at) x.0.session)
held_part (s ∷ ss) (v ∷ uu) x (suc d) u at = held_part ss uu x.1 d u at

-- of any session that stands for the log and differs so
abbrev pub held_left : (old new : Sessions) (attempts : ℕ) (ps : Places) (F : FileState) → (h : HaveOneFileLog old attempts ps F) → StandsAll new h.log → SameButHeld old new → HaveOneFileLog new attempts ps F
held_left old new attempts ps F h stands x =
    let limit : new.places.limit ≡ old.places.limit = ap (λ (S : Sessions). S.places.limit) x.session in
    let end : new.places.end ≡ old.places.end = ap (λ (S : Sessions). S.places.end) x.session in
    let still_grown : new.places.end ≤ 1024 * length h.log.sets + F.spent = omega (arith, end, h.state.grown) in
    record {
      log = h.log;
      stands = stands;
      new = h.new;
      state = record {
        states = subst (λ (l : ℕ). AreStatesOf l attempts 0 new.parts F.sets) (sym limit) (held_states old.places.limit attempts 0 old.parts new.parts F.sets x.parts h.state.states);
        left = h.state.left ∙ held_counts old.parts new.parts x.parts;
        stopped = h.state.stopped ∙ sym (ap (λ (S : Sessions). S.stopped) x.session);
        limit = h.state.limit ∙ sym limit;
        pollings = h.state.pollings;
        logs = h.state.logs;
        own = λ d b u is at.
            let p = held_part old.parts new.parts x.parts d u at in
            let own = h.state.own d b p.0 is p.1 in
            (own.0 ∙ sym (ap (polling_in old.places.limit attempts) p.2) ∙ ap (λ (l : ℕ). polling_in l attempts u) (sym limit), own.1);
        polls = h.state.polls;
        grown = still_grown;
      };
    }

abbrev pub held_step : HeldStep
held_step old new attempts ps F h going none x = held_left old new attempts ps F h (calls_stand.refused old new h.log h.stands going none x) x
