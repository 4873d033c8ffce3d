-- Values are appended to one of the datasets.
use Rattle.std.proofs.Common.{◌≡◌, ◌≢◌, ◌⊎◌, ℕ, zero, suc, ◌+◌, ◌/◌, ◌<◌, ◌≤◌, cond, Bool, true, false, List, [], ◌∷◌, ℤ, length, Option, Some, None, Result, Ok, Err, refl, sym, ap, subst, ◌∙◌, inl, inr, arith}
use Rattle.std.specs.Prelude.{nat_lt, slice_get, slice_set}
use Rattle.std.specs.Result.{IfErr, IfOk, OnErr, OnOk}
use Rattle.std.proofs.lemmas.Bool.{ltb-false, ltb-true}
use Rattle.std.proofs.lemmas.List.{nil_from_length}
use Rattle.h5w_model.specs.Lawful.{adds, first_outside}
use Rattle.h5w_model.specs.Several.{FileLog, appends_to}
use Rattle.h5w_model.specs.declared.piece.Write.{Write}
use Rattle.h5w_model.specs.declared.reply.Reply.{Reply}
use Rattle.h5w_model.specs.declared.reply.Reply.TheVariants as replies
use Rattle.h5w_image.specs.Memory.{MemView}
use Rattle.h5w_image.specs.View.{Same}
use Rattle.h5w_steady.specs.Steady.{steady}
use Rattle.h5w_writer.specs.Early.{dirty_of}
use Rattle.h5w_writer.specs.Refusals.{append_refusal}
use Rattle.h5w_writer.specs.Sessions.{AreRows, Session, chunk_limit, chunks_with, rows_of, with_values}
use Rattle.h5w_writer.specs.declared.refusal.AppendError.{AppendError}
use Rattle.h5w_writer.specs.declared.refusal.AppendError.TheVariants as errors
use Rattle.h5w_writer_laws.proofs.PieceLemmas.{some_is}
use Rattle.h5w_several_writer.specs.Refusals.{HasRoomForAll, append_refusal_in}
use Rattle.h5w_several_writer.proofs.EndLemmas.{get_set, part_of, same_part}
use Rattle.h5w_several_writer_laws.specs.Sessions.{AppendsTo, AreSessions, Sessions, all_pending}
use Rattle.h5w_several_writer_laws.specs.Standing.{StandsAll, and_then}
use Rattle.h5w_several_writer_laws.proofs.FlushAllLemmas.{back_nil, front_nil}
use Rattle.h5w_several_script_laws.specs.Scripts.{AllowedAll, FileState, asks, next_all, says}
use Rattle.h5w_several_world_laws.specs.Worlds.{HaveOneFileLog}
use Rattle.h5w_several_world_laws.proofs.AppendLemmas.{append_steps}
use Rattle.h5w_several_world_laws.proofs.RefusalLemmas.{all_refused_steps}
use Rattle.h5w_several_world_laws.proofs.StepLemmas.{part_there}
use Rattle.h5w_core.proofs.AppendLemmas.{IsOwn}
use Rattle.h5w_several_core.specs.Places.{place_at}
use Rattle.h5w_several_core.specs.Worlds.{AreRowsIn, FileSteps, HoldsAll, IsPast, MayWantMemoryIn, SeveralView, logged_in, pollings_of, rules_of}
use Rattle.h5w_several_core.specs.declared.events.FileEvent.TheVariants as events
use Rattle.h5w_several_core.specs.declared.places.Place.{Place}
use Rattle.h5w_several_core.proofs.MachineLemmas.{StepsOn, file_steps, idle_steps, same_hold, same_logs, steps_hold, unchanged, world_of}
use Rattle.h5w_several_core.proofs.FrontLemmas.{front_appended}
use Rattle.h5w_several_core.proofs.RuleLemmas.{count_rules, polls_added, polls_in, rows_here, rules_by}

-- ---- Why a session refuses

-- the first that applies, by whether it was stopped, whether pieces are pending, and what is outside or past a limit
abbrev refusal_by : (a b p q past : Bool) → (n k c l : ℕ) → Option (ℕ × ℤ) → Option AppendError
refusal_by a b p q past n k c l o =
    cond a (Some errors.Stopped)
    (cond b (Some (errors.Busy n))
    (cond p (Some errors.Stopped)
    (cond q (Some (errors.Busy k))
    (elim o as (λ _. Option AppendError) [ Some x ↦ Some (errors.OutOfRange x.0 x.1) | None ↦ cond past (Some (errors.Chunks c l)) None ]))))

abbrev pub Refuses : (a b past : Bool) → (n c l : ℕ) → Option (ℕ × ℤ) → AppendError → Type 0
Refuses a b past n c l o errors.Stopped = a ≡ true
Refuses a b past n c l o (errors.Busy m) = (a ≡ false) × (b ≡ true) × (m ≡ n)
Refuses a b past n c l o (errors.OutOfRange i v) = (a ≡ false) × (b ≡ false) × (o ≡ Some (i, v))
Refuses a b past n c l o (errors.Chunks x y) = (a ≡ false) × (b ≡ false) × (o ≡ None) × (past ≡ true) × (x ≡ c) × (y ≡ l)
Refuses a b past n c l o errors.Failed = ⊥
Refuses a b past n c l o errors.OutOfMemory = ⊥

refuses_by : (a b p q past : Bool) (n k c l : ℕ) (o : Option (ℕ × ℤ)) (e : AppendError) → p ≡ a → (b ≡ false → q ≡ false) → refusal_by a b p q past n k c l o ≡ Some e → Refuses a b past n c l o e
refuses_by true b p q past n k c l o e stopped idle is = subst (λ (x : AppendError). Refuses true b past n c l o x) (some_is errors.Stopped e is) refl
refuses_by false true p q past n k c l o e stopped idle is = subst (λ (x : AppendError). Refuses false true past n c l o x) (some_is (errors.Busy n) e is) (refl, refl, refl)
refuses_by false false true q past n k c l o e stopped idle is = absurd (let clash : true ≡ false = stopped in cc)
refuses_by false false false true past n k c l o e stopped idle is = absurd (let clash : true ≡ false = idle refl in cc)
refuses_by false false false false past n k c l (Some x) e stopped idle is = subst (λ (y : AppendError). Refuses false false past n c l (Some x) y) (some_is (errors.OutOfRange x.0 x.1) e is) (refl, refl, refl)
refuses_by false false false false true n k c l None e stopped idle is = subst (λ (y : AppendError). Refuses false false true n c l None y) (some_is (errors.Chunks c l) e is) (refl, refl, refl, refl, refl, refl)
refuses_by false false false false false n k c l None e stopped idle is = absurd (cc)

accepts_by : (a b p q past : Bool) (n k c l : ℕ) (o : Option (ℕ × ℤ)) → refusal_by a b p q past n k c l o ≡ None → (a ≡ false) × (b ≡ false) × (cond p (Some errors.Stopped) (cond q (Some (errors.Busy k)) (elim o as (λ _. Option AppendError) [ Some x ↦ Some (errors.OutOfRange x.0 x.1) | None ↦ cond past (Some (errors.Chunks c l)) None ])) ≡ None)
accepts_by true b p q past n k c l o is = absurd (cc)
accepts_by false true p q past n k c l o is = absurd (cc)
accepts_by false false p q past n k c l o is = (refl, refl, is)

-- a number that is not above 0
pub none_above : (n : ℕ) → nat_lt 0 n ≡ false → n ≡ 0
none_above n is = let few = ltb-false 0 n is in omega (arith, few)

part_idle : (ss : List Session) (d : ℕ) (s : Session) → slice_get ss d ≡ Some s → all_pending ss ≡ [] → s.pending ≡ []
part_idle [] d s at none = absurd (cc)
part_idle (x ∷ xs) zero s at none = let is : x ≡ s = cc in ap (λ (v : Session). v.pending) (sym is) ∙ front_nil x.pending (all_pending xs) none
part_idle (x ∷ xs) (suc d) s at none = part_idle xs d s at (back_nil x.pending (all_pending xs) none)

module _ (S : Sessions) (d : ℕ) (part : Session) (vs : List ℤ) (there : slice_get S.parts d ≡ Some part) where
  abbrev pub more : ℕ
  more = length vs / part.dataset.shape.cols

  abbrev pub busy : Bool
  busy = nat_lt 0 (length (all_pending S.parts))

  pub none_busy : busy ≡ false → all_pending S.parts ≡ []
  none_busy is = nil_from_length (all_pending S.parts) (none_above (length (all_pending S.parts)) is)

  -- what a refusal of the session says
  abbrev pub IsRefusedBy : AppendError → Type 0
  IsRefusedBy e = Refuses S.stopped busy (nat_lt (chunk_limit part) (chunks_with part more)) (length (all_pending S.parts)) (chunks_with part more) (chunk_limit part) (first_outside part.dataset.int_type 0 vs) e

  pub refused_by : AreSessions S → (e : AppendError) → append_refusal_in S part vs ≡ Some e → IsRefusedBy e
  refused_by are e is =
      refuses_by S.stopped busy part.stopped (nat_lt 0 (length part.pending)) (nat_lt (chunk_limit part) (chunks_with part more)) (length (all_pending S.parts)) (length part.pending) (chunks_with part more) (chunk_limit part)
      (first_outside part.dataset.int_type 0 vs) e (part_of S S.parts d part there are.each).stopped
      (λ idle. ap (λ (ws : List Write). nat_lt 0 (length ws)) (part_idle S.parts d part there (none_busy idle))) is

  -- the session goes on, nothing is pending, and the dataset accepts the values
  pub accepted_by : append_refusal_in S part vs ≡ None → (S.stopped ≡ false) × (all_pending S.parts ≡ []) × (append_refusal part vs ≡ None)
  accepted_by is =
      let a = accepts_by S.stopped busy part.stopped (nat_lt 0 (length part.pending)) (nat_lt (chunk_limit part) (chunks_with part more)) (length (all_pending S.parts)) (length part.pending) (chunks_with part more) (chunk_limit part)
      (first_outside part.dataset.int_type 0 vs) is in
      (a.0, none_busy a.1, a.2)

-- ---- What the session's append tells

pub record AppendTells (S T : Sessions) (d : ℕ) (vs : List ℤ) (r : Result ℕ AppendError) : Type 0 where
  pub added : OnOk r (AppendsTo d vs S T)
  pub rows : IfOk r (λ rows. (s : Session) → slice_get T.parts d ≡ Some s → rows ≡ rows_of s)
  pub stands : OnOk r ((log : FileLog) → StandsAll S log → StandsAll T (and_then (appends_to d vs) log))
  pub within : OnOk r ((s : Session) → slice_get T.parts d ≡ Some s → dirty_of s ≤ s.budget)
  pub refused : (s : Session) (e : AppendError) → slice_get S.parts d ≡ Some s → append_refusal_in S s vs ≡ Some e → r ≡ Err e
  pub causes : (s : Session) → slice_get S.parts d ≡ Some s → IfErr r (λ e. (append_refusal_in S s vs ≡ Some e) ⊎ (e ≡ errors.Failed) ⊎ (e ≡ errors.OutOfMemory))
  pub kept : OnErr r (T ≡ S)

-- a call that succeeded was not refused
not_refused : {T : Type 0} (o : Option AppendError) (r : Result T AppendError) (x : T) → r ≡ Ok x → ((e : AppendError) → o ≡ Some e → r ≡ Err e) → o ≡ None
not_refused None r x ok refused = refl
not_refused (Some e) r x ok refused = absurd (let clash = sym ok ∙ refused e refl in cc)

module _ (S T : Sessions) (m n : MemView) (attempts : ℕ) (ps : List Place) (d : ℕ) (vs : List ℤ) (are : AreRowsIn (rules_by S.places.limit attempts S.parts) d vs) (same : Same (steady m) (steady n)) where
  abbrev old : SeveralView
  old = world_of S m attempts ps

  abbrev new : SeveralView
  new = world_of T n attempts ps

  pub inside : d < length S.parts
  inside = let few = are.inside in omega (arith, few, count_rules S.places.limit attempts S.parts)

  -- ---- The values wait

  module _ (rows : ℕ) (tells : AppendTells S T d vs (Ok rows)) where
    abbrev x : AppendsTo d vs S T
    x = tells.added

    abbrev part : Session
    part = x.part

    abbrev after : Session
    after = with_values part vs

    parts_are : T.parts ≡ slice_set S.parts d after
    parts_are = ap (λ (U : Sessions). U.parts) x.session

    refusal : append_refusal_in S part vs ≡ None
    refusal = not_refused (append_refusal_in S part vs) (Ok rows) rows refl (λ e is. tells.refused part e x.is is)

    accepted : (S.stopped ≡ false) × (all_pending S.parts ≡ []) × (append_refusal part vs ≡ None)
    accepted = accepted_by S d part vs x.is refusal

    now_there : slice_get T.parts d ≡ Some after
    now_there = ap (λ (ss : List Session). slice_get ss d) parts_are ∙ get_set S.parts d after inside

    rows_are : rows ≡ rows_of part + length vs / part.dataset.shape.cols
    rows_are = let all : rows ≡ rows_of after = tells.rows after now_there in omega (arith, all)

    pub added_polls : pollings_of new ≡ pollings_of old
    added_polls =
        ap (λ (U : Sessions). polls_in U.places.limit attempts U.parts) x.session ∙ polls_added S.places.limit attempts S.parts d part vs x.is

    added_on : (F : FileState) (h : HaveOneFileLog S attempts (place_at ps) F) → F.used ≡ d → StepsOn attempts (place_at ps) F (asks (adds vs)) (says (replies.Appended rows 0)) T (and_then (appends_to d vs) h.log)
    added_on F h used =
        let y : AppendsTo F.used vs S T = record {
          part = part;
          is = subst (λ (k : ℕ). slice_get S.parts k ≡ Some part) (sym used) x.is;
          session = x.session ∙ ap (λ (k : ℕ). record S { parts = slice_set S.parts k after }) (sym used);
        } in
        let rows_in : AreRows part vs = rows_here S.places.limit attempts S.parts d vs part are x.is in
        let s = append_steps S T attempts (place_at ps) F vs h accepted.0 accepted.1 y rows_in accepted.2 in
        subst (λ (k : ℕ). StepsOn attempts (place_at ps) F (asks (adds vs)) (says (replies.Appended k 0)) T (and_then (appends_to d vs) h.log)) (sym rows_are)
        (record { allowed = s.allowed; fits = s.fits; log_is = ap (λ (k : ℕ). and_then (appends_to k vs) h.log) used })

    pub append_done : FileSteps old (events.Append d vs) (says (replies.Appended rows 0)) new
    append_done =
        file_steps S T m n attempts ps ps (events.Append d vs) (says (replies.Appended rows 0)) added_polls (λ log stood. same_logs S T m n attempts ps ps log (and_then (appends_to d vs) log) same (tells.stands log) refl refl refl stood)
        (λ F h file used. added_on F h used)

    pub append_hold : HoldsAll S m attempts ps → HasRoomForAll T (steady n) → HoldsAll T n attempts ps
    append_hold h room =
        steps_hold S T m n attempts ps ps (events.Append d vs) (says (replies.Appended rows 0)) h inside append_done room (ap (λ (U : Sessions). U.places.limit) x.session)
        (front_appended S T m.bytes n.bytes (some_is n.bytes m.bytes same.bytes) h.front d vs x) h.count

    -- no more bytes wait than the budget has
    pub append_within : IsPast old d vs → ⊥
    append_within p =
        let one : part ≡ p.part = same_part S.parts d part p.part x.is p.there in
        let few : dirty_of after ≤ part.budget = tells.within after now_there in
        let many : part.budget < dirty_of after = subst (λ (s : Session). s.budget < dirty_of (with_values s vs)) (sym one) p.past in
        omega (arith, few, many)

  -- ---- The session refuses

  module _ (kept : T ≡ S) (sessions : AreSessions S) where
    pub own_part : (s : Session) × (slice_get S.parts d ≡ Some s)
    own_part = part_there S.parts d inside

    refused_all : (reply : Reply) → ((log : FileLog) → logged_in old (events.Append d vs) (says reply) log ≡ log) → ((F : FileState) → next_all F (asks (adds vs)) (says reply) ≡ F)
        → ((F : FileState) → HaveOneFileLog S attempts (place_at ps) F → F.used ≡ d → AllowedAll F (asks (adds vs)) (says reply)) → FileSteps old (events.Append d vs) (says reply) new
    refused_all reply logs next allowed =
        subst (λ (w : SeveralView). FileSteps old (events.Append d vs) (says reply) w) (sym (unchanged S T m n attempts ps same kept))
        (idle_steps old (events.Append d vs) (says reply) logs next (λ F h used. allowed F h.have used))

    -- this dataset is in use
    in_use : (F : FileState) → F.used ≡ d → slice_get S.parts F.used ≡ Some own_part.0
    in_use F used = ap (slice_get S.parts) used ∙ own_part.1

    pub append_stopped : append_refusal_in S own_part.0 vs ≡ Some errors.Stopped → FileSteps old (events.Append d vs) (says replies.Stopped) new
    append_stopped is =
        let why = refused_by S d own_part.0 vs own_part.1 sessions errors.Stopped is in
        refused_all replies.Stopped (λ log. refl) (λ F. refl) (λ F h used. ((all_refused_steps S attempts (place_at ps) F h).append_stopped vs why).allowed)

    pub append_busy : (k : ℕ) → append_refusal_in S own_part.0 vs ≡ Some (errors.Busy k) → FileSteps old (events.Append d vs) (says (replies.Busy k)) new
    append_busy k is =
        let why = refused_by S d own_part.0 vs own_part.1 sessions (errors.Busy k) is in
        let some : all_pending S.parts ≢ [] = λ none. let clash : true ≡ false = sym why.1 ∙ ap (λ (ws : List Write). nat_lt 0 (length ws)) none in cc in
        subst (λ (c : ℕ). FileSteps old (events.Append d vs) (says (replies.Busy c)) new) (sym why.2)
        (refused_all (replies.Busy (length (all_pending S.parts))) (λ log. refl) (λ F. refl) (λ F h used. ((all_refused_steps S attempts (place_at ps) F h).append_busy vs why.0 some).allowed))

    pub append_outside : (i : ℕ) (v : ℤ) → append_refusal_in S own_part.0 vs ≡ Some (errors.OutOfRange i v) → FileSteps old (events.Append d vs) (says (replies.OutOfRange i v)) new
    append_outside i v is =
        let why = refused_by S d own_part.0 vs own_part.1 sessions (errors.OutOfRange i v) is in
        let none = none_busy S d own_part.0 vs own_part.1 why.1 in
        refused_all (replies.OutOfRange i v) (λ log. refl) (λ F. refl)
        (λ F h used. ((all_refused_steps S attempts (place_at ps) F h).append_outside vs own_part.0 (i, v) why.0 none (in_use F used) why.2).allowed)

    pub append_full : (c l : ℕ) → append_refusal_in S own_part.0 vs ≡ Some (errors.Chunks c l) → FileSteps old (events.Append d vs) (says (replies.FullChunks c l)) new
    append_full c l is =
        let part = own_part.0 in
        let why = refused_by S d part vs own_part.1 sessions (errors.Chunks c l) is in
        let none = none_busy S d part vs own_part.1 why.1 in
        let rows_in : AreRows part vs = rows_here S.places.limit attempts S.parts d vs part are own_part.1 in
        let all = length vs / part.dataset.shape.cols in
        let past : chunk_limit part < chunks_with part all = ltb-true (chunk_limit part) (chunks_with part all) why.3 in
        subst (λ (k : ℕ). FileSteps old (events.Append d vs) (says (replies.FullChunks k l)) new) (sym why.4)
        (subst (λ (k : ℕ). FileSteps old (events.Append d vs) (says (replies.FullChunks (chunks_with part all) k)) new) (sym why.5)
        (refused_all (replies.FullChunks (chunks_with part all) (chunk_limit part)) (λ log. refl) (λ F. refl)
        (λ F h used. ((all_refused_steps S attempts (place_at ps) F h).append_full vs part why.0 none (in_use F used) rows_in why.2 past).allowed)))

-- ---- By the call's result

own_cause : (o : Option AppendError) (e f : AppendError) → (o ≡ Some e) ⊎ (e ≡ errors.Failed) ⊎ (e ≡ errors.OutOfMemory) → e ≡ f → IsOwn f → o ≡ Some f
own_cause o e f (inl refusal) is own = refusal ∙ ap Some is
own_cause o e f (inr (inl failed)) is own = absurd (subst IsOwn (sym is ∙ failed) own)
own_cause o e f (inr (inr memory)) is own = absurd (subst IsOwn (sym is ∙ memory) own)

pub why_refused : (S T : Sessions) (d : ℕ) (vs : List ℤ) (s : Session) (e f : AppendError) → AppendTells S T d vs (Err e) → slice_get S.parts d ≡ Some s → e ≡ f → IsOwn f → append_refusal_in S s vs ≡ Some f
why_refused S T d vs s e f tells there is own = own_cause (append_refusal_in S s vs) e f (tells.causes s there) is own

-- want of memory is no refusal
pub unrefused : (o : Option AppendError) (r : Result ℕ AppendError) (e : AppendError) → r ≡ Err e → e ≡ errors.OutOfMemory → ((f : AppendError) → o ≡ Some f → r ≡ Err f) → (o ≡ Some errors.OutOfMemory → ⊥) → o ≡ None
unrefused None r e err is refused never = refl
unrefused (Some f) r e err is refused never =
    let same : e ≡ f = let both = sym err ∙ refused f refl in cc in
    absurd (never (ap Some (sym same ∙ is)))

-- ---- By the value of the machine

module _ (S : Sessions) (m : MemView) (attempts : ℕ) (ps : List Place) (w : SeveralView) (d : ℕ) (vs : List ℤ) (view : world_of S m attempts ps ≡ w) (are : AreRowsIn (rules_of w) d vs) where
  pub rows_are_in : AreRowsIn (rules_by S.places.limit attempts S.parts) d vs
  rows_are_in = subst (λ (x : SeveralView). AreRowsIn (rules_of x) d vs) (sym view) are

  pub rows_inside : d < length S.parts
  rows_inside = let few = rows_are_in.inside in omega (arith, few, count_rules S.places.limit attempts S.parts)

  pub rows_all : (s : Session) → slice_get S.parts d ≡ Some s → AreRows s vs
  rows_all s at = rows_here S.places.limit attempts S.parts d vs s rows_are_in at

  module _ (T : Sessions) (n : MemView) (same : Same (steady m) (steady n)) where
    abbrev then : SeveralView
    then = world_of T n attempts ps

    -- the values wait
    pub added_steps : (rows : ℕ) → AppendTells S T d vs (Ok rows) → FileSteps w (events.Append d vs) (says (replies.Appended rows 0)) then
    added_steps rows tells = subst (λ (x : SeveralView). FileSteps x (events.Append d vs) (says (replies.Appended rows 0)) then) view (append_done S T m n attempts ps d vs rows_are_in same rows tells)

    -- the session refuses, by one of its own causes
    module _ (e : AppendError) (tells : AppendTells S T d vs (Err e)) (sessions : AreSessions T) where
      kept_sessions : AreSessions S
      kept_sessions = subst AreSessions tells.kept sessions

      abbrev own_one : (s : Session) × (slice_get S.parts d ≡ Some s)
      own_one = own_part S T m n attempts ps d vs rows_are_in same tells.kept kept_sessions

      cause : (f : AppendError) → e ≡ f → IsOwn f → append_refusal_in S own_one.0 vs ≡ Some f
      cause f is own = why_refused S T d vs own_one.0 e f tells own_one.1 is own

      by_view : (reply : Reply) → FileSteps (world_of S m attempts ps) (events.Append d vs) (says reply) then → FileSteps w (events.Append d vs) (says reply) then
      by_view reply steps = subst (λ (x : SeveralView). FileSteps x (events.Append d vs) (says reply) then) view steps

      pub refused_stopped : e ≡ errors.Stopped → FileSteps w (events.Append d vs) (says replies.Stopped) then
      refused_stopped is = by_view replies.Stopped (append_stopped S T m n attempts ps d vs rows_are_in same tells.kept kept_sessions (cause errors.Stopped is tt))

      pub refused_busy : (k : ℕ) → e ≡ errors.Busy k → FileSteps w (events.Append d vs) (says (replies.Busy k)) then
      refused_busy k is = by_view (replies.Busy k) (append_busy S T m n attempts ps d vs rows_are_in same tells.kept kept_sessions k (cause (errors.Busy k) is tt))

      pub refused_outside : (i : ℕ) (v : ℤ) → e ≡ errors.OutOfRange i v → FileSteps w (events.Append d vs) (says (replies.OutOfRange i v)) then
      refused_outside i v is = by_view (replies.OutOfRange i v) (append_outside S T m n attempts ps d vs rows_are_in same tells.kept kept_sessions i v (cause (errors.OutOfRange i v) is tt))

      pub refused_full : (c l : ℕ) → e ≡ errors.Chunks c l → FileSteps w (events.Append d vs) (says (replies.FullChunks c l)) then
      refused_full c l is = by_view (replies.FullChunks c l) (append_full S T m n attempts ps d vs rows_are_in same tells.kept kept_sessions c l (cause (errors.Chunks c l) is tt))

      -- a refusal of its own is none of an append past the budget
      pub never_past : (f : AppendError) → e ≡ f → IsOwn f → IsPast w d vs → ⊥
      never_past f is own p =
          let there : slice_get S.parts d ≡ Some p.part = ap (λ (x : SeveralView). slice_get x.session.parts d) view ∙ p.there in
          let none : append_refusal_in S p.part vs ≡ None = ap (λ (x : SeveralView). append_refusal_in x.session p.part vs) view ∙ p.accepted in
          let why : append_refusal_in S p.part vs ≡ Some f = why_refused S T d vs p.part e f tells there is own in
          let clash : None ≡ Some f = sym none ∙ why in
          cc

      -- what wants memory was not refused
      pub wants_memory : e ≡ errors.OutOfMemory → MayWantMemoryIn w (events.Append d vs)
      wants_memory is =
          subst (λ (x : SeveralView). MayWantMemoryIn x (events.Append d vs)) view
          (λ s there. unrefused (append_refusal_in S s vs) (Err e) e refl is (λ f why. tells.refused s f there why) (λ why. refused_by S d s vs there kept_sessions errors.OutOfMemory why))

    -- what is added stays within the budget
    pub added_within : (rows : ℕ) → AppendTells S T d vs (Ok rows) → IsPast w d vs → ⊥
    added_within rows tells p = append_within S T m n attempts ps d vs rows_are_in same rows tells (subst (λ (x : SeveralView). IsPast x d vs) (sym view) p)

    pub all_polls : (r : Result ℕ AppendError) → AppendTells S T d vs r → pollings_of then ≡ pollings_of w
    all_polls (Ok rows) tells = added_polls S T m n attempts ps d vs rows_are_in same rows tells ∙ ap pollings_of view
    all_polls (Err e) tells = ap (λ (U : Sessions). polls_in U.places.limit attempts U.parts) tells.kept ∙ ap pollings_of view

    pub all_hold : (r : Result ℕ AppendError) → AppendTells S T d vs r → HoldsAll S m attempts ps → OnOk r (HasRoomForAll T (steady n)) → HoldsAll T n attempts ps
    all_hold (Ok rows) tells h room = append_hold S T m n attempts ps d vs rows_are_in same rows tells h room
    all_hold (Err e) tells h room = same_hold S T m n attempts ps h same tells.kept

    pub all_kept : T ≡ S → then ≡ w
    all_kept kept = unchanged S T m n attempts ps same kept ∙ view
