-- The rows of all datasets are flushed.
use Rattle.std.proofs.Common.{◌≡◌, ◌≢◌, ◌⊎◌, ℕ, ◌≤◌, ◌^◌, cond, Bool, true, false, List, [], length, Option, Some, None, Result, Ok, Err, refl, sym, ap, subst, ◌∙◌, inl, inr}
use Rattle.std.specs.Prelude.{nat_lt}
use Rattle.std.specs.Result.{IfErr, IfOk, OnErr, OnOk}
use Rattle.std.proofs.lemmas.List.{nil_from_length}
use Rattle.h5w_model.specs.Lawful.{flushes}
use Rattle.h5w_model.specs.Several.{FileLog, plans_each}
use Rattle.h5w_model.specs.declared.memory.OutOfMemory.{OutOfMemory}
use Rattle.h5w_model.specs.declared.piece.Write.{Write}
use Rattle.h5w_model.specs.declared.reply.Reply.{Reply}
use Rattle.h5w_model.specs.declared.reply.Reply.TheVariants as replies
use Rattle.h5w_image.specs.Memory.{MemView}
use Rattle.h5w_image.specs.View.{Same}
use Rattle.h5w_steady.specs.Steady.{steady}
use Rattle.h5w_space.specs.declared.Full.{Full}
use Rattle.h5w_writer.specs.Refusals.{IsSpace}
use Rattle.h5w_writer.specs.declared.refusal.FlushError.{FlushError}
use Rattle.h5w_writer.specs.declared.refusal.FlushError.TheVariants as errors
use Rattle.h5w_writer_laws.proofs.PieceLemmas.{some_is}
use Rattle.h5w_several_writer.specs.Refusals.{HasRoomForAll, IsFullAmong, NoPlaceAll, flush_refusal_of}
use Rattle.h5w_several_writer.proofs.PartLemmas.{pending_same}
use Rattle.h5w_several_writer_laws.specs.Sessions.{FlushesAll, SameButHeld, Sessions, all_pending, counts_of}
use Rattle.h5w_several_writer_laws.specs.Standing.{StandsAll, and_then}
use Rattle.h5w_several_script_laws.specs.Scripts.{FileState, asks, flushing_each, says}
use Rattle.h5w_several_world_laws.specs.Worlds.{HaveOneFileLog}
use Rattle.h5w_several_world_laws.proofs.FlushLemmas.{flush_limit, flush_steps}
use Rattle.h5w_several_world_laws.proofs.FullLemmas.{full_step}
use Rattle.h5w_several_world_laws.proofs.RefusalLemmas.{all_refused_steps, held_left}
use Rattle.h5w_core.specs.Worlds.{full_reply}
use Rattle.h5w_several_core.specs.Places.{place_at}
use Rattle.h5w_several_core.specs.Worlds.{FileSteps, HoldsAll, HoldsMoreIn, SeveralView, StandsForFile, logged_in, pollings_of}
use Rattle.h5w_several_core.specs.declared.events.FileEvent.TheVariants as events
use Rattle.h5w_several_core.specs.declared.events.FileReply.{FileReply}
use Rattle.h5w_several_core.specs.declared.events.FileReply.TheVariants.{Says}
use Rattle.h5w_several_core.specs.declared.places.Place.{Place}
use Rattle.h5w_several_core.proofs.AppendLemmas.{none_above}
use Rattle.h5w_several_core.proofs.FrontLemmas.{front_flushed, front_held}
use Rattle.h5w_several_core.proofs.MachineLemmas.{StepsOn, file_steps, replaced, same_logs, same_room, steps_hold, world_of}
use Rattle.h5w_several_core.proofs.RuleLemmas.{polls_flushed, polls_held, polls_in}

-- ---- Why a session refuses

abbrev refusal_by : (a b : Bool) → ℕ → Option FlushError
refusal_by a b n = cond a (Some errors.Stopped) (cond b (Some (errors.Busy n)) None)

abbrev pub Refuses : (a b : Bool) → ℕ → FlushError → Type 0
Refuses a b n errors.Stopped = a ≡ true
Refuses a b n (errors.Busy m) = (a ≡ false) × (b ≡ true) × (m ≡ n)
Refuses a b n (errors.Space full) = ⊥
Refuses a b n errors.Deep = ⊥
Refuses a b n errors.Failed = ⊥
Refuses a b n errors.OutOfMemory = ⊥

-- want of memory, and an index without room
abbrev pub IsOther : FlushError → Type 0
IsOther errors.Deep = Unit {0}
IsOther errors.OutOfMemory = Unit {0}
IsOther e = ⊥

never_other : (e : FlushError) (a b : Bool) (n : ℕ) → IsOther e → Refuses a b n e → ⊥
never_other errors.Stopped a b n other why = other
never_other (errors.Busy m) a b n other why = other
never_other (errors.Space full) a b n other why = other
never_other errors.Deep a b n other why = why
never_other errors.Failed a b n other why = why
never_other errors.OutOfMemory a b n other why = why

refuses_by : (a b : Bool) (n : ℕ) (e : FlushError) → refusal_by a b n ≡ Some e → Refuses a b n e
refuses_by true b n e is = subst (λ (x : FlushError). Refuses true b n x) (some_is errors.Stopped e is) refl
refuses_by false true n e is = subst (λ (x : FlushError). Refuses false true n x) (some_is (errors.Busy n) e is) (refl, refl, refl)
refuses_by false false n e is = absurd (cc)

accepts_by : (a b : Bool) (n : ℕ) → refusal_by a b n ≡ None → (a ≡ false) × (b ≡ false)
accepts_by true b n is = absurd (cc)
accepts_by false true n is = absurd (cc)
accepts_by false false n is = (refl, refl)

module _ (S : Sessions) where
  pub refused_by : (e : FlushError) → flush_refusal_of S ≡ Some e → Refuses S.stopped (nat_lt 0 (length (all_pending S.parts))) (length (all_pending S.parts)) e
  refused_by e is = refuses_by S.stopped (nat_lt 0 (length (all_pending S.parts))) (length (all_pending S.parts)) e is

  -- the session goes on, and nothing is pending
  pub accepted_by : flush_refusal_of S ≡ None → (S.stopped ≡ false) × (all_pending S.parts ≡ [])
  accepted_by is =
      let a = accepts_by S.stopped (nat_lt 0 (length (all_pending S.parts))) (length (all_pending S.parts)) is in
      (a.0, nil_from_length (all_pending S.parts) (none_above (length (all_pending S.parts)) a.1))

-- whose answer is not one of these refusals was not refused
unrefused : {T : Type 0} (S : Sessions) (r : Result T FlushError) → ((e : FlushError) → r ≡ Err e → flush_refusal_of S ≡ Some e → ⊥) → ((e : FlushError) → flush_refusal_of S ≡ Some e → r ≡ Err e) → (o : Option FlushError) → flush_refusal_of S ≡ o → o ≡ None
unrefused S r never refused None is = refl
unrefused S r never refused (Some e) is = absurd (never e (refused e is) is)

abbrev pub Causes : Sessions → FlushError → Type 0
Causes S e = (flush_refusal_of S ≡ Some e) ⊎ (IsSpace e ⊎ ((e ≡ errors.Deep) ⊎ ((e ≡ errors.Failed) ⊎ (e ≡ errors.OutOfMemory))))

pub stopped_cause : (S : Sessions) (e : FlushError) → Causes S e → e ≡ errors.Stopped → flush_refusal_of S ≡ Some errors.Stopped
stopped_cause S e (inl why) is = why ∙ ap Some is
stopped_cause S e (inr (inl space)) is = absurd (let clash = sym is ∙ space.1 in cc)
stopped_cause S e (inr (inr (inl deep))) is = absurd (let clash = sym is ∙ deep in cc)
stopped_cause S e (inr (inr (inr (inl failed)))) is = absurd (let clash = sym is ∙ failed in cc)
stopped_cause S e (inr (inr (inr (inr memory)))) is = absurd (let clash = sym is ∙ memory in cc)

pub busy_cause : (S : Sessions) (e : FlushError) (k : ℕ) → Causes S e → e ≡ errors.Busy k → flush_refusal_of S ≡ Some (errors.Busy k)
busy_cause S e k (inl why) is = why ∙ ap Some is
busy_cause S e k (inr (inl space)) is = absurd (let clash = sym is ∙ space.1 in cc)
busy_cause S e k (inr (inr (inl deep))) is = absurd (let clash = sym is ∙ deep in cc)
busy_cause S e k (inr (inr (inr (inl failed)))) is = absurd (let clash = sym is ∙ failed in cc)
busy_cause S e k (inr (inr (inr (inr memory)))) is = absurd (let clash = sym is ∙ memory in cc)

-- ---- What the session's flush tells

pub record FlushTells (S T : Sessions) (r : Result (List ℕ) FlushError) : Type 0 where
  pub flushed : OnOk r (FlushesAll S T)
  pub counts : IfOk r (λ counts. counts ≡ counts_of T.parts)
  pub stands : IfOk r (λ counts. (log : FileLog) → StandsAll S log → StandsAll T (and_then (plans_each counts) log))
  pub left : OnErr r ((log : FileLog) → StandsAll S log → StandsAll T log)
  pub refused : (e : FlushError) → flush_refusal_of S ≡ Some e → r ≡ Err e
  pub causes : IfErr r (λ e. Causes S e)
  pub kept : OnErr r (SameButHeld S T)

-- a flush that was planned was not refused
pub planned_free : (S T : Sessions) (counts : List ℕ) → FlushTells S T (Ok counts) → flush_refusal_of S ≡ None
planned_free S T counts tells =
    unrefused S (Ok counts) (λ e err why. let clash : Ok counts ≡ Err e = err in cc) tells.refused (flush_refusal_of S) refl

-- nor was one that ends in one of the other errors
pub other_free : (S T : Sessions) (e : FlushError) → FlushTells S T (Err e) → ((a b : Bool) (n : ℕ) → Refuses a b n e → ⊥) → flush_refusal_of S ≡ None
other_free S T e tells never =
    unrefused S (Err e)
    (λ f err why.
    let same : e ≡ f = let both = err in cc in
    never S.stopped (nat_lt 0 (length (all_pending S.parts))) (length (all_pending S.parts)) (refused_by S e (why ∙ ap Some (sym same)))) tells.refused (flush_refusal_of S) refl

module _ (S T : Sessions) (m n : MemView) (attempts : ℕ) (ps : List Place) (same : Same (steady m) (steady n)) where
  abbrev old : SeveralView
  old = world_of S m attempts ps

  abbrev new : SeveralView
  new = world_of T n attempts ps

  -- ---- Pieces are planned

  module _ (counts : List ℕ) (tells : FlushTells S T (Ok counts)) where
    going : (S.stopped ≡ false) × (all_pending S.parts ≡ [])
    going = accepted_by S (planned_free S T counts tells)

    abbrev f : FlushesAll S T
    f = tells.flushed

    limit_is : T.places.limit ≡ S.places.limit
    limit_is = flush_limit S.root T.root S.places T.places S.parts T.parts f.parts

    pub flush_polls : pollings_of new ≡ pollings_of old
    flush_polls =
        ap (λ (l : ℕ). polls_in l attempts T.parts) limit_is ∙ polls_flushed S.places.limit attempts S.root T.root S.places T.places S.parts T.parts f.parts

    planned_on : (F : FileState) (h : HaveOneFileLog S attempts (place_at ps) F) → StepsOn attempts (place_at ps) F (asks flushes) (flushing_each counts) T (and_then (plans_each counts) h.log)
    planned_on F h =
        let s = flush_steps S attempts (place_at ps) F h going.0 going.1 T f in
        subst (λ (ns : List ℕ). StepsOn attempts (place_at ps) F (asks flushes) (flushing_each ns) T (and_then (plans_each ns) h.log)) (sym tells.counts)
        (record { allowed = s.allowed; fits = s.fits; log_is = refl })

    pub flush_done : FileSteps old events.Flush (flushing_each counts) new
    flush_done =
        file_steps S T m n attempts ps ps events.Flush (flushing_each counts) flush_polls (λ log stood. same_logs S T m n attempts ps ps log (and_then (plans_each counts) log) same (tells.stands log) refl refl refl stood)
        (λ F h file used. planned_on F h)

    pub flush_hold : HoldsAll S m attempts ps → HasRoomForAll T (steady n) → HoldsAll T n attempts ps
    flush_hold h room =
        steps_hold S T m n attempts ps ps events.Flush (flushing_each counts) h tt flush_done room limit_is
        (front_flushed S T m.bytes n.bytes (some_is n.bytes m.bytes same.bytes) h.front h.fits.have.log h.fits.have.stands going.0 going.1 f) h.count

  -- ---- The session refuses

  module _ (x : SameButHeld S T) (left : (log : FileLog) → StandsAll S log → StandsAll T log) where
    pub held_polls : pollings_of new ≡ pollings_of old
    held_polls =
        ap (λ (U : Sessions). polls_in U.places.limit attempts T.parts) x.session ∙ polls_held S.places.limit attempts S.parts T.parts x.parts

    held_done : (reply : Reply) → ((log : FileLog) → logged_in old events.Flush (says reply) log ≡ log) → ((F : FileState) (h : HaveOneFileLog S attempts (place_at ps) F) → StepsOn attempts (place_at ps) F (asks flushes) (says reply) T h.log)
        → FileSteps old events.Flush (says reply) new
    held_done reply logs steps =
        file_steps S T m n attempts ps ps events.Flush (says reply) held_polls
        (λ log stood. subst (λ (l : FileLog). StandsForFile new l) (sym (logs log)) (same_logs S T m n attempts ps ps log log same (left log) refl refl refl stood))
        (λ F h file used. subst (λ (l : FileLog). StepsOn attempts (place_at ps) F (asks flushes) (says reply) T l) (sym (logs h.log)) (steps F h))

    pub flush_stopped : flush_refusal_of S ≡ Some errors.Stopped → FileSteps old events.Flush (says replies.Stopped) new
    flush_stopped is =
        let why = refused_by S errors.Stopped is in
        held_done replies.Stopped (λ log. refl)
        (λ F h. record {
          allowed = ((all_refused_steps S attempts (place_at ps) F h).flush_stopped why).allowed;
          fits = held_left S T attempts (place_at ps) F h (left h.log h.stands) x;
          log_is = refl;
        })

    pub flush_busy : (k : ℕ) → flush_refusal_of S ≡ Some (errors.Busy k) → FileSteps old events.Flush (says (replies.Busy k)) new
    flush_busy k is =
        let why = refused_by S (errors.Busy k) is in
        let some : all_pending S.parts ≢ [] = λ none. let clash : true ≡ false = sym why.1 ∙ ap (λ (ws : List Write). nat_lt 0 (length ws)) none in cc in
        subst (λ (c : ℕ). FileSteps old events.Flush (says (replies.Busy c)) new) (sym why.2)
        (held_done (replies.Busy (length (all_pending S.parts))) (λ log. refl)
        (λ F h. record {
          allowed = ((all_refused_steps S attempts (place_at ps) F h).flush_busy why.0 some).allowed;
          fits = held_left S T attempts (place_at ps) F h (left h.log h.stands) x;
          log_is = refl;
        }))

    pub flush_full : (full : Full) → flush_refusal_of S ≡ None → ((log : FileLog) → StandsAll S log → NoPlaceAll S log full) → FileSteps old events.Flush (says (replies.FullSpace full.at full.size full.limit)) new
    flush_full full free lacks =
        let going = accepted_by S free in
        held_done (replies.FullSpace full.at full.size full.limit) (λ log. refl)
        (λ F h. record {
          allowed = (full_step S T attempts (place_at ps) F full h going.0 going.1 (lacks h.log h.stands) x).allowed;
          fits = held_left S T attempts (place_at ps) F h (left h.log h.stands) x;
          log_is = refl;
        })

    pub held_hold : HoldsAll S m attempts ps → HoldsAll T n attempts ps
    held_hold h =
        let others = x.session in
        let pieces : length (all_pending T.parts) ≡ length (all_pending S.parts) = ap (λ (ws : List Write). length ws) (pending_same S.parts T.parts x.parts) in
        let st : StandsForFile new h.fits.have.log = same_logs S T m n attempts ps ps h.fits.have.log h.fits.have.log same (left h.fits.have.log) refl refl refl h.fits.file in
        record {
          room = same_room S T m n same pieces (ap (λ (U : Sessions). U.places.end) others) h.room;
          count = h.count;
          tries = h.tries;
          limit = subst (λ (l : ℕ). l ≤ 2 ^ 40) (sym (ap (λ (U : Sessions). U.places.limit) others)) h.limit;
          front = front_held S T m.bytes n.bytes (some_is n.bytes m.bytes same.bytes) h.front x;
          script = h.script;
          fits = record {
            have = held_left S T attempts (place_at ps) h.script h.fits.have (left h.fits.have.log h.fits.have.stands) x;
            file = st;
          };
        }

    pub holds_more : HoldsMoreIn old new
    holds_more = record { session = x; others = replaced T m n attempts ps same }

-- ---- By the value of the machine

abbrev err_of : FlushError → Result (List ℕ) FlushError
err_of e = Err e

abbrev pub ok_of : FileReply → Result FileReply OutOfMemory
ok_of r = Ok r

-- one reply tells of one place
same_place : (f g : Full) → ok_of (Says (full_reply f)) ≡ ok_of (Says (full_reply g)) → f ≡ g
same_place f g is =
    let at : f.at ≡ g.at = cc in
    let size : f.size ≡ g.size = cc in
    let limit : f.limit ≡ g.limit = cc in
    λ i. record { at = at i; size = size i; limit = limit i }

module _ (S : Sessions) (m : MemView) (attempts : ℕ) (ps : List Place) (w : SeveralView) (view : world_of S m attempts ps ≡ w) (T : Sessions) (n : MemView) (same : Same (steady m) (steady n)) where
  abbrev then : SeveralView
  then = world_of T n attempts ps

  pub planned_steps : (counts : List ℕ) → FlushTells S T (Ok counts) → FileSteps w events.Flush (flushing_each counts) then
  planned_steps counts tells = subst (λ (x : SeveralView). FileSteps x events.Flush (flushing_each counts) then) view (flush_done S T m n attempts ps same counts tells)

  module _ (e : FlushError) (tells : FlushTells S T (Err e)) where
    by_view : (reply : Reply) → FileSteps (world_of S m attempts ps) events.Flush (says reply) then → FileSteps w events.Flush (says reply) then
    by_view reply steps = subst (λ (x : SeveralView). FileSteps x events.Flush (says reply) then) view steps

    pub stopped_steps : e ≡ errors.Stopped → FileSteps w events.Flush (says replies.Stopped) then
    stopped_steps is = by_view replies.Stopped (flush_stopped S T m n attempts ps same tells.kept tells.left (stopped_cause S e tells.causes is))

    pub busy_steps : (k : ℕ) → e ≡ errors.Busy k → FileSteps w events.Flush (says (replies.Busy k)) then
    busy_steps k is = by_view (replies.Busy k) (flush_busy S T m n attempts ps same tells.kept tells.left k (busy_cause S e k tells.causes is))

    pub full_steps : (full : Full) → e ≡ errors.Space full → ((log : FileLog) → StandsAll S log → NoPlaceAll S log full) → FileSteps w events.Flush (says (replies.FullSpace full.at full.size full.limit)) then
    full_steps full is lacks =
        by_view (replies.FullSpace full.at full.size full.limit)
        (flush_full S T m n attempts ps same tells.kept tells.left full
        (other_free S T e tells (λ a b k why. subst (λ (x : FlushError). Refuses a b k x) is why)) lacks)

    pub memory_free : (f : FlushError) → e ≡ f → IsOther f → flush_refusal_of w.session ≡ None
    memory_free f is other =
        ap (λ (x : SeveralView). flush_refusal_of x.session) (sym view) ∙ other_free S T e tells (λ a b k why. never_other f a b k other (subst (λ (x : FlushError). Refuses a b k x) is why))

  pub all_polls : (r : Result (List ℕ) FlushError) → FlushTells S T r → pollings_of then ≡ pollings_of w
  all_polls (Ok counts) tells = flush_polls S T m n attempts ps same counts tells ∙ ap pollings_of view
  all_polls (Err e) tells = held_polls S T m n attempts ps same tells.kept tells.left ∙ ap pollings_of view

  pub all_hold : (r : Result (List ℕ) FlushError) → FlushTells S T r → HoldsAll S m attempts ps → OnOk r (HasRoomForAll T (steady n)) → HoldsAll T n attempts ps
  all_hold (Ok counts) tells h room = flush_hold S T m n attempts ps same counts tells h room
  all_hold (Err e) tells h room = held_hold S T m n attempts ps same tells.kept tells.left h

  pub all_held : SameButHeld S T → ((log : FileLog) → StandsAll S log → StandsAll T log) → HoldsMoreIn w then
  all_held kept left = subst (λ (x : SeveralView). HoldsMoreIn x then) view (holds_more S T m n attempts ps same kept left)

  -- the reply tells of this place
  pub full_told : (e : FlushError) (f full : Full) → e ≡ errors.Space f → ((g : Full) → err_of e ≡ Err (errors.Space g) → IsFullAmong S.root S.places S.parts g) → ok_of (Says (full_reply f)) ≡ ok_of (Says (full_reply full))
      → IsFullAmong w.session.root w.session.places w.session.parts full
  full_told e f full is told replied =
      subst (λ (x : SeveralView). IsFullAmong x.session.root x.session.places x.session.parts full) view
      (subst (λ (g : Full). IsFullAmong S.root S.places S.parts g) (same_place f full replied) (told f (ap err_of is)))
