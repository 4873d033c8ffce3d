-- The oldest pending piece of a session of several datasets became visible.
use Rattle.std.proofs.Common.{◌≡◌, ℕ, true, false, Bool, List, [], ◌∷◌, ◌++◌, refl, sym, ◌∙◌, ap, subst, inl, inr, arith}
use Rattle.std.proofs.lemmas.List.Sorted.{IsPermutation-refl}
use Rattle.h5w_model.specs.Images.{image}
use Rattle.h5w_model.specs.Findings.{Used}
use Rattle.h5w_model.specs.Logs.{Log, and_now, shows}
use Rattle.h5w_model.specs.Several.{Begun, FileLog, shows_all}
use Rattle.h5w_model.specs.declared.cell.Key.{Key}
use Rattle.h5w_model.specs.declared.piece.Write.{Write}
use Rattle.h5w_model.specs.declared.root.Super.{Super}
use Rattle.h5w_step_laws.specs.Ranges.{Among}
use Rattle.h5w_step_laws.proofs.RangeLemmas.{among_left}
use Rattle.h5w_space.specs.Space.{Space}
use Rattle.h5w_step_laws.specs.Moments.{Moment, Represents}
use Rattle.h5w_step_laws.specs.Logs.{image_now}
use Rattle.h5w_step_laws.specs.Plans.{Plan}
use Rattle.h5w_step_laws.proofs.GoesLemmas.{image_pushed}
use Rattle.h5w_step_laws.proofs.MomentLemmas.{in_root}
use Rattle.h5w_several_laws.specs.Beside.{with_root}
use Rattle.h5w_several_laws.specs.Turns.{Entry, IsOne, then_as}
use Rattle.h5w_writer.specs.Sessions.{AfterPiece, AllEndBy, Freed, Session, Settles}
use Rattle.h5w_writer.specs.Told.{moved_to}
use Rattle.h5w_writer.proofs.StandLemmas.{freed_keeps, resting}
use Rattle.h5w_writer.specs.PartLaws.{ArePassed, PartLaws, RunsAs, rooted}
use Rattle.h5w_several_writer_laws.specs.Seen.{IsOwn}
use Rattle.h5w_several_writer_laws.specs.Sessions.{AreShown, all_pending}
use Rattle.h5w_several_writer_laws.specs.Standing.{IsDone, IsDue, IsOwed, IsStandingPart, and_then, most_in, rested}
use Rattle.h5w_several_writer_laws.proofs.PassedLemmas.{IsPassedBy}
use Rattle.h5w_several_writer_laws.proofs.FlushAllLemmas.{not_both}
use Rattle.h5w_several_writer_laws.proofs.RunLemmas.{next_run, run_each}
use Rattle.h5w_several_writer_laws.proofs.PastLemmas.{past_level}
use Rattle.h5w_several_writer_laws.proofs.SightLemmas.{seen_own, seen_shown}
use Rattle.h5w_several_writer_laws.proofs.TurnPartLemmas.{IsWithin, Stretches, entry, own_image, step_done}

-- ---- What is free then

abbrev freed_of : Bool → Space → Space
freed_of true s = record s { retired = [] }
freed_of false s = record s { free = s.free ++ s.retired; retired = [] }

freed_is : (keeps : Bool) (s : Space) → Freed keeps s (freed_of keeps s)
freed_is true s = refl
freed_is false s = record { free = IsPermutation-refl (s.free ++ s.retired); retired = refl; end = refl; limit = refl; spare = refl }

-- ---- What is left of the pieces

settled_pending : (flushing : Bool) (s u : Session) → Settles flushing s u → u.pending ≡ []
settled_pending true s u x = ap (λ (y : Session). y.pending) x.1
settled_pending false s u x = ap (λ (y : Session). y.pending) x

pub left_is : (s u : Session) (ws : List Write) → AfterPiece s ws u → u.pending ≡ ws
left_is s u [] x = settled_pending s.flushing s u x
left_is s u (w ∷ ws) x = ap (λ (y : Session). y.pending) x

pub calm_after : (s u : Session) (ws : List Write) → s.flushing ≡ false → AfterPiece s ws u → u ≡ record s { pending = ws }
calm_after s u [] calm x = subst (λ (f : Bool). Settles f s u) calm x
calm_after s u (w ∷ ws) calm x = x

pub shown_left : (w : Write) (ss uu : List Session) → AreShown w ss uu → all_pending ss ≡ w ∷ all_pending uu
shown_left w [] uu x = absurd x
shown_left w (s ∷ ss) [] x = absurd x
shown_left w (s ∷ ss) (u ∷ uu) x = elim x [
  | inl y ↦
      ap (λ (ws : List Write). ws ++ all_pending ss) y.0 ∙ shown_left w ss uu y.2
      ∙ ap (λ (ws : List Write). w ∷ (ws ++ all_pending uu)) (sym (ap (λ (v : Session). v.pending) y.1 ∙ y.0))
  | inr y ↦
      ap (λ (ws : List Write). ws ++ all_pending ss) y.1 ∙ ap (λ (ws : List Write). w ∷ (ws ++ all_pending ss)) (sym (left_is s u y.0 y.2))
      ∙ ap (λ (vs : List Session). w ∷ (u.pending ++ all_pending vs)) (sym y.3)
]

-- ---- One part

abbrev pub shown_log : Write → FileLog → FileLog
shown_log w log = and_then (shows_all w) log

-- as it was known
runs_on : (s t : Session) (left ws : List Write) (l o : Log) (m : Moment) (a : Key → ℕ) (held : List Used) (rest place : Space) → (x : RunsAs s left l m a held rest) → RunsAs t ws o x.running.after x.running.address x.running.held place → RunsAs t ws o m a held place
runs_on s t left ws l o m a held rest place x y = record { running = y.running; after = y.after ∙ x.after; address_is = y.address_is ∙ x.address_is; held_is = y.held_is ∙ x.held_is; rest_is = y.rest_is }

-- the piece counted as shown
module _ (root : Super) (t : Space) (us : List Used) (left : List Write) (w : Write) (log : FileLog) (d : ℕ) (b : Begun) where
  part_told : (before : List Write) (s : Session) (behind : List Write) (e : Entry) → IsDone root t (w ∷ left) log d b s e → IsDone root t left (shown_log w log) d b s e
  part_told before s behind e x = record { calm = x.calm; own = x.own; seen = seen_shown log d b x.own w left x.seen; runs = x.runs }

  pub part_behind : (before : List Write) (s : Session) (behind : List Write) (e : Entry) → IsStandingPart root t us (w ∷ left) log d b (w ∷ before) s behind e → IsStandingPart root t us left (shown_log w log) d b before s behind e
  part_behind before s behind e x = elim x.phase [
    | inl done ↦
        let next = part_told (w ∷ before) s behind e done in
        let run = next_run root t w left log d b s e x.run (λ calm. next) in
        record {
          name = x.name;
          early = x.early;
          going = x.going;
          each = run_each (shown_log w log) d b left s e run;
          run = run;
          past = past_level root t w left log d b s e x.name x.run (λ calm. next) (sym (seen_shown log d b done.own w left done.seen).now ∙ done.seen.now) x.past;
          phase = inl next;
        }
    | inr due ↦
        let seen = seen_shown log d b due.own w before due.seen in
        let run = next_run root t w left log d b s e x.run (λ calm. absurd (not_both s.flushing due.flushing calm)) in
        record {
          name = x.name;
          early = x.early;
          going = x.going;
          each = run_each (shown_log w log) d b left s e run;
          run = run;
          past = past_level root t w left log d b s e x.name x.run (λ calm. absurd (not_both s.flushing due.flushing calm)) (sym seen.now ∙ due.seen.now) x.past;
          phase = inr (record {
            some = due.some;
            flushing = due.flushing;
            own = due.own;
            seen = seen;
            was = due.was;
            told = due.told;
            limit = due.limit;
            moment = due.moment;
            runs = due.runs;
            among = due.among;
            moment_is = due.moment_is;
            owed = due.owed;
          });
        }
  ]

  -- one that has none pending
  pub part_idle : (s : Session) (behind : List Write) (e : Entry) → s.pending ≡ [] → IsStandingPart root t us (w ∷ left) log d b [] s behind e → IsStandingPart root t us left (shown_log w log) d b [] s behind e
  part_idle s behind e idle x = elim x.phase [
    | inl done ↦
        let next = part_told [] s behind e done in
        let run = next_run root t w left log d b s e x.run (λ calm. next) in
        record {
          name = x.name;
          early = x.early;
          going = x.going;
          each = run_each (shown_log w log) d b left s e run;
          run = run;
          past = past_level root t w left log d b s e x.name x.run (λ calm. next) (sym (seen_shown log d b done.own w left done.seen).now ∙ done.seen.now) x.past;
          phase = inl next;
        }
    | inr due ↦ absurd (due.some idle)
  ]

-- the part whose piece it is
module _ (p : PartLaws) (root : Super) (t : Space) (us : List Used) (w : Write) (log : FileLog) (d : ℕ) (b : Begun) (s : Session) (behind : List Write) (e : Entry) (x : IsDue root t us log d b [] s behind e) where
  abbrev own : Log
  own = and_now (shows w) x.own

  abbrev m : Moment
  m = with_root us x.moment

  seen : IsOwn t.limit (shown_log w log) d b own []
  seen = seen_own log d b x.own w x.seen

  flag : x.was.flushing ≡ true
  flag = sym (ap (λ (y : Session). y.flushing) x.told) ∙ x.flushing

  own_pending : x.was.pending ≡ s.pending
  own_pending = sym (ap (λ (y : Session). y.pending) x.told)

  later_image : (ws : List Write) → s.pending ≡ w ∷ ws → image (image_now x.own) s.pending ≡ image (image_now own) ws
  later_image ws is = ap (image (image_now x.own)) is ∙ ap (λ (i : List ℕ). image i ws) (sym (image_pushed x.own w))

  piece : (v : Session) (ws : List Write) → s.pending ≡ w ∷ ws → AfterPiece x.was ws v → RunsAs v ws own x.moment e.address e.held v.places
  piece v ws is after =
      let runs = subst (λ (vs : List Write). RunsAs x.was vs x.own x.moment e.address e.held x.was.places) is x.runs in
      runs_on x.was v (w ∷ ws) ws x.own own x.moment e.address e.held x.was.places v.places runs (p.piece x.was v w ws x.own runs.running (own_pending ∙ is) flag after)

  -- more of them are left
  pub due_more : (y : Write) (ws : List Write) → s.pending ≡ w ∷ y ∷ ws → IsDue root t us (shown_log w log) d b [] (record s { pending = y ∷ ws }) behind e
  due_more y ws is =
      let v : Session = record (x.was) { pending = y ∷ ws } in
      record {
        some = λ none. cc;
        flushing = x.flushing;
        own = own;
        seen = seen;
        was = v;
        told = ap (λ (z : Session). let q : Session = record z { pending = y ∷ ws } in q) x.told;
        limit = x.limit;
        moment = x.moment;
        runs = piece v (y ∷ ws) is refl;
        among = x.among;
        moment_is = x.moment_is;
        owed = subst (λ (i : List ℕ). IsOwed i s.name m e.held behind root) (later_image (y ∷ ws) is) x.owed;
      }

  -- it was the last: the part is told of those behind
  module _ (is : s.pending ≡ w ∷ []) (early : s.early ≡ 0) (name : e.name ≡ s.name) (one : IsOne (image (image_now own) behind) t root us e) (fits : IsWithin t log) (ends : AllEndBy (most_in t log) behind) where
    abbrev place : Space
    place = freed_of x.was.keeps x.was.places

    abbrev v : Session
    v = record (x.was) { places = place; committed = x.was.dataset.shape.rows; pending = []; flushing = false }

    settles : AfterPiece x.was [] v
    settles = subst (λ (f : Bool). Settles f x.was v) (sym flag) (freed_is x.was.keeps x.was.places, refl)

    shown : RunsAs v [] own x.moment e.address e.held place
    shown = piece v [] is settles

    own_name : s.name ≡ v.name
    own_name = ap (λ (y : Session). y.name) x.told

    file : Represents (image_now own) v.name m
    file = subst (λ (n : List ℕ). Represents (image_now own) n m) own_name (subst (λ (i : List ℕ). Represents i s.name m) (later_image [] is) x.owed.file)

    among : (u : Used) → Among u us → Among u shown.running.after.root
    among u a = subst (λ (y : Moment). Among u y.root) (sym shown.after) (x.among u a)

    untold : RunsAs v [] own m e.address e.held place
    untold =
        let r = shown.running in
        let goes = resting v.name own r.after r.held r.runs in
        let told = p.others v own r us (subst (λ (y : Moment). Represents (image_now own) v.name (rooted us y)) (sym shown.after) file)
        (λ y z a c. goes.off_front y z a (inr (among_left z r.after.root (r.after.header ++ r.after.fixed) (among z c))))
        (λ u a. r.knows.live u (in_root r.after u (among u a))) in
        record {
          running = told.running;
          after = told.after ∙ ap (rooted us) shown.after;
          address_is = told.address_is ∙ shown.address_is;
          held_is = told.held_is ∙ shown.held_is;
          rest_is = told.rest_is ∙ shown.rest_is;
        }

    abbrev first : Entry
    first = entry v.name m e.address e.held

    last_entry : then_as root first ≡ e
    last_entry = ap (λ (n : List ℕ). entry n (moved_to root m) e.address e.held) (sym (name ∙ own_name)) ∙ ap (λ (y : Moment). entry e.name y e.address e.held) (sym x.moment_is)

    by : IsPassedBy (image_now own) behind root t us first
    by = record {
      plan = subst (λ (i : List ℕ). Plan i m e.held behind (moved_to root m) e.held) (later_image [] is) x.owed.plan;
      passed = subst (λ (n : List ℕ). ArePassed (image_now own) n m behind) own_name (subst (λ (i : List ℕ). ArePassed i s.name m behind) (later_image [] is) x.owed.passed);
      one = subst (λ (y : Entry). IsOne (image (image_now own) behind) t root us y) (sym last_entry) one;
    }

    stretch : Stretches place t (shown_log w log) behind
    stretch =
        let limit = x.limit ∙ sym ((freed_keeps x.was.keeps x.was.places place (freed_is x.was.keeps x.was.places)).1) in
        let most : most_in place (shown_log w log) ≡ most_in t log = ap (λ (n : ℕ). let y : Space = record t { limit = n } in most_in y log) (sym limit) in
        record { limit = limit; fits = omega (arith, fits.ends, most); ends = subst (λ (n : ℕ). AllEndBy n behind) (sym most) ends; low = omega (arith, fits.low, limit) }

    -- as the session has it
    pub due_last : (u : Session) → AfterPiece s [] u → IsDone root t behind (shown_log w log) d b u e
    due_last u after =
        let done : IsDone v.root place [] (shown_log w log) d b v first = record { calm = inl refl; own = own; seen = subst (λ (n : ℕ). IsOwn n (shown_log w log) d b own []) stretch.limit seen; runs = untold } in
        let told = step_done p (shown_log w log) us (image_now own) behind [] v.root root place t d b v first (own_image (shown_log w log) d b own [] seen) by refl (sym (ap (λ (y : Session). y.early) x.told) ∙ early) stretch done in
        let known = subst (λ (y : Entry). IsDone root t behind (shown_log w log) d b v y) last_entry told in
        let settled = subst (λ (f : Bool). Settles f s u) x.flushing after in
        let shape : Session → Session = λ y. record y { root = root; places = t; committed = y.dataset.shape.rows; pending = []; flushing = false } in
        let same : rested root t v ≡ rested root t u = sym (ap shape x.told) ∙ ap (λ (y : Session). let z : Session = record y { root = root; places = t; pending = [] } in z) (sym settled.1) in
        record { calm = inl (ap (λ (y : Session). y.pending) settled.1); own = known.own; seen = known.seen; runs = subst (λ (y : Session). RunsAs y [] known.own e.moment e.address e.held t) same known.runs }
