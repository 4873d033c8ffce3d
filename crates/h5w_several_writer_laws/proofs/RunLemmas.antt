-- What a dataset sees of the file, call by call.
use Rattle.std.proofs.Common.{◌≡◌, ◌≢◌, ◌⊎◌, ℤ, ℕ, ◌+◌, ◌-◌, ◌*◌, ◌<◌, false, List, [], ◌∷◌, ◌++◌, length, refl, sym, ◌∙◌, ap, subst, inl, inr, arith, append-nil}
use Rattle.std.specs.Prelude.{nat_lt}
use Rattle.std.proofs.lemmas.List.{nil_from_length}
use Rattle.h5w_model.specs.Images.{image}
use Rattle.h5w_model.specs.Findings.{Used}
use Rattle.h5w_model.specs.Logs.{Log, and_now, appended, appends, flushed, flushed_in, hist, plans, shown, shows, Happening}
use Rattle.h5w_model.specs.Prefixed.{EachReads, PrefixedEach, ReadsNow}
use Rattle.h5w_model.specs.Several.{Begun, FileLog, log_of, pieces_in, seen_by, shown_in, shows_all}
use Rattle.h5w_model.specs.declared.cell.Key.{Key}
use Rattle.h5w_model.specs.declared.piece.Write.{Write}
use Rattle.h5w_model.specs.declared.root.Super.{Super}
use Rattle.h5w_model.proofs.ImageLemmas.{image-append}
use Rattle.h5w_laws.proofs.LogLemmas.{length_hist}
use Rattle.h5w_laws.proofs.EventLemmas.{each_kept}
use Rattle.h5w_space.specs.Space.{Space}
use Rattle.h5w_step_laws.specs.Logs.{Goes, image_now}
use Rattle.h5w_step_laws.specs.Moments.{Moment, Represents}
use Rattle.h5w_step_laws.specs.Plans.{Flush, Plan}
use Rattle.h5w_step_laws.specs.Sessions.{Runs}
use Rattle.h5w_step_laws.proofs.GoesLemmas.{image_last, past_now, reads_now}
use Rattle.h5w_step_laws.proofs.PlanLaws.{plan_values, plans_join}
use Rattle.h5w_step_laws.proofs.SessionLaws.{append_runs, both_same, goes_runs, rests}
use Rattle.h5w_several_laws.specs.Dues.{RunsTo, Waits}
use Rattle.h5w_several_laws.specs.Turns.{Entry}
use Rattle.h5w_several_laws.proofs.DueLemmas.{piece_due}
use Rattle.h5w_several_laws.proofs.RunLemmas.{turn_runs}
use Rattle.h5w_several_laws.proofs.SeenLemmas.{seen_laws}
use Rattle.h5w_writer.specs.PartLaws.{RunsAs}
use Rattle.h5w_writer.specs.Sessions.{Session}
use Rattle.h5w_writer.specs.Stands.{Running}
use Rattle.h5w_writer.proofs.StandLemmas.{resting}
use Rattle.h5w_several_writer_laws.specs.Standing.{HasRun, IsDone, IsUnbegun, and_then, last_image}
use Rattle.h5w_several_writer_laws.proofs.SeenLemmas.{shown_seen}

-- ---- At rest, and with pieces that bring no rows

-- pieces that bring no rows are left
pub planned_run : (name : List ℕ) (log : Log) (m n : Moment) (held after : List Used) (ws : List Write) → Runs name log [] m held → Plan (image_now log) m held ws n after → RunsTo name log 0 ws n after
planned_run name log m n held after ws r p =
    let q = rests name log m held r in
    record {
      before = m;
      held = held;
      goes = q.goes;
      own = [];
      others = ws;
      cut = refl;
      due_is = refl;
      middle = m;
      now = held;
      flush = (refl, refl);
      plan = p;
      flushed = λ k. q.flushed k ∙ both_same (nat_lt k 0) m.values m.values n.values refl (plan_values (image_now log) m n held after ws p);
    }

pub rest_run : (name : List ℕ) (log : Log) (e : Entry) → Runs name log [] e.moment e.held → HasRun name log [] e
rest_run name log e r = record { due = 0; runs = planned_run name log e.moment e.moment e.held e.held [] r (refl, refl) }

pub run_rests : (name : List ℕ) (log : Log) (e : Entry) → HasRun name log [] e → Runs name log [] e.moment e.held
run_rests name log e h = turn_runs.again name log h.due e.moment e.held h.runs

pub appended_run : (name : List ℕ) (log : Log) (vs : List ℤ) (e : Entry) → HasRun name log [] e → HasRun name (and_now (appends vs) log) [] e
appended_run name log vs e h = rest_run name (and_now (appends vs) log) e (append_runs name log vs e.moment e.moment e.held e.held [] (run_rests name log e h) (refl, refl))

pub shown_run : (name : List ℕ) (log : Log) (w : Write) (left : List Write) (e : Entry) → HasRun name log (w ∷ left) e → HasRun name (and_now (shows w) log) left e
shown_run name log w left e h = record { due = h.due - 1; runs = piece_due name log h.due w left e.moment e.held h.runs }

-- a session's own run
pub runs_of : (s : Session) (left : List Write) (log : Log) (m : Moment) (a : Key → ℕ) (held : List Used) (t : Space) → RunsAs s left log m a held t → Runs s.name log left m held
runs_of s left log m a held t x = subst (λ (n : Moment). Runs s.name log left n held) x.after (subst (λ (us : List Used). Runs s.name log left x.running.after us) x.held_is x.running.runs)

-- ---- A flush is being planned

-- nothing is planned yet
pub rest_waits : (name : List ℕ) (log : Log) (m : Moment) (held : List Used) → Runs name log [] m held → Waits name log [] m held
rest_waits name log m held r =
    let q = rests name log m held r in
    record { before = m; was = held; goes = q.goes; plan = (refl, refl); flushed = q.flushed }

-- and some pieces that bring it no rows
pub more_waits : (name : List ℕ) (log : Log) (all ws : List Write) (m n : Moment) (held after : List Used) → Waits name log all m held → Plan (image (image_now log) all) m held ws n after → Waits name log (all ++ ws) n after
more_waits name log all ws m n held after q p = record {
  before = q.before;
  was = q.was;
  goes = q.goes;
  plan = plans_join (image_now log) q.before m n q.was held after all ws q.plan p;
  flushed = q.flushed;
}

-- the pieces that are planned for a dataset, with its part among them: some before it, its own, and some behind
pub record HasPlanned (name : List ℕ) (log : Log) (before own behind : List Write) (e : Entry) : Type 0 where
  pub moment : Moment
  pub held : List Used
  pub waits : Waits name log before moment held
  pub middle : Moment
  pub now : List Used
  pub flush : Flush (image (image_now log) before) moment held own middle now
  pub values : middle.values ≡ appended log
  pub plan : Plan (image (image_now log) (before ++ own)) middle now behind e.moment e.held

-- the image of what a dataset sees
pub sight_image : (log : FileLog) (d : ℕ) (b : Begun) (ws : List Write) → image (image_now (log_of d b log)) ws ≡ last_image log ws
sight_image log d b ws = ap (λ (hs : List Write). image (image log.start hs) ws) (seen_laws.pieces d log.events) ∙ sym (image-append log.start (pieces_in log.events) ws)

-- ---- Values

no_rows : (n cols : ℕ) → n ≡ 0 → n * cols ≡ 0
no_rows n cols none = ap (λ (k : ℕ). k * cols) none ∙ omega arith

-- where no row waits none is to come
pub none_come : (s : Session) (left : List Write) (log : Log) (r : Running s left log) → s.waits ≡ 0 → r.early ++ r.more ≡ []
none_come s left log r none =
    let early : r.early ≡ [] = nil_from_length r.early (r.written.count ∙ no_rows s.early s.dataset.shape.cols (let some = r.some in omega (arith, some, none))) in
    let more : r.more ≡ [] = nil_from_length r.more (r.count ∙ no_rows (s.waits - s.early) s.dataset.shape.cols (omega (arith, none))) in
    ap (λ (vs : List ℤ). vs ++ r.more) early ∙ more

-- and all values are those of the moment
pub none_waits : (s : Session) (left : List Write) (log : Log) (r : Running s left log) → s.waits ≡ 0 → r.after.values ≡ appended log
none_waits s left log r none =
    let m = r.after in
    sym (append-nil m.values) ∙ sym (ap (λ (vs : List ℤ). m.values ++ vs) (none_come s left log r none)) ∙ r.appended

-- ---- A piece became visible

-- before the first position nothing is said of a log
none_each : (name : List ℕ) (log : Log) (es : List Happening) → shown es < log.first → EachReads name log es
none_each name log [] low = λ begun. absurd (omega (arith, low, begun))
none_each name log (appends vs ∷ es) low = ((λ begun. absurd (omega (arith, low, begun))), none_each name log es low)
none_each name log (plans k ∷ es) low = ((λ begun. absurd (omega (arith, low, begun))), none_each name log es low)
none_each name log (shows w ∷ es) low = ((λ begun. absurd (omega (arith, low, begun))), none_each name log es (omega (arith, low)))

pub some_count : (ws : List Write) → ws ≢ [] → 0 < length ws
some_count [] some = absurd (some refl)
some_count (w ∷ ws) some = omega arith

-- at each position what the dataset sees is valid and reads as its rows
pub run_each : (log : FileLog) (d : ℕ) (b : Begun) (left : List Write) (s : Session) (e : Entry) → HasRun s.name (log_of d b log) left e ⊎ IsUnbegun log left s → PrefixedEach s.name (log_of d b log)
run_each log d b left s e (inl h) = h.runs.goes.prefixed
run_each log d b left s e (inr u) = none_each s.name (log_of d b log) (seen_by d log.events) (let first = u.first in let some = some_count left u.some in omega (arith, first, some, shown_seen d log.events))

-- at the first position the part that was told of all is where its dataset is
module _ (root : Super) (t : Space) (log : FileLog) (w : Write) (d : ℕ) (b : Begun) (s : Session) (e : Entry) (x : IsDone root t [] (and_then (shows_all w) log) d b s e) (first : shown_in log.events + 1 ≡ log.first)
    (each : PrefixedEach s.name (log_of d b log)) where
  abbrev after : FileLog
  after = and_then (shows_all w) log

  abbrev sight : Log
  sight = log_of d b after

  abbrev m : Moment
  m = x.runs.running.after

  abbrev held : List Used
  held = x.runs.running.held

  own : Goes s.name x.own m held
  own = resting s.name x.own m held x.runs.running.runs

  here : image_now x.own ≡ image_now sight
  here =
      ap (λ (st : List ℕ). image st (hist x.own.events)) x.seen.start
      ∙ sym (image-append log.start x.seen.lead (hist x.own.events))
      ∙ ap (image log.start) (x.seen.pieces ∙ append-nil (pieces_in after.events))
      ∙ ap (image log.start) (sym (seen_laws.pieces d after.events))

  now : Represents (image_now sight) s.name m
  now = subst (λ (i : List ℕ). Represents i s.name m) here own.now

  reads : ReadsNow s.name sight
  reads = reads_now s.name sight m now (own.values ∙ x.seen.now) (subst (λ (n : ℕ). 0 < n) x.seen.columns own.some_columns) (own.columns ∙ x.seen.columns)

  first_goes : Goes s.name sight m held
  first_goes = record {
    begun = omega (arith, first, shown_seen d after.events);
    now = now;
    values = own.values ∙ x.seen.now;
    some_columns = subst (λ (n : ℕ). 0 < n) x.seen.columns own.some_columns;
    columns = own.columns ∙ x.seen.columns;
    reaches = own.reaches;
    past = λ p r low high seen. past_now sight p s.name m held r (image_last sight p (omega (arith, low, high, first, shown_seen d after.events))) now own.reaches seen;
    off_front = own.off_front;
    ends = own.ends;
    some = own.some;
    clear = own.clear;
    prefixed = ((λ begun. reads), each_kept s.name (shows w) (log_of d b log) (seen_by d log.events) each);
    still = λ k low short. absurd (omega (arith, low, short, first, shown_seen d after.events, length_hist sight.events));
  }

  values : (k : ℕ) → flushed_in k sight.values sight.events ≡ m.values
  values k =
      let q = rests s.name x.own m held x.runs.running.runs in
      let none : 0 + k ≡ k = omega arith in
      ap (λ (j : ℕ). flushed_in j b.values (seen_by d after.events)) (sym none) ∙ sym (x.seen.ahead k) ∙ q.flushed k

  pub first_run : HasRun s.name sight [] e
  first_run =
      let r : Runs s.name sight [] m held = goes_runs s.name sight m held first_goes values in
      rest_run s.name sight e (subst (λ (n : Moment). Runs s.name sight [] n e.held) x.runs.after (subst (λ (us : List Used). Runs s.name sight [] m us) x.runs.held_is r))

  -- the file then
  pub first_file : Represents (image log.start (pieces_in after.events)) s.name e.moment
  first_file = subst (λ (n : Moment). Represents (image log.start (pieces_in after.events)) s.name n) x.runs.after (subst (λ (ws : List Write). Represents (image log.start ws) s.name m) (seen_laws.pieces d after.events) now)

-- so it is of each piece, where there was a file and where there was none yet
pub next_run : (root : Super) (t : Space) (w : Write) (left : List Write) (log : FileLog) (d : ℕ) (b : Begun) (s : Session) (e : Entry) → HasRun s.name (log_of d b log) (w ∷ left) e ⊎ IsUnbegun log (w ∷ left) s
    → (s.flushing ≡ false → IsDone root t left (and_then (shows_all w) log) d b s e) → HasRun s.name (log_of d b (and_then (shows_all w) log)) left e ⊎ IsUnbegun (and_then (shows_all w) log) left s
next_run root t w left log d b s e (inl h) done = inl (shown_run s.name (log_of d b log) w left e h)
next_run root t w left log d b s e (inr u) done = go left u (done u.calm)
  where
    go : (ws : List Write) → IsUnbegun log (w ∷ ws) s → IsDone root t ws (and_then (shows_all w) log) d b s e → HasRun s.name (log_of d b (and_then (shows_all w) log)) ws e ⊎ IsUnbegun (and_then (shows_all w) log) ws s
    go [] u x = inl (first_run root t log w d b s e x (let first = u.first in omega (arith, first)) (run_each log d b (w ∷ []) s e (inr u)))
    go (v ∷ ws) u x = inr (record { calm = u.calm; some = λ none. cc; new = u.new; first = let first = u.first in omega (arith, first) })
