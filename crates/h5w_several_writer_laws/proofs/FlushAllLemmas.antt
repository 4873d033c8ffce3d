-- A flush of several datasets: the session stands for the log with it.
use Rattle.std.proofs.Common.{◌≡◌, ◌⊎◌, ℕ, suc, ◌+◌, ◌-◌, true, false, Bool, List, [], ◌∷◌, ◌++◌, length, ℤ, refl, sym, ◌∙◌, ap, subst, inl, inr, arith, length-append, append-nil, append_assoc}
use Rattle.std.specs.Prelude.{take}
use Rattle.std.proofs.lemmas.List.Sums.{sum_by-cons}
use Rattle.std.proofs.lemmas.List.{append_cancel_left, length_push}
use Rattle.h5w_model.specs.Images.{image}
use Rattle.h5w_model.specs.Findings.{Used}
use Rattle.h5w_model.specs.Logs.{Log, and_now, appended, flushed, plans}
use Rattle.h5w_model.specs.Several.{Begun, FileLog, log_of, pieces_in, plans_each, up_to}
use Rattle.h5w_model.specs.declared.piece.Write.{Write}
use Rattle.h5w_model.specs.declared.root.Super.{Super}
use Rattle.h5w_space.specs.Space.{Space}
use Rattle.h5w_step_laws.specs.Logs.{image_now}
use Rattle.h5w_step_laws.specs.Moments.{Moment}
use Rattle.h5w_several_laws.specs.Beside.{with_root}
use Rattle.h5w_several_laws.specs.Dues.{RunsTo, Waits}
use Rattle.h5w_several_laws.proofs.DueLemmas.{plan_due}
use Rattle.h5w_several_laws.specs.Together.{StaysValid, names_of}
use Rattle.h5w_several_laws.specs.Turns.{AreKnown, Entry}
use Rattle.h5w_writer.specs.Sessions.{AllEndBy, Session}
use Rattle.h5w_writer.specs.Stands.{Running}
use Rattle.h5w_writer.specs.Told.{told_of}
use Rattle.h5w_writer.proofs.PastLemmas.{ends_front, ends_joined}
use Rattle.h5w_writer.proofs.StandLemmas.{resting}
use Rattle.h5w_writer.specs.PartLaws.{PartLaws}
use Rattle.h5w_several_writer_laws.specs.Sessions.{AreFlushed, FlushesAll, Sessions, all_pending, bare, counts_of}
use Rattle.h5w_several_writer_laws.specs.Courses.{AreThrough, stands_of}
use Rattle.h5w_several_writer_laws.specs.Valid.{AreValidFrom, names_in}
use Rattle.h5w_several_writer_laws.specs.Standing.{AreStandingParts, HasRun, IsDone, IsOwed, IsStandingPart, IsUnbegun, StandsAll, StandsOn, and_then, last_image, most_in, rested}
use Rattle.h5w_several_writer_laws.proofs.SightLemmas.{seen_flushed, seen_planned}
use Rattle.h5w_several_writer_laws.proofs.RunLemmas.{none_come, none_waits, rest_waits, run_rests, some_count}
use Rattle.h5w_several_writer_laws.proofs.TurnPartLemmas.{IsPlannedPart, settled_runs}
use Rattle.h5w_several_writer_laws.proofs.ValidLemmas.{valid_more}
use Rattle.h5w_several_writer_laws.proofs.CourseLemmas.{AreCounted, flush_course}
use Rattle.h5w_several_writer_laws.proofs.ValidFlushLemmas.{flush_valid, flushed_names, out_names, standing_names}
use Rattle.h5w_several_writer_laws.proofs.FoldPartLemmas.{AllOut, AllRest, IsOut, folded, seat}

-- ---- Sessions that go on

pub not_both : (b : Bool) → b ≡ true → b ≡ false → ⊥
not_both b first second = let clash : true ≡ false = sym first ∙ second in cc

-- one that was not stopped goes on
pub goes_on : (S : Sessions) (log : FileLog) → StandsAll S log → S.stopped ≡ false → StandsOn S log
goes_on S log st going = elim st.is [
  | inl same ↦ subst (λ (x : Sessions). StandsOn x log) (sym same) st.stands
  | inr ended ↦
      elim ended [
        | inl same ↦ absurd (not_both S.stopped (ap (λ (x : Sessions). x.stopped) same) going)
        | inr same ↦ absurd (not_both S.stopped (ap (λ (x : Sessions). x.stopped) same) going)
      ]
]

pub stands_all : (S : Sessions) (log : FileLog) → StandsOn S log → StandsAll S log
stands_all S log st = record { was = S; stands = st; is = inl refl }

-- ---- What is pending

pub front_nil : (xs ys : List Write) → xs ++ ys ≡ [] → xs ≡ []
front_nil [] ys none = refl
front_nil (x ∷ xs) ys none = absurd cc

pub back_nil : (xs ys : List Write) → xs ++ ys ≡ [] → ys ≡ []
back_nil [] ys none = none
back_nil (x ∷ xs) ys none = absurd cc

pub pending_joined : (xs ys : List Session) → all_pending (xs ++ ys) ≡ all_pending xs ++ all_pending ys
pending_joined [] ys = refl
pending_joined (x ∷ xs) ys = ap (λ (ws : List Write). x.pending ++ ws) (pending_joined xs ys) ∙ sym (append_assoc x.pending (all_pending xs) (all_pending ys))

up_to_next : (n k : ℕ) (ks : List ℕ) → up_to (suc n) (k ∷ ks) ≡ k + up_to n ks
up_to_next n k ks = sum_by-cons (λ (x : ℕ). x) k (take (suc n) ks)

-- the pieces up to the last one of a part are those of the parts before it and its own
up_to_own : (front : List Session) (u : Session) (uu : List Session) → up_to (length front) (counts_of (front ++ u ∷ uu)) ≡ length (all_pending front) + length u.pending
up_to_own [] u uu = omega arith
up_to_own (x ∷ front) u uu =
    let later = up_to_own front u uu in
    let both = length-append x.pending (all_pending front) in
    let next = up_to_next (length front) (length x.pending) (counts_of (front ++ u ∷ uu)) in
    next ∙ omega (arith, later, both)

-- where no row waits all is flushed
pub nothing_waits : (s : Session) (log : Log) (r : Running s [] log) → s.waits ≡ 0 → appended log ≡ flushed log
nothing_waits s log r none =
    let m = r.after in
    let goes = resting s.name log m r.held r.runs in
    sym r.appended ∙ ap (λ (vs : List ℤ). m.values ++ vs) (none_come s [] log r none) ∙ append-nil m.values ∙ goes.values

-- ---- From the end of the fold to the session

module _ (last : Super) (end : Space) (us : List Used) (total : List Write) (log : FileLog) (counts : List ℕ) where
  abbrev next : FileLog
  next = and_then (plans_each counts) log

  module _ (d : ℕ) (b : Begun) (before : List Write) (u : Session) (behind : List Write) (e : Entry) (o : IsOut last end us total log d b before u e) (count : up_to d counts ≡ length before + length u.pending) (cut : total ≡ (before ++ u.pending) ++ behind) where
    abbrev part : Session
    part = o.part

    abbrev v : Session
    v = told_of o.part last (bare end)

    own_count : up_to d counts ≡ length before + length part.pending
    own_count = count ∙ ap (λ (y : Session). length before + length y.pending) o.told

    own_cut : total ≡ (before ++ part.pending) ++ behind
    own_cut = cut ∙ ap (λ (y : Session). (before ++ y.pending) ++ behind) o.told

    done : IsDone last end total log d b part e × (part.pending ≡ []) × Waits part.name (log_of d b log) total e.moment e.held → IsStandingPart last end us total next d b before v behind e
    done x =
        let r = x.0.runs.running in
        let settled = settled_runs part.name x.0.own r.after r.held r.runs in
        let values : e.moment.values ≡ appended (log_of d b log) = ap (λ (m : Moment). m.values) (sym x.0.runs.after) ∙ none_waits (rested last end part) [] x.0.own r o.none ∙ x.0.seen.appended in
        let seen = seen_planned log d b x.0.own total x.0.seen settled (nothing_waits (rested last end part) x.0.own r o.none) counts in
        let all : RunsTo part.name (and_now (plans (up_to d counts)) (log_of d b log)) 0 total e.moment e.held = plan_due.none part.name (log_of d b log) total (up_to d counts) e.moment e.held x.2 values in
        record {
          name = o.inside.name;
          early = o.inside.early;
          going = o.inside.going;
          each = all.goes.prefixed;
          run = inl (record { due = 0; runs = all });
          past = record { raised = o.inside.past.raised; addressed = o.inside.past.addressed; next = o.inside.past.next };
          phase = inl (record { calm = x.0.calm; own = x.0.own; seen = seen; runs = x.0.runs });
        }

    due : IsPlannedPart last end us total log (seat d b before part) e → IsStandingPart last end us total next d b before v behind e
    due x =
        let n = length part.pending in
        let own = and_now (plans n) x.own in
        let seen = seen_flushed log d b x.own before x.seen x.settled counts n (some_count part.pending x.some) own_count in
        let sight : Log = log_of d b log in
        let y = x.whole in
        let many : length (before ++ part.pending) ≡ up_to d counts = length-append before part.pending ∙ sym own_count in
        let all : RunsTo part.name (and_now (plans (length (before ++ part.pending))) sight) (length (before ++ part.pending)) total e.moment e.held =
        subst (λ (ws : List Write). RunsTo part.name (and_now (plans (length (before ++ part.pending))) sight) (length (before ++ part.pending)) ws e.moment e.held) (sym x.cut)
        (plan_due.part part.name sight before part.pending x.behind y.moment y.middle e.moment y.held y.now e.held y.waits y.flush x.some y.values y.plan) in
        let run : RunsTo part.name (and_now (plans (up_to d counts)) sight) (length (before ++ part.pending)) total e.moment e.held = subst (λ (k : ℕ). RunsTo part.name (and_now (plans k) sight) (length (before ++ part.pending)) total e.moment e.held) many all in
        let same : x.behind ≡ behind = append_cancel_left (before ++ part.pending) x.behind behind (sym x.cut ∙ own_cut) in
        record {
          name = o.inside.name;
          early = o.inside.early;
          going = o.inside.going;
          each = run.goes.prefixed;
          run = inl (record { due = length (before ++ part.pending); runs = run });
          past = record { raised = o.inside.past.raised; addressed = o.inside.past.addressed; next = o.inside.past.next };
          phase = inr (record {
            some = x.some;
            flushing = x.flushing;
            own = own;
            seen = seen;
            was = part;
            told = refl;
            limit = x.limit;
            moment = x.moment;
            runs = x.runs;
            among = x.among;
            moment_is = x.moment_is;
            owed = subst (λ (ws : List Write). IsOwed (image (image_now x.own) part.pending) part.name (with_root us x.moment) e.held ws last) same x.owed;
          });
        }

    go : (IsDone last end total log d b part e × (part.pending ≡ []) × Waits part.name (log_of d b log) total e.moment e.held) ⊎ IsPlannedPart last end us total log (seat d b before part) e → IsStandingPart last end us total next d b before v behind e
    go (inl x) = done x
    go (inr x) = due x

    stand_part : IsStandingPart last end us total next d b before u behind e
    stand_part = subst (λ (y : Session). IsStandingPart last end us total next d b before y behind e) (sym o.told) (go o.inside.phase)

  stand_parts : (front : List Session) (d : ℕ) (bs : List Begun) (before : List Write) (uu : List Session) (es : List Entry) → counts ≡ counts_of (front ++ uu) → total ≡ all_pending (front ++ uu) → before ≡ all_pending front → d ≡ length front
      → AllOut last end us total log d bs before uu es → AreStandingParts last end us total next d bs before uu es
  stand_parts front d [] before [] [] is all first number x = tt
  stand_parts front d (b ∷ bs) before (u ∷ uu) (e ∷ es) is all first number x =
      let count : up_to d counts ≡ length before + length u.pending =
      ap (λ (n : ℕ). up_to n counts) number ∙ ap (up_to (length front)) is ∙ up_to_own front u uu ∙ ap (λ (ws : List Write). length ws + length u.pending) (sym first) in
      let cut : total ≡ (before ++ u.pending) ++ all_pending uu =
      all ∙ pending_joined front (u ∷ uu) ∙ ap (λ (ws : List Write). ws ++ (u.pending ++ all_pending uu)) (sym first) ∙ sym (append_assoc before u.pending (all_pending uu)) in
      let more : front ++ u ∷ uu ≡ (front ++ u ∷ []) ++ uu = sym (append_assoc front (u ∷ []) uu) in (
        stand_part d b before u (all_pending uu) e x.0 count cut,
        stand_parts (front ++ u ∷ []) (suc d) bs (before ++ u.pending) uu es (is ∙ ap counts_of more) (all ∙ ap all_pending more)
            (ap (λ (ws : List Write). ws ++ u.pending) first ∙ ap (λ (ws : List Write). all_pending front ++ ws) (sym (append-nil u.pending)) ∙ sym (pending_joined front (u ∷ [])))
            (let n = length_push front u in omega (arith, number, n)) x.1,
      )
  stand_parts front d [] before (u ∷ uu) es is all first number x = absurd x
  stand_parts front d [] before [] (e ∷ es) is all first number x = absurd x
  stand_parts front d (b ∷ bs) before [] es is all first number x = absurd x
  stand_parts front d (b ∷ bs) before (u ∷ uu) [] is all first number x = absurd x

-- ---- The flush

-- parts at rest wait for their turn
pub at_rest : (root : Super) (t : Space) (us : List Used) (left : List Write) (log : FileLog) (d : ℕ) (bs : List Begun) (before : List Write) (ss : List Session) (es : List Entry) → left ≡ [] → all_pending ss ≡ [] → AreStandingParts root t us left log d bs before ss es
    → AllRest root t us [] log d bs ss es
at_rest root t us left log d [] before [] [] none idle x = tt
at_rest root t us left log d (b ∷ bs) before (s ∷ ss) (e ∷ es) none idle x =
    let own = front_nil s.pending (all_pending ss) idle in
    let waits : HasRun s.name (log_of d b log) left e ⊎ IsUnbegun log left s → Waits s.name (log_of d b log) [] e.moment e.held = λ run. elim run [
      | inl h ↦ rest_waits s.name (log_of d b log) e.moment e.held (run_rests s.name (log_of d b log) e (subst (λ (ws : List Write). HasRun s.name (log_of d b log) ws e) none h))
      | inr u ↦ absurd (u.some none)
    ] in
    let i = x.0 in (
      (
        record {
          name = i.name;
          early = i.early;
          going = i.going;
          each = i.each;
          past = i.past;
          phase = elim i.phase [
            | inl done ↦ inl (subst (λ (ws : List Write). IsDone root t ws log d b s e) none done, own, waits i.run)
            | inr due ↦ absurd (due.some own)
          ];
        },
        own,
      ),
      at_rest root t us left log (suc d) bs (before ++ s.pending) ss es none (back_nil s.pending (all_pending ss) idle) x.1,
    )
at_rest root t us left log d [] before (s ∷ ss) es none idle x = absurd x
at_rest root t us left log d [] before [] (e ∷ es) none idle x = absurd x
at_rest root t us left log d (b ∷ bs) before [] es none idle x = absurd x
at_rest root t us left log d (b ∷ bs) before (s ∷ ss) [] none idle x = absurd x

-- so many pieces come up to the last one of each part
counted_parts : (counts : List ℕ) (front : List Session) (root last : Super) (t end : Space) (n d : ℕ) (bs : List Begun) (ss uu : List Session) → counts ≡ counts_of (front ++ uu) → d ≡ length front → n ≡ length (all_pending front) → AreFlushed root t ss last end uu
    → (log : FileLog) → AreCounted log counts n (stands_of d bs (names_in ss)) uu
counted_parts counts front root last t end n d [] ss uu is number first x log = tt
counted_parts counts front root last t end n d (b ∷ bs) [] uu is number first x log = tt
counted_parts counts front root last t end n d (b ∷ bs) (s ∷ ss) [] is number first x log = absurd x
counted_parts counts front root last t end n d (b ∷ bs) (s ∷ ss) (u ∷ uu) is number first x log =
    let count : up_to d counts ≡ n + length u.pending = ap (λ (k : ℕ). up_to k counts) number ∙ ap (up_to (length front)) is ∙ up_to_own front u uu ∙ ap (λ (k : ℕ). k + length u.pending) (sym first) in
    let more : front ++ u ∷ uu ≡ (front ++ u ∷ []) ++ uu = sym (append_assoc front (u ∷ []) uu) in
    let next : suc d ≡ length (front ++ u ∷ []) = let k = length_push front u in omega (arith, number, k) in
    let both : n + length u.pending ≡ length (all_pending (front ++ u ∷ [])) =
    ap (λ (k : ℕ). k + length u.pending) first ∙ sym (length-append (all_pending front) u.pending) ∙ ap (λ (ws : List Write). length (all_pending front ++ ws)) (sym (append-nil u.pending)) ∙ ap length (sym (pending_joined front (u ∷ []))) in (
      count,
      elim x [
        | inl none ↦ counted_parts counts (front ++ u ∷ []) root last t end (n + length u.pending) (suc d) bs ss uu (is ∙ ap counts_of more) next both none.2 log
        | inr turn ↦ counted_parts counts (front ++ u ∷ []) turn.0.root last turn.0.places end (n + length u.pending) (suc d) bs ss uu (is ∙ ap counts_of more) next both turn.3 log
      ],
    )

pub flushes_stand : PartLaws → (old new : Sessions) (log : FileLog) → StandsOn old log → all_pending old.parts ≡ [] → FlushesAll old new → StandsOn new (and_then (plans_each (counts_of new.parts)) log)
flushes_stand p old new log st idle x =
    let left = all_pending old.parts in
    let total = all_pending new.parts in
    let us = st.ranges in
    let rest = at_rest old.root old.places us left log 0 log.sets [] old.parts st.entries idle idle st.parts in
    let known = subst (λ (ws : List Write). AreKnown (last_image log ws) old.places old.root us st.entries) idle st.known in
    let f = folded p log us st.blocks old.root new.root old.places new.places log.sets old.parts new.parts st.entries known st.off rest (record { ends = st.fits; low = st.low }) x.parts in
    let same : most_in new.places log ≡ most_in old.places log = ap (λ (n : ℕ). let y : Space = record (new.places) { limit = n } in most_in y log) f.stretch.limit in
    let before = ends_front (most_in old.places log) (pieces_in log.events) left st.ends in
    let names = names_of st.entries in
    let named = out_names new.root new.places us total log 0 log.sets [] new.parts f.es f.rest ∙ flushed_names old.root old.places old.parts new.root new.places new.parts x.parts
    ∙ sym (standing_names old.root old.places us left log 0 log.sets [] old.parts st.entries st.parts) in
    let none : pieces_in log.events ++ left ≡ pieces_in log.events = ap (λ (ws : List Write). pieces_in log.events ++ ws) idle ∙ append-nil (pieces_in log.events) in
    let stays = flush_valid p log us st.blocks old.root new.root old.places new.places log.sets old.parts new.parts st.entries known st.off rest (record { ends = st.fits; low = st.low }) x.parts in
    record {
      ranges = us;
      entries = f.es;
      known = f.state.known;
      off = f.state.off;
      blocks = st.blocks;
      parts = stand_parts new.root new.places us total log (counts_of new.parts) [] 0 log.sets [] new.parts f.es refl refl refl refl f.rest;
      fits = omega (arith, f.stretch.fits, same);
      low = omega (arith, st.low, f.stretch.limit);
      ends = subst (λ (n : ℕ). AllEndBy n (pieces_in log.events ++ total)) (sym same) (ends_joined (most_in old.places log) (pieces_in log.events) total before f.stretch.ends);
      going = ap (λ (y : Sessions). y.stopped) x.session ∙ st.going;
      valid = subst (λ (ns : List (List ℕ)). AreValidFrom log.first log.start ns (pieces_in log.events ++ total)) (sym named)
          (valid_more log.first log.start names (pieces_in log.events) total (subst (λ (ws : List Write). AreValidFrom log.first log.start names ws) none st.valid)
          (subst (λ (ws : List Write). StaysValid (image log.start ws) names total) (append-nil (pieces_in log.events)) stays));
      course = subst (λ (ns : List (List ℕ)). AreThrough (and_then (plans_each (counts_of new.parts)) log) (stands_of 0 log.sets ns) total) (sym (named ∙ standing_names old.root old.places us left log 0 log.sets [] old.parts st.entries st.parts))
          (flush_course p log us st.blocks (counts_of new.parts) old.root new.root old.places new.places log.sets old.parts new.parts st.entries known st.off rest (record { ends = st.fits; low = st.low }) x.parts
          (counted_parts (counts_of new.parts) [] old.root new.root old.places new.places 0 0 log.sets old.parts new.parts refl refl refl x.parts log));
    }
