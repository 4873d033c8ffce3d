-- One part of a flush of several datasets, for the dataset that is flushed and for the others.
use Rattle.std.proofs.Common.{◌+◌, ◌≡◌, ℤ, ◌*◌, ◌/◌, ◌≢◌, ◌⊎◌, ℕ, ◌≤◌, max, true, false, List, [], ◌∷◌, ◌++◌, length, refl, sym, ◌∙◌, ap, subst, inl, inr, arith, append-nil, append_assoc}
use Rattle.std.specs.Prelude.{map, nat_lt}
use Rattle.std.proofs.lemmas.Bool.{cond-false, le-ltb}
use Rattle.h5w_model.specs.Images.{image}
use Rattle.h5w_model.specs.Findings.{Used}
use Rattle.h5w_model.specs.Logs.{Cutting, Log, and_now, appended, flushed, flushed_in, hist, load, plans, touched_chunks}
use Rattle.h5w_model.specs.Several.{Begun, FileLog, log_of, pieces_in}
use Rattle.h5w_model.specs.Prefixed.{PrefixedEach}
use Rattle.h5w_model.specs.declared.cell.Key.{Key}
use Rattle.h5w_model.specs.declared.piece.Write.{Write}
use Rattle.h5w_model.specs.declared.root.Super.{Super}
use Rattle.h5w_model.proofs.ImageLemmas.{image-append}
use Rattle.std.proofs.lemmas.List.{length_push}
use Rattle.h5w_step_laws.specs.Files.{commit_at}
use Rattle.h5w_step_laws.specs.Ranges.{Among, AllAmong, AreApart}
use Rattle.h5w_step_laws.proofs.RangeLemmas.{among_left, among_right, among_split}
use Rattle.h5w_space.specs.Space.{Space}
use Rattle.h5w_step_laws.specs.Moments.{Moment, Represents, reading_of}
use Rattle.h5w_step_laws.specs.Steps.{OffAll}
use Rattle.h5w_step_laws.specs.Logs.{image_now}
use Rattle.h5w_step_laws.specs.Plans.{Flush, Plan}
use Rattle.h5w_step_laws.specs.Sessions.{Runs}
use Rattle.h5w_step_laws.proofs.MomentLemmas.{in_root}
use Rattle.h5w_step_laws.proofs.PlanLaws.{plans_join}
use Rattle.h5w_flush_laws.specs.Spaces.{AllLive}
use Rattle.h5w_flush_laws.specs.Knowledge.{HeldMissed, Holding}
use Rattle.h5w_flush_laws.specs.Parts.{IsFlush, Parts, early_of, flushed_to, pieces_of}
use Rattle.h5w_flush_laws.proofs.FlushLaws.{flush_safe}
use Rattle.h5w_several_laws.specs.Beside.{own_of, whole_of, with_root}
use Rattle.h5w_several_laws.specs.Dues.{Waits}
use Rattle.h5w_several_laws.specs.Turns.{AreKnown, AreOff, ArePlans, Entry, IsOff, IsOne, IsTurn, all_then, flushed as flushed_entry, helds, owns, part_of, super_then, then_as, told}
use Rattle.h5w_several_laws.specs.Between.{IsBetween}
use Rattle.h5w_several_laws.proofs.BetweenLemmas.{turn_between}
use Rattle.h5w_several_laws.proofs.TurnLemmas.{from_whole, told_file, told_holding, told_live, turn_known}
use Rattle.h5w_several_laws.proofs.FoldLemmas.{State, across_head, across_tail, all_off, known_append, off_append, split_known, split_plans, turned}
use Rattle.h5w_writer.specs.Loads.{first_end_of}
use Rattle.h5w_writer.specs.Past.{AllAddressed, most_of}
use Rattle.h5w_writer.specs.Sessions.{AllEndBy, Session, cutting_of}
use Rattle.h5w_writer.specs.Stands.{Running}
use Rattle.h5w_writer.specs.Starts.{HasFlushed}
use Rattle.h5w_writer.specs.Told.{moved_to, told_log, told_of}
use Rattle.h5w_writer.proofs.StandLemmas.{resting}
use Rattle.h5w_writer.specs.PartLaws.{ArePassed, IsPartFlushed, PartLaws, RunsAs, rooted}
use Rattle.h5w_several_writer_laws.specs.Began.{IsAmple, began_end}
use Rattle.h5w_several_writer_laws.specs.Seen.{IsOwn}
use Rattle.h5w_several_writer_laws.specs.Standing.{HasPast, IsDone, IsOwed, last_image, most_in, rested}
use Rattle.h5w_several_writer_laws.proofs.AddressedLemmas.{flush_addressed}
use Rattle.h5w_several_writer_laws.proofs.PassedLemmas.{ArePassedBy, IsPassedBy, all_passed, passed_joined}
use Rattle.h5w_several_writer_laws.proofs.RunLemmas.{HasPlanned, more_waits, none_waits, sight_image}
use Rattle.h5w_several_writer_laws.proofs.SightLemmas.{IsSettled, seen_told}

-- ---- Images and bounds

pub last_joined : (log : FileLog) (ws vs : List Write) → last_image log (ws ++ vs) ≡ image (last_image log ws) vs
last_joined log ws vs = ap (image log.start) (sym (append_assoc (pieces_in log.events) ws vs)) ∙ image-append log.start (pieces_in log.events ++ ws) vs

pub own_image : {limit : ℕ} (log : FileLog) (d : ℕ) (b : Begun) (l : Log) (later : List Write) → IsOwn limit log d b l later → image_now l ≡ last_image log later
own_image log d b l later s = ap (λ (st : List ℕ). image st (hist l.events)) s.start ∙ sym (image-append log.start s.lead (hist l.events)) ∙ ap (image log.start) s.pieces

pub ends_back : (end : ℕ) (ws vs : List Write) → AllEndBy end (ws ++ vs) → AllEndBy end vs
ends_back end [] vs all = all
ends_back end (w ∷ ws) vs all = ends_back end ws vs all.1

pub own_most : (log : FileLog) (d : ℕ) (b : Begun) (l : Log) (later : List Write) (t : Space) (s : Session) → IsOwn t.limit log d b l later → s.places.limit ≡ t.limit → most_of s l ≡ most_in t log
own_most log d b l later t s seen limit = ap (λ (n : ℕ). max n (first_end_of l)) limit ∙ seen.most

-- what is bound by the loads of both logs is the same
pub own_load : {limit : ℕ} (log : FileLog) (d : ℕ) (b : Begun) (l : Log) (later : List Write) (c : Cutting) → IsOwn limit log d b l later → load c l ≡ load c (log_of d b log)
own_load log d b l later c s =
    let rows : List ℤ → List ℤ → ℕ = λ vs ws. 1000 + touched_chunks c (length vs / c.columns) (length ws / c.columns) * (c.chunk_rows * c.chunk_columns * c.value_size + 20000) in
    ap (λ (vs : List ℤ). rows vs (appended l)) s.now ∙ ap (rows (flushed (log_of d b log))) s.appended

-- at rest no flush is under way
pub settled_runs : (name : List ℕ) (log : Log) (n : Moment) (after : List Used) → Runs name log [] n after → IsSettled log
settled_runs name log n after r k = each k ∙ sym (each 0)
  where
    each : (j : ℕ) → flushed_in j log.values log.events ≡ n.values
    each j = r.flushed j ∙ cond-false (nat_lt j 0) r.before.values n.values (le-ltb j 0 (omega arith))

-- ---- What is known of a part

abbrev pub entry : List ℕ → Moment → (Key → ℕ) → List Used → Entry
entry name m a held = record { name = name; moment = m; address = a; held = held }

-- it is what its running says
pub entry_is : (name : List ℕ) (e : Entry) (s : Session) (left : List Write) (l : Log) (t : Space) → e.name ≡ name → (x : RunsAs s left l e.moment e.address e.held t) → e ≡ entry name x.running.after x.running.address x.running.held
entry_is name e s left l t same x =
    ap (λ (n : List ℕ). entry n e.moment e.address e.held) same
    ∙ ap (λ (m : Moment). entry name m e.address e.held) (sym x.after)
    ∙ ap (λ (a : Key → ℕ). entry name x.running.after a e.held) (sym x.address_is)
    ∙ ap (λ (us : List Used). entry name x.running.after x.running.address us) (sym x.held_is)

-- what readers of one may hold is off what others have
held_off : (e : Entry) (os : List Entry) → IsOff e os → OffAll e.held (owns os)
held_off e [] off u v a b = absurd b
held_off e (o ∷ os) off u v a b = elim (among_split v (own_of o.moment) (owns os) b) [
  | inl c ↦ off.0.other u v a c
  | inr c ↦ held_off e os off.1 u v a c
]

-- ---- What a flush leaves of a part

pub flushed_named : (s n : Session) → HasFlushed s n → n.name ≡ s.name
flushed_named s n (inl x) = ap (λ (y : Session). y.name) x.session
flushed_named s n (inr x) = ap (λ (y : Session). y.name) x.session

pub flushed_flag : (s n : Session) → HasFlushed s n → n.flushing ≡ true
flushed_flag s n (inl x) = ap (λ (y : Session). y.flushing) x.session
flushed_flag s n (inr x) = ap (λ (y : Session). y.flushing) x.session

-- none waits, none was written early, and it goes on where it did
pub flushed_none : (s n : Session) → HasFlushed s n → (n.waits ≡ 0) × (n.early ≡ 0) × (n.stopped ≡ s.stopped)
flushed_none s n (inl x) = (ap (λ (y : Session). y.waits) x.session, ap (λ (y : Session). y.early) x.session, ap (λ (y : Session). y.stopped) x.session)
flushed_none s n (inr x) = (ap (λ (y : Session). y.waits) x.session, ap (λ (y : Session). y.early) x.session, ap (λ (y : Session). y.stopped) x.session)

-- ---- A part over a flush that is being planned

-- its dataset's number and values, the pieces planned before its own, and the part
pub record Seat : Type 0 where
  pub number : ℕ
  pub begun : Begun
  pub before : List Write
  pub part : Session

-- its pieces are planned, and some behind them
pub record IsPlannedPart (root : Super) (t : Space) (us : List Used) (all : List Write) (log : FileLog) (seat : Seat) (e : Entry) : Type 0 where
  pub some : seat.part.pending ≢ []
  pub flushing : seat.part.flushing ≡ true
  pub own : Log
  pub seen : IsOwn t.limit log seat.number seat.begun own seat.before
  pub settled : IsSettled own
  pub limit : t.limit ≡ seat.part.places.limit
  pub moment : Moment
  pub runs : RunsAs seat.part seat.part.pending (and_now (plans (length seat.part.pending)) own) moment e.address e.held seat.part.places
  pub among : (u : Used) → Among u us → Among u moment.root
  pub moment_is : e.moment ≡ moved_to root (with_root us moment)
  pub behind : List Write
  pub cut : all ≡ (seat.before ++ seat.part.pending) ++ behind
  pub whole : HasPlanned seat.part.name (log_of seat.number seat.begun log) seat.before seat.part.pending behind e
  pub owed : IsOwed (image (image_now own) seat.part.pending) seat.part.name (with_root us moment) e.held behind root

pub record IsIn (root : Super) (t : Space) (us : List Used) (all : List Write) (log : FileLog) (seat : Seat) (e : Entry) : Type 0 where
  pub name : e.name ≡ seat.part.name
  pub early : seat.part.early ≡ 0
  pub going : seat.part.stopped ≡ false
  pub each : PrefixedEach seat.part.name (log_of seat.number seat.begun log)
  pub past : HasPast log seat.begun e
  pub phase : (IsDone root t all log seat.number seat.begun seat.part e × (seat.part.pending ≡ []) × Waits seat.part.name (log_of seat.number seat.begun log) all e.moment e.held) ⊎ IsPlannedPart root t us all log seat e

abbrev pub AllIn : Super → Space → List Used → List Write → FileLog → List Seat → List Entry → Type 0
AllIn root t us all log [] [] = Unit {0}
AllIn root t us all log (x ∷ xs) (e ∷ es) = IsIn root t us all log x e × AllIn root t us all log xs es
AllIn root t us all log [] (e ∷ es) = ⊥
AllIn root t us all log (x ∷ xs) [] = ⊥

-- what a part of the flush leaves of the file's bounds
pub record Stretches (t u : Space) (log : FileLog) (ws : List Write) : Type 0 where
  pub limit : u.limit ≡ t.limit
  pub fits : u.end ≤ most_in t log
  pub ends : AllEndBy (most_in t log) ws
  pub low : IsAmple t log

-- the end is within the file's bounds
pub record IsWithin (t : Space) (log : FileLog) : Type 0 where
  pub ends : t.end ≤ most_in t log
  pub low : IsAmple t log

-- so it is of what a part of the flush leaves
pub within_then : (t u : Space) (log : FileLog) (ws : List Write) → Stretches t u log ws → IsWithin u log
within_then t u log ws x = record {
  ends = omega (arith, x.fits, ap (λ (n : ℕ). max n (began_end log)) x.limit);
  low = omega (arith, x.low, x.limit);
}

module _ (p : PartLaws) (log : FileLog) (us : List Used) where
  -- ---- A dataset that is passed by

  pub step_done : (img : List ℕ) (ws all : List Write) (root to : Super) (t u : Space) (d : ℕ) (b : Begun) (s : Session) (e : Entry) → img ≡ last_image log all → IsPassedBy img ws to u us e → e.name ≡ s.name → s.early ≡ 0 → Stretches t u log ws
      → IsDone root t all log d b s e → IsDone to u (all ++ ws) log d b s (then_as to e)
  step_done img ws all root to t u d b s e is by name early stretch x =
      let r = x.runs.running in
      let at = rested root t s in
      let o : Entry = entry s.name r.after r.address r.held in
      let same : e ≡ o = entry_is s.name e at [] x.own t name x.runs in
      let here : img ≡ image_now x.own = is ∙ sym (own_image log d b x.own all x.seen) in
      let most : most_of at x.own ≡ most_in t log = own_most log d b x.own all t at x.seen refl in
      let known = subst (λ (i : List ℕ). IsPassedBy i ws to u us o) here (subst (λ (y : Entry). IsPassedBy img ws to u us y) same by) in
      let told = p.passed at x.own r ws to u early known.plan known.one.knows known.one.held_is known.passed stretch.limit (omega (arith, stretch.fits, most)) (subst (λ (n : ℕ). AllEndBy n ws) (sym most) stretch.ends) in
      let next = p.told at x.own r ws to u told.0 in
      let runs = subst (λ (q : Space). RunsAs (rested to u s) [] (told_log next.0 ws x.own) (moved_to to r.after) r.address r.held q) told.1 next.1 in
      record {
        calm = x.calm;
        own = told_log next.0 ws x.own;
        seen = subst (λ (n : ℕ). IsOwn n log d b (told_log next.0 ws x.own) (all ++ ws)) (sym stretch.limit) (seen_told log d b x.own all x.seen (settled_runs s.name x.own r.after r.held r.runs) next.0 ws);
        runs = subst (λ (y : Entry). RunsAs (rested to u s) [] (told_log next.0 ws x.own) (moved_to to y.moment) y.address y.held u) (sym same) runs;
      }

  step_planned : (img : List ℕ) (ws all : List Write) (root to : Super) (t u : Space) (seat : Seat) (e : Entry) → img ≡ last_image log all → IsPassedBy img ws to u us e → e.name ≡ seat.part.name → Stretches t u log ws
      → IsPlannedPart root t us all log seat e → IsPlannedPart to u us (all ++ ws) log seat (then_as to e)
  step_planned img ws all root to t u seat e is by name stretch x =
      let first = image (image_now x.own) seat.part.pending in
      let m = with_root us x.moment in
      let before = ap (λ (i : List ℕ). image (image i seat.part.pending) x.behind) (own_image log seat.number seat.begun x.own seat.before x.seen) in
      let here : img ≡ image first x.behind =
      is ∙ ap (last_image log) x.cut ∙ last_joined log (seat.before ++ seat.part.pending) x.behind ∙ ap (λ (i : List ℕ). image i x.behind) (last_joined log seat.before seat.part.pending) ∙ sym before in
      let sight : Log = log_of seat.number seat.begun log in
      let own : List Write = seat.before ++ seat.part.pending in
      let seen_here : img ≡ image (image (image_now sight) own) x.behind =
      is ∙ ap (last_image log) x.cut ∙ sym (sight_image log seat.number seat.begun (own ++ x.behind)) ∙ image-append (image_now sight) own x.behind in
      let plan = subst (λ (i : List ℕ). Plan i (moved_to root m) e.held ws (moved_to to m) e.held) here (subst (λ (y : Moment). Plan img y e.held ws (moved_to to y) e.held) x.moment_is by.plan) in
      let passed = subst (λ (i : List ℕ). ArePassed i seat.part.name (moved_to root m) ws) here (subst (λ (y : Moment). ArePassed img seat.part.name y ws) x.moment_is (subst (λ (n : List ℕ). ArePassed img n e.moment ws) name by.passed)) in
      record {
        some = x.some;
        flushing = x.flushing;
        own = x.own;
        seen = subst (λ (n : ℕ). IsOwn n log seat.number seat.begun x.own seat.before) (sym stretch.limit) x.seen;
        settled = x.settled;
        limit = stretch.limit ∙ x.limit;
        moment = x.moment;
        runs = x.runs;
        among = x.among;
        moment_is = ap (moved_to to) x.moment_is;
        behind = x.behind ++ ws;
        cut = ap (λ (vs : List Write). vs ++ ws) x.cut ∙ append_assoc (seat.before ++ seat.part.pending) x.behind ws;
        whole = record {
          moment = x.whole.moment;
          held = x.whole.held;
          waits = x.whole.waits;
          middle = x.whole.middle;
          now = x.whole.now;
          flush = x.whole.flush;
          values = x.whole.values;
          plan = plans_join (image (image_now sight) own) x.whole.middle e.moment (moved_to to e.moment) x.whole.now e.held e.held x.behind ws x.whole.plan (subst (λ (i : List ℕ). Plan i e.moment e.held ws (moved_to to e.moment) e.held) seen_here by.plan);
        };
        owed = record {
          file = x.owed.file;
          plan = plans_join first m (moved_to root m) (moved_to to m) e.held e.held e.held x.behind ws x.owed.plan plan;
          passed = passed_joined first seat.part.name m root x.behind ws x.owed.passed passed;
        };
      }

  pub step_in : (img : List ℕ) (ws all : List Write) (root to : Super) (t u : Space) (seat : Seat) (e : Entry) → img ≡ last_image log all → IsPassedBy img ws to u us e → Stretches t u log ws → IsIn root t us all log seat e
      → IsIn to u us (all ++ ws) log seat (then_as to e)
  step_in img ws all root to t u seat e is by stretch x = record {
    name = x.name;
    early = x.early;
    going = x.going;
    each = x.each;
    past = record { raised = x.past.raised; addressed = x.past.addressed; next = x.past.next };
    phase = elim x.phase [
      | inl done ↦
          let sight : Log = log_of seat.number seat.begun log in
          let here : img ≡ image (image_now sight) all = is ∙ sym (sight_image log seat.number seat.begun all) in
          inl (
            step_done img ws all root to t u seat.number seat.begun seat.part e is by x.name x.early stretch done.0,
            done.1,
            more_waits seat.part.name sight all ws e.moment (moved_to to e.moment) e.held e.held done.2 (subst (λ (i : List ℕ). Plan i e.moment e.held ws (moved_to to e.moment) e.held) here by.plan),
          )
      | inr planned ↦ inr (step_planned img ws all root to t u seat e is by x.name stretch planned)
    ];
  }

  pub step_all : (img : List ℕ) (ws all : List Write) (root to : Super) (t u : Space) (seats : List Seat) (es : List Entry) → img ≡ last_image log all → ArePassedBy img ws to u us es → Stretches t u log ws → AllIn root t us all log seats es
      → AllIn to u us (all ++ ws) log seats (all_then to es)
  step_all img ws all root to t u [] [] is by stretch x = tt
  step_all img ws all root to t u (s ∷ seats) (e ∷ es) is by stretch x = (step_in img ws all root to t u s e is by.0 stretch x.0, step_all img ws all root to t u seats es is by.1 stretch x.1)
  step_all img ws all root to t u [] (e ∷ es) is by stretch x = absurd x
  step_all img ws all root to t u (s ∷ seats) [] is by stretch x = absurd x

  -- ---- The dataset that is flushed

  pub record IsTurned (img : List ℕ) (root : Super) (t : Space) (all : List Write) (d : ℕ) (b : Begun) (ds : List Entry) (e : Entry) (es : List Entry) (s n : Session) : Type 0 where
    pub parts : Parts
    pub planned : IsPlannedPart n.root n.places us (all ++ n.pending) log (record { number = d; begun = b; before = all; part = n }) (flushed_entry e parts)
    pub state : State (image img n.pending) n.places n.root us (flushed_entry e parts ∷ all_then n.root ds) (all_then n.root es)
    pub done : ArePassedBy img n.pending n.root n.places us ds
    pub rest : ArePassedBy img n.pending n.root n.places us es
    pub stretch : Stretches t n.places log n.pending
    pub few : length n.pending ≤ load (cutting_of s) (log_of d b log)
    pub raised : n.places.end ≤ t.end + load (cutting_of s) (log_of d b log)
    -- as it was planned, over the file that was told of the others
    pub file : Represents img e.name (told e.moment (ds ++ es))
    pub held : List Used
    pub flush : Flush img (told e.moment (ds ++ es)) held n.pending (flushed_to (told e.moment (ds ++ es)) parts) parts.behind
    pub others : AreKnown img t e.moment.super e.moment.root (ds ++ es)
    pub apart : AreOff (ds ++ es)
    -- and in its middle
    pub past : HasPast log b e → HasPast log b (flushed_entry e parts)
    pub between : (ws vs : List Write) → ws ++ vs ≡ n.pending → IsBetween img e (ds ++ es) parts ws vs

  module _ (img : List ℕ) (root : Super) (t : Space) (all : List Write) (d : ℕ) (b : Begun) (ds : List Entry) (e : Entry) (es : List Entry) (s n : Session) (is : img ≡ last_image log all) (st : State img t root us ds (e ∷ es))
      (blocks : (u : Used) → Among u us → u.chunk ≡ false) (x : IsDone root t all log d b s e) (name : e.name ≡ s.name) (idle : s.pending ≡ []) (going : s.stopped ≡ false) (flushes : HasFlushed (told_of s root t) n) (bounded : AllEndBy n.places.end n.pending) (low : IsAmple t log)
      (waits : Waits s.name (log_of d b log) all e.moment e.held) where
    abbrev os : List Entry
    os = ds ++ es

    abbrev wholes : List Used
    wholes = map whole_of (owns os)

    abbrev ranges : List Used
    ranges = e.moment.root ++ wholes

    abbrev at : Session
    at = rested root t s

    one : IsOne img t root us e
    one = st.known.0

    own_one : IsOne img t e.moment.super e.moment.root e
    own_one = record { knows = one.knows; super_is = refl; root_is = refl; held_is = one.held_is; cols = one.cols }

    others : AreKnown img t e.moment.super e.moment.root os
    others = subst (λ (q : Super). AreKnown img t q e.moment.root os) (sym one.super_is) (subst (λ (vs : List Used). AreKnown img t root vs os) (sym one.root_is) (known_append img t root us ds es st.passed st.known.1))

    off : IsOff e os
    off = off_append e ds es (across_head ds e es st.across) st.off.0

    apart : AreOff os
    apart = all_off ds es st.apart st.off.1 (across_tail ds e es st.across)

    here : img ≡ image_now x.own
    here = is ∙ sym (own_image log d b x.own all x.seen)

    file : Represents img e.name (told e.moment os)
    file = told_file img e os t own_one others off apart

    -- the part is told of what the others have
    held_apart : OffAll x.runs.running.held ranges
    held_apart u v a c =
        let r = x.runs.running in
        let goes = resting s.name x.own r.after r.held r.runs in
        let held : Among u e.held = subst (λ (vs : List Used). Among u vs) x.runs.held_is a in
        elim (among_split v e.moment.root wholes c) [
          | inl own ↦
              let root_of : Among v r.after.root = subst (λ (m : Moment). Among v m.root) (sym x.runs.after) own in
              goes.off_front u v a (inr (among_left v r.after.root (r.after.header ++ r.after.fixed) root_of))
          | inr other ↦
              let w = from_whole (owns os) v other in
              subst (λ (y : Used). AreApart u y) w.2 (held_off e os off u w.0 held w.1)
        ]

    telling : RunsAs at [] x.own (rooted ranges x.runs.running.after) x.runs.running.address x.runs.running.held x.runs.running.rest
    telling =
        let r = x.runs.running in
        let named = subst (λ (i : List ℕ). Represents i s.name (told e.moment os)) here (subst (λ (k : List ℕ). Represents img k (told e.moment os)) name file) in
        let live : AllLive t ranges = λ u a. told_live img e os t own_one others off apart u (in_root (told e.moment os) u a) in
        p.others at x.own r ranges
        (subst (λ (m : Moment). Represents (image_now x.own) s.name (rooted ranges m)) (sym x.runs.after) named)
        held_apart
        (subst (λ (y : Space). AllLive y ranges) (sym x.runs.rest_is) live)

    abbrev q : Running at [] x.own
    q = telling.running

    after : q.after ≡ told e.moment os
    after = telling.after ∙ ap (rooted ranges) x.runs.after

    address : ◌≡◌ {A = Key → ℕ} q.address e.address
    address = telling.address_is ∙ x.runs.address_is

    held : q.held ≡ e.held
    held = telling.held_is ∙ x.runs.held_is

    rest : q.rest ≡ t
    rest = telling.rest_is ∙ x.runs.rest_is

    same_part : told_of s root t ≡ at
    same_part = ap (λ (ws : List Write). let y : Session = record s { root = root; places = t; pending = ws } in y) idle

    from_at : HasFlushed at n
    from_at = subst (λ (y : Session). HasFlushed y n) same_part flushes

    f : IsPartFlushed at n x.own q
    f = p.flush at n x.own from_at going refl bounded q

    planned_flush : IsFlush img (told e.moment os) e.address t f.parts n.places
    planned_flush =
        subst (λ (i : List ℕ). IsFlush i (told e.moment os) e.address t f.parts n.places) (sym here)
        (subst (λ (y : Space). IsFlush (image_now x.own) (told e.moment os) e.address y f.parts n.places) rest
        (subst (λ (a : Key → ℕ). IsFlush (image_now x.own) (told e.moment os) a q.rest f.parts n.places) address
        (subst (λ (m : Moment). IsFlush (image_now x.own) m q.address q.rest f.parts n.places) after f.flush)))

    missed : HeldMissed (e.held ++ helds os) f.parts.writes
    missed =
        let holding : Holding (told e.moment os) t (own_one.knows.held ++ helds os) = told_holding img e os t own_one others off apart in
        let own = subst (λ (vs : List Used). Holding (told e.moment os) t (vs ++ helds os)) own_one.held_is holding in
        f.missed (e.held ++ helds os) (subst (λ (m : Moment). Holding m q.rest (e.held ++ helds os)) (sym after) (subst (λ (y : Space). Holding (told e.moment os) y (e.held ++ helds os)) (sym rest) own))

    turn : IsTurn img e os f.parts n.places
    turn = turn_known img e os f.parts t n.places own_one others off apart (λ u a. blocks u (subst (λ (vs : List Used). Among u vs) one.root_is a)) planned_flush missed

    pieces : part_of img e f.parts ≡ n.pending
    pieces =
        ap (λ (i : List ℕ). pieces_of i e.moment f.parts) here ∙ ap (λ (m : Moment). pieces_of (image_now x.own) m f.parts) (sym after) ∙ f.pieces

    to_is : super_then e f.parts ≡ n.root
    to_is = ap (λ (m : Moment). (flushed_to m f.parts).super) (sym after) ∙ ap (λ (m : Moment). m.super) (sym f.runs.after) ∙ f.runs.running.keeps.root

    abbrev next : Entry
    next = flushed_entry e f.parts

    state : State (image img n.pending) n.places n.root us (next ∷ all_then n.root ds) (all_then n.root es)
    state =
        subst (λ (y : Super). State (image img n.pending) n.places y us (next ∷ all_then y ds) (all_then y es)) to_is
        (subst (λ (ws : List Write). State (image img ws) n.places (super_then e f.parts) us (next ∷ all_then (super_then e f.parts) ds) (all_then (super_then e f.parts) es)) pieces
        (turned img t root us ds e es f.parts n.places st turn))

    told_flush : Flush img (told e.moment os) q.knows.held n.pending (flushed_to (told e.moment os) f.parts) f.parts.behind
    told_flush =
        let safe = flush_safe (image_now x.own) s.name q.after q.address q.rest n.places f.parts q.knows f.flush (f.missed q.knows.held q.knows.holding) in
        let named = subst (λ (ws : List Write). Flush (image_now x.own) q.after q.knows.held ws (flushed_to q.after f.parts) f.parts.behind) f.pieces safe in
        subst (λ (i : List ℕ). Flush i (told e.moment os) q.knows.held n.pending (flushed_to (told e.moment os) f.parts) f.parts.behind) (sym here)
        (subst (λ (m : Moment). Flush (image_now x.own) m q.knows.held n.pending (flushed_to m f.parts) f.parts.behind) after named)

    passes : (xs : List Entry) → AllAmong (owns xs) (owns os) → AreKnown img t root us xs → ArePlans img n.pending n.root xs → AreKnown (image img n.pending) n.places n.root us (all_then n.root xs) → ArePassedBy img n.pending n.root n.places us xs
    passes xs inside known planning then = all_passed img e.name e.moment (flushed_to (told e.moment os) f.parts) q.knows.held f.parts.behind n.pending n.root t n.places root us os file told_flush one.super_is one.root_is xs inside known planning then

    plans_of : ArePlans img n.pending n.root os
    plans_of = subst (λ (y : Super). ArePlans img n.pending y os) to_is (subst (λ (ws : List Write). ArePlans img ws (super_then e f.parts) os) pieces turn.plans)

    owns_front : (xs ys : List Entry) → AllAmong (owns xs) (owns (xs ++ ys))
    owns_front [] ys u a = absurd a
    owns_front (y ∷ xs) ys u a = elim (among_split u (own_of y.moment) (owns xs) a) [
      | inl c ↦ among_left u (own_of y.moment) (owns (xs ++ ys)) c
      | inr c ↦ among_right u (own_of y.moment) (owns (xs ++ ys)) (owns_front xs ys u c)
    ]

    owns_back : (xs ys : List Entry) → AllAmong (owns ys) (owns (xs ++ ys))
    owns_back [] ys u a = a
    owns_back (y ∷ xs) ys u a = among_right u (own_of y.moment) (owns (xs ++ ys)) (owns_back xs ys u a)

    -- ---- What the file's bounds become

    stretch : Stretches t n.places log n.pending
    stretch =
        let past = f.runs.running.past in
        let limit = f.raised.limit in
        let most : most_of n (and_now (plans (length n.pending)) x.own) ≡ most_in t log = own_most log d b x.own all t n x.seen limit in
        record {
          limit = limit;
          fits = omega (arith, past.fits, most);
          ends = subst (λ (k : ℕ). AllEndBy k n.pending) most (ends_back (most_of n (and_now (plans (length n.pending)) x.own)) (hist x.own.events) n.pending past.ends);
          low = low;
        }

    -- ---- The part as it was planned

    abbrev moment : Moment
    moment = flushed_to (told e.moment os) f.parts

    shown_image : image img n.pending ≡ image (image_now x.own) n.pending
    shown_image = ap (λ (i : List ℕ). image i n.pending) here

    moment_is : next.moment ≡ moved_to n.root (with_root us moment)
    moment_is =
        ap (λ (vs : List Used). with_root vs (flushed_to e.moment f.parts)) one.root_is
        ∙ ap (λ (y : Super). moved_to y (with_root us (flushed_to e.moment f.parts))) to_is

    own_moment : with_root us moment ≡ next.moment
    own_moment = ap (λ (vs : List Used). with_root vs (flushed_to e.moment f.parts)) (sym one.root_is)

    flushed_name : n.name ≡ s.name
    flushed_name = flushed_named (told_of s root t) n flushes

    known_file : Represents (image (image_now x.own) n.pending) n.name (with_root us moment)
    known_file =
        let own = subst (λ (ws : List Write). Represents (image img ws) e.name next.moment) pieces turn.one.knows.file in
        subst (λ (i : List ℕ). Represents i n.name (with_root us moment)) shown_image
        (subst (λ (k : List ℕ). Represents (image img n.pending) k (with_root us moment)) (name ∙ sym flushed_name)
        (subst (λ (m : Moment). Represents (image img n.pending) e.name m) (sym own_moment) own))

    -- what the dataset sees of it
    whole : HasPlanned n.name (log_of d b log) all n.pending [] next
    whole =
        let there : img ≡ image (image_now (log_of d b log)) all = is ∙ sym (sight_image log d b all) in
        let own = subst (λ (ws : List Write). Flush img e.moment e.held ws next.moment f.parts.behind) pieces turn.flush in
        let none : n.waits ≡ 0 = (flushed_none (told_of s root t) n flushes).0 in
        record {
          moment = e.moment;
          held = e.held;
          waits = subst (λ (k : List ℕ). Waits k (log_of d b log) all e.moment e.held) (sym flushed_name) waits;
          middle = next.moment;
          now = f.parts.behind;
          flush = subst (λ (i : List ℕ). Flush i e.moment e.held n.pending next.moment f.parts.behind) there own;
          values = ap (λ (m : Moment). (flushed_to m f.parts).values) (sym after) ∙ ap (λ (m : Moment). m.values) (sym f.runs.after) ∙ none_waits n n.pending (and_now (plans (length n.pending)) x.own) f.runs.running none ∙ x.seen.appended;
          plan = (refl, refl);
        }

    -- each chunk that is needed then has an address, where each had one
    past_then : HasPast log b e → HasPast log b next
    past_then y = record {
      raised = y.raised;
      addressed = y.addressed;
      next = λ bare.
          let before : AllAddressed (reading_of q.after) = subst (λ (m : Moment). AllAddressed (reading_of m)) (sym after) (y.next bare) in
          let then = flush_addressed at n x.own (and_now (plans (length n.pending)) x.own) from_at q f.runs.running before in
          subst (λ (m : Moment). AllAddressed (reading_of m)) (f.runs.after ∙ ap (λ (m : Moment). flushed_to m f.parts) after) then;
    }

    planned : IsPlannedPart n.root n.places us (all ++ n.pending) log (record { number = d; begun = b; before = all; part = n }) next
    planned =
        let r = x.runs.running in
        record {
          some = λ none. let count = ap length (sym f.pieces) ∙ length_push (early_of f.parts) (commit_at (image_now x.own) q.after.place f.parts.rows f.parts.named) in omega (arith, count, ap length none);
          flushing = flushed_flag (told_of s root t) n flushes;
          own = x.own;
          seen = subst (λ (k : ℕ). IsOwn k log d b x.own all) (sym f.raised.limit) x.seen;
          settled = settled_runs s.name x.own r.after r.held r.runs;
          limit = refl;
          moment = moment;
          runs = subst (λ (m : Moment). RunsAs n n.pending (and_now (plans (length n.pending)) x.own) (flushed_to m f.parts) f.parts.address f.parts.behind n.places) after f.runs;
          among = λ u a. among_left u e.moment.root wholes (subst (λ (vs : List Used). Among u vs) (sym one.root_is) a);
          moment_is = moment_is;
          behind = [];
          cut = sym (append-nil (all ++ n.pending));
          whole = whole;
          owed = record { file = known_file; plan = (sym (own_moment ∙ moment_is), refl); passed = tt };
        }

    pub turned_part : IsTurned img root t all d b ds e es s n
    turned_part =
        let then = split_known (image img n.pending) n.places n.root us n.root ds es known_then in
        let loads = own_load log d b x.own all (cutting_of s) x.seen in
        let each = split_plans img n.pending n.root ds es plans_of in
        record {
          parts = f.parts;
          planned = planned;
          state = state;
          done = passes ds (owns_front ds es) st.passed each.one then.one;
          rest = passes es (owns_back ds es) st.known.1 each.two then.two;
          stretch = stretch;
          few = omega (arith, f.few, loads);
          raised = omega (arith, f.raised.bound, loads);
          file = file;
          held = q.knows.held;
          flush = told_flush;
          others = others;
          apart = apart;
          past = past_then;
          between = λ ws vs same. turn_between img e os f.parts t n.places ws vs own_one others off apart (λ u a. blocks u (subst (λ (vs : List Used). Among u vs) one.root_is a)) planned_flush missed (same ∙ sym pieces);
        }
      where
        known_then : AreKnown (image img n.pending) n.places n.root us (all_then n.root os)
        known_then =
            subst (λ (y : Super). AreKnown (image img n.pending) n.places y us (all_then y os)) to_is
            (subst (λ (ws : List Write). AreKnown (image img ws) n.places (super_then e f.parts) us (all_then (super_then e f.parts) os)) pieces
            (subst (λ (vs : List Used). AreKnown (image img (part_of img e f.parts)) n.places (super_then e f.parts) vs (all_then (super_then e f.parts) os)) one.root_is turn.others))
