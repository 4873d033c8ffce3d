-- A flush of several datasets.
use Rattle.std.proofs.Common.{◌≡◌, ◌⊎◌, ℕ, zero, suc, ◌+◌, ◌-◌, ◌*◌, ◌/◌, ◌<◌, ◌≤◌, cond, Bool, true, false, List, [], ◌∷◌, ◌++◌, length, map, Option, Some, None, Result, Ok, refl, sym, ◌∙◌, ap, subst, inl, inr, arith, length-append}
use Rattle.std.specs.Prelude.{nat_lt, MatchBool, slice_get, ℤ}
use Rattle.std.proofs.lemmas.Bool.{cases_lt, le-ltb, lt-ltb}
use Rattle.std.proofs.lemmas.List.{length-map}
use Rattle.std.proofs.lemmas.Option.{slice_get_within}
use Rattle.h5w_model.specs.Lawful.{Rules, ScriptState, flushes, load_of, rows_in, rows_of as script_rows}
use Rattle.h5w_model.specs.Logs.{Cutting, Log, appended, flushed, flushed_rows, load, plans, touched_chunks, and_now}
use Rattle.h5w_model.specs.Several.{Begun, FileLog, load_from, log_of, plans_each, up_to}
use Rattle.h5w_model.specs.declared.piece.Write.{Write}
use Rattle.h5w_model.specs.declared.root.Super.{Super}
use Rattle.h5w_model.specs.declared.reply.Reply.TheVariants as replies
use Rattle.h5w_space.specs.Space.{Space}
use Rattle.h5w_writer.specs.Sessions.{Session, TakesRows, cutting_of, rows_of}
use Rattle.h5w_writer.specs.Starts.{HasFlushed}
use Rattle.h5w_writer.specs.Told.{told_of}
use Rattle.h5w_writer.specs.declared.refusal.FlushError.{FlushError}
use Rattle.h5w_writer.proofs.FlushCalls.{told_rows}
use Rattle.h5w_several_writer_laws.specs.Bounds.{cuttings_of}
use Rattle.h5w_several_writer_laws.specs.Sessions.{AreFlushed, FlushesAll, Sessions, all_pending, bare, counts_of}
use Rattle.h5w_several_writer_laws.specs.Standing.{StandsAll, and_then}
use Rattle.h5w_several_writer_laws.proofs.BoundLemmas.{bounds_stand}
use Rattle.h5w_several_writer_laws.proofs.CallLemmas.{calls_stand}
use Rattle.h5w_several_writer_laws.proofs.FlushAllLemmas.{back_nil, front_nil}
use Rattle.h5w_several_writer_laws.proofs.GiveLemmas.{standing_all}
use Rattle.h5w_several_script_laws.specs.Scripts.{FileState, SetState, ArePlanned, FlushAllowedIn, IsFullIn, IsPlannedIn, asks, due, flushing_each, load_in, next_all, pending_in, planned, rows_wait, says, some_wait, total}
use Rattle.h5w_several_script_laws.specs.Polled.{Places}
use Rattle.h5w_several_script_laws.proofs.PolledLemmas.{writer_file_laws}
use Rattle.h5w_several_world_laws.specs.Worlds.{AreStatesOf, HaveOneFileLog, IsFileStateOf, IsStateOfPart, polling_in, rules_in}
use Rattle.h5w_several_world_laws.specs.Steps.{FlushStep, StepsTo}
use Rattle.h5w_several_world_laws.proofs.BeginningLemmas.{new_then}
use Rattle.h5w_several_world_laws.proofs.ShownLemmas.{part_is, some_count, total_left}
use Rattle.h5w_several_world_laws.proofs.StepLemmas.{Tells, match_no, none_left, part_there, state_at, states_length, tells_of}

-- ---- One part

-- what a flush leaves of a part, whose rows may wait or not
pub record PlansPart (s u : Session) : Type 0 where
  rules : (limit attempts : ℕ) → rules_in limit attempts u ≡ rules_in limit attempts s
  polling : (limit attempts : ℕ) → polling_in limit attempts u ≡ polling_in limit attempts s
  cut : cutting_of u ≡ cutting_of s
  committed : u.committed ≡ s.committed
  flushing : u.flushing ≡ nat_lt 0 (length u.pending)
  taken : u.flushing ≡ true → u.waits ≡ 0
  some : 0 < s.waits → 1 ≤ length u.pending
  none : s.waits ≡ 0 → length u.pending ≡ 0

-- with a last piece there is one
last_some : (a : List Write) (w : Write) → 1 ≤ length (a ++ w ∷ [])
last_some a w = omega (arith, length-append a (w ∷ []))

behind_some : (a b : List Write) → 1 ≤ length b → 1 ≤ length (a ++ b)
behind_some a b some = omega (arith, length-append a b, some)

flush_some : (ws a b c d : List Write) (w : Write) → ws ≡ a ++ (b ++ (c ++ (d ++ w ∷ []))) → 1 ≤ length ws
flush_some ws a b c d w is =
    subst (λ (vs : List Write). 1 ≤ length vs) (sym is)
    (behind_some a (b ++ (c ++ (d ++ w ∷ []))) (behind_some b (c ++ (d ++ w ∷ [])) (behind_some c (d ++ w ∷ []) (last_some d w))))

-- a flush has pieces, takes all rows, and is pending then
flush_facts : (s n : Session) → HasFlushed s n → (1 ≤ length n.pending) × (n.flushing ≡ true)
flush_facts s n (inl x) = (flush_some n.pending x.planned.rows x.planned.copies x.planned.supers x.planned.fixed _ x.pending, ap (λ (v : Session). v.flushing) x.session)
flush_facts s n (inr x) =
    let j = x.pending in
    let rest = flush_some _ x.planned.copies j.front x.planned.supers j.behind _ refl in
    (subst (λ (vs : List Write). 1 ≤ length vs) (sym j.all) (behind_some x.planned.rows _ rest), ap (λ (v : Session). v.flushing) x.session)

flush_rules : (s n : Session) (limit attempts : ℕ) → HasFlushed s n → rules_in limit attempts n ≡ rules_in limit attempts s
flush_rules s n limit attempts (inl x) = ap (rules_in limit attempts) x.session
flush_rules s n limit attempts (inr x) = ap (rules_in limit attempts) x.session

pub flush_polling : (s n : Session) (limit attempts : ℕ) → HasFlushed s n → polling_in limit attempts n ≡ polling_in limit attempts s
flush_polling s n limit attempts (inl x) = ap (polling_in limit attempts) x.session
flush_polling s n limit attempts (inr x) = ap (polling_in limit attempts) x.session

takes : (s n : Session) → HasFlushed s n → TakesRows s n
takes s n h = told_rows s n (Ok 0) h

planned_part : (s n u : Session) (root last : Super) (t end : Space) → 0 < s.waits → HasFlushed (told_of s root t) n → u ≡ told_of n last end → PlansPart s u
planned_part s n u root last t end waits h is =
    let f = flush_facts (told_of s root t) n h in
    let rows = takes (told_of s root t) n h in
    subst (λ (v : Session). PlansPart s v) (sym is)
    (record {
      rules = λ limit attempts. flush_rules (told_of s root t) n limit attempts h;
      polling = λ limit attempts. flush_polling (told_of s root t) n limit attempts h;
      cut = ap (λ (g : Rules). g.cutting) (flush_rules (told_of s root t) n 0 0 h);
      committed = rows.committed;
      flushing = f.1 ∙ sym (lt-ltb 0 (length n.pending) (omega (arith, f.0)));
      taken = λ t. rows.waits;
      some = λ w. f.0;
      none = λ z. absurd (omega (arith, z, waits));
    })

idle_part : (limit attempts before : ℕ) (s u : Session) (x : SetState) (last : Super) (end : Space) → s.waits ≡ 0 → s.pending ≡ [] → IsStateOfPart limit attempts before s x → u ≡ told_of s last end → PlansPart s u
idle_part limit attempts before s u x last end waits none st is =
    subst (λ (v : Session). PlansPart s v) (sym is)
    (record {
      rules = λ limit attempts. refl;
      polling = λ limit attempts. refl;
      cut = refl;
      committed = refl;
      flushing = st.flushing;
      taken = st.taken;
      some = λ w. absurd (omega (arith, w, waits));
      none = λ z. ap length none;
    })

-- ---- All parts

abbrev pub AllPlan : List Session → List Session → Type 0
AllPlan [] [] = Unit {0}
AllPlan [] (u ∷ uu) = ⊥
AllPlan (s ∷ ss) [] = ⊥
AllPlan (s ∷ ss) (u ∷ uu) = PlansPart s u × AllPlan ss uu

all_plan : (limit attempts before : ℕ) (root last : Super) (t end : Space) (ss uu : List Session) (xs : List SetState) → all_pending ss ≡ [] → AreStatesOf limit attempts before ss xs → AreFlushed root t ss last end uu → AllPlan ss uu
all_plan limit attempts before root last t end [] [] xs none h f = tt
all_plan limit attempts before root last t end [] (u ∷ uu) xs none h f = absurd f
all_plan limit attempts before root last t end (s ∷ ss) [] xs none h f = absurd f
all_plan limit attempts before root last t end (s ∷ ss) (u ∷ uu) [] none h f = absurd h
all_plan limit attempts before root last t end (s ∷ ss) (u ∷ uu) (x ∷ xs) none h f =
    let rest = back_nil s.pending (all_pending ss) none in
    elim f [
      | inl y ↦ (
        idle_part limit attempts before s u x last (bare end) y.0 (front_nil s.pending (all_pending ss) none) h.0 y.1,
        all_plan limit attempts (before + length s.pending) root last t end ss uu xs rest h.1 y.2,
      )
      | inr y ↦ (
        planned_part s y.0 u root last t (bare end) y.1.waits y.1.flushed y.2,
        all_plan limit attempts (before + length s.pending) y.0.root last y.0.places end ss uu xs rest h.1 y.3,
      )
    ]

pub flush_limit : (root last : Super) (t end : Space) (ss uu : List Session) → AreFlushed root t ss last end uu → end.limit ≡ t.limit
flush_limit root last t end [] [] f = ap (λ (v : Space). v.limit) f.1
flush_limit root last t end [] (u ∷ uu) f = absurd f
flush_limit root last t end (s ∷ ss) [] f = absurd f
flush_limit root last t end (s ∷ ss) (u ∷ uu) f = elim f [
  | inl y ↦ flush_limit root last t end ss uu y.2
  | inr y ↦ flush_limit y.0.root last y.0.places end ss uu y.3 ∙ (takes (told_of s root t) y.0 y.1.flushed).limit
]

plan_length : (ss uu : List Session) → AllPlan ss uu → length uu ≡ length ss
plan_length [] [] p = refl
plan_length [] (u ∷ uu) p = absurd p
plan_length (s ∷ ss) [] p = absurd p
plan_length (s ∷ ss) (u ∷ uu) p = ap suc (plan_length ss uu p.1)

plan_at : (ss uu : List Session) → AllPlan ss uu → (d : ℕ) (u : Session) → slice_get uu d ≡ Some u → (s : Session) × (slice_get ss d ≡ Some s) × PlansPart s u
plan_at [] [] p d u at = absurd (cc)
plan_at [] (v ∷ uu) p d u at = absurd p
plan_at (s ∷ ss) [] p d u at = absurd p
plan_at (s ∷ ss) (v ∷ uu) p zero u at = (s, refl, subst (λ (q : Session). PlansPart s q) (part_is v u at) p.0)
plan_at (s ∷ ss) (v ∷ uu) p (suc d) u at = plan_at ss uu p.1 d u at

due_some : (before n : ℕ) → nat_lt 0 (due before n) ≡ nat_lt 0 n
due_some before zero = refl
due_some before (suc n) = lt-ltb 0 (before + suc n) (omega arith) ∙ sym (some_count n)

pub planned_states : (limit attempts before k : ℕ) (ss uu : List Session) (xs : List SetState) → AllPlan ss uu → AreStatesOf limit attempts k ss xs → AreStatesOf limit attempts before uu (planned before (counts_of uu) xs)
planned_states limit attempts before k [] [] [] p h = tt
planned_states limit attempts before k [] [] (x ∷ xs) p h = absurd h
planned_states limit attempts before k [] (u ∷ uu) xs p h = absurd p
planned_states limit attempts before k (s ∷ ss) [] xs p h = absurd p
planned_states limit attempts before k (s ∷ ss) (u ∷ uu) [] p h = absurd h
planned_states limit attempts before k (s ∷ ss) (u ∷ uu) (x ∷ xs) p h = (
  record {
    rules = h.0.rules ∙ sym (p.0.rules limit attempts);
    pending = refl;
    ends_flush = due_some before (length u.pending);
    flushing = p.0.flushing;
    taken = p.0.taken;
  },
  planned_states limit attempts (before + length u.pending) (k + length s.pending) ss uu xs p.1 h.1,
)

-- ---- The reply

-- what is known of a dataset in which nothing is pending: its planned rows are flushed
pub record IsRested (s : Session) (x : SetState) : Type 0 where
  pub flushed : x.state.flushed ≡ s.dataset.shape.rows
  pub rows : script_rows x.rules x.state ≡ s.dataset.shape.rows + s.waits

pub wait_is : (s : Session) (x : SetState) → IsRested s x → rows_wait x ≡ nat_lt s.dataset.shape.rows (s.dataset.shape.rows + s.waits)
wait_is s x r = λ i. nat_lt (r.flushed i) (r.rows i)

part_planned : (s u : Session) (x : SetState) → IsRested s x → PlansPart s u → MatchBool (rows_wait x) (1 ≤ length u.pending) (length u.pending ≡ 0)
part_planned s u x r p =
    let rows = s.dataset.shape.rows in
    elim (cases_lt 0 s.waits) [
      | inl some ↦ subst (λ (b : Bool). MatchBool b (1 ≤ length u.pending) (length u.pending ≡ 0)) (sym (wait_is s x r ∙ lt-ltb rows (rows + s.waits) (omega (arith, some)))) (p.some some)
      | inr few ↦
          let none : s.waits ≡ 0 = omega arith in
          subst (λ (b : Bool). MatchBool b (1 ≤ length u.pending) (length u.pending ≡ 0)) (sym (wait_is s x r ∙ le-ltb rows (rows + s.waits) (omega (arith, none)))) (p.none none)
    ]

abbrev pub AllRested : List Session → List SetState → Type 0
AllRested ss xs = (e : ℕ) (s : Session) (x : SetState) → slice_get ss e ≡ Some s → slice_get xs e ≡ Some x → IsRested s x

all_planned : (ss uu : List Session) (xs : List SetState) → AllRested ss xs → AllPlan ss uu → length xs ≡ length ss → ArePlanned xs (counts_of uu)
all_planned [] [] [] rest p same = tt
all_planned [] [] (x ∷ xs) rest p same = absurd (omega (arith, same))
all_planned [] (u ∷ uu) xs rest p same = absurd p
all_planned (s ∷ ss) [] xs rest p same = absurd p
all_planned (s ∷ ss) (u ∷ uu) [] rest p same = absurd (omega (arith, same))
all_planned (s ∷ ss) (u ∷ uu) (x ∷ xs) rest p same =
    (part_planned s u x (rest 0 s x refl refl) p.0, all_planned ss uu xs (λ e t y a c. rest (suc e) t y a c) p.1 (omega (arith, same)))

neither : (a b : Bool) → cond a true b ≡ false → (a ≡ false) × (b ≡ false)
neither true b e = absurd (let clash : true ≡ false = e in cc)
neither false b e = (refl, e)

-- if no row waits there is no piece
none_planned : (xs : List SetState) (ns : List ℕ) → some_wait xs ≡ false → ArePlanned xs ns → ns ≡ map (λ (x : SetState). 0) xs
none_planned [] [] e h = refl
none_planned [] (n ∷ ns) e h = absurd h
none_planned (x ∷ xs) [] e h = absurd h
none_planned (x ∷ xs) (n ∷ ns) e h =
    let both = neither (rows_wait x) (some_wait xs) e in
    let own : n ≡ 0 = subst (λ (b : Bool). MatchBool b (1 ≤ n) (n ≡ 0)) both.0 h.0 in
    λ i. own i ∷ none_planned xs ns both.1 h.1 i

-- ---- The loads

abbrev AllLoads : ℕ → FileLog → List Begun → List Session → List SetState → Type 0
AllLoads k log bs ss xs =
    (e : ℕ) (b : Begun) (s : Session) (x : SetState) → slice_get bs e ≡ Some b → slice_get ss e ≡ Some s → slice_get xs e ≡ Some x
    → load_of x.rules x.state x.state.appended ≡ load (cutting_of s) (log_of (k + e) b log)

all_loads : (k : ℕ) (log : FileLog) (bs : List Begun) (ss : List Session) (xs : List SetState) → length bs ≡ length ss → length xs ≡ length ss → AllLoads k log bs ss xs → load_in xs ≡ load_from k (cuttings_of ss) bs log
all_loads k log [] [] [] sb sx h = refl
all_loads k log [] [] (x ∷ xs) sb sx h = absurd (omega (arith, sx))
all_loads k log [] (s ∷ ss) xs sb sx h = absurd (omega (arith, sb))
all_loads k log (b ∷ bs) [] xs sb sx h = absurd (omega (arith, sb))
all_loads k log (b ∷ bs) (s ∷ ss) [] sb sx h = absurd (omega (arith, sx))
all_loads k log (b ∷ bs) (s ∷ ss) (x ∷ xs) sb sx h =
    let here : k + 0 ≡ k = omega arith in
    let own : load_of x.rules x.state x.state.appended ≡ load (cutting_of s) (log_of k b log) = h 0 b s x refl refl refl ∙ ap (λ (n : ℕ). load (cutting_of s) (log_of n b log)) here in
    let rest = all_loads (suc k) log bs ss xs (omega (arith, sb)) (omega (arith, sx))
    (λ e c t y p q r.
    let there : k + suc e ≡ suc k + e = omega arith in
    h (suc e) c t y p q r ∙ ap (λ (n : ℕ). load (cutting_of t) (log_of n c log)) there) in
    λ i. own i + rest i

load_is : (limit attempts : ℕ) (s : Session) (x : SetState) (log : Log) → x.rules ≡ rules_in limit attempts s → log.columns ≡ s.dataset.shape.cols → x.state.flushed ≡ flushed_rows log → x.state.appended ≡ appended log
    → load_of x.rules x.state x.state.appended ≡ load (cutting_of s) log
load_is limit attempts s x log rules columns rows values =
    let g = rules_in limit attempts s in
    let old : x.state.flushed ≡ length (flushed log) / s.dataset.shape.cols = rows ∙ ap (λ (n : ℕ). length (flushed log) / n) columns in
    let bytes = g.cutting.chunk_rows * g.cutting.chunk_columns * g.cutting.value_size + 20000 in
    ap (λ (h : Rules). load_of h x.state x.state.appended) rules
    ∙ ap (λ (n : ℕ). 1000 + touched_chunks g.cutting n (length x.state.appended / s.dataset.shape.cols) * bytes) old
    ∙ ap (λ (xs : List ℤ). 1000 + touched_chunks g.cutting (length (flushed log) / s.dataset.shape.cols) (length xs / s.dataset.shape.cols) * bytes) values

-- ---- The step

module _ (old : Sessions) (attempts : ℕ) (ps : Places) (F : FileState) (h : HaveOneFileLog old attempts ps F) (going : old.stopped ≡ false) (none : all_pending old.parts ≡ []) where
  pub sets_count : length F.sets ≡ length old.parts
  sets_count = states_length old.places.limit attempts 0 old.parts F.sets h.state.states

  pub rested : AllRested old.parts F.sets
  rested e s x a c =
      let t = tells_of old attempts ps F h.log h.state h.stands e x c in
      let same : t.part ≡ s = part_is t.part s (sym t.part_is ∙ a) in
      let now : flushed_rows (log_of e t.begun h.log) ≡ t.part.dataset.shape.rows = standing_all.planned_rows old h.log h.stands going none e t.begun t.part t.set_is t.part_is in
      record {
        flushed = t.rows ∙ t.tells.flushed_rows ∙ now ∙ ap (λ (p : Session). p.dataset.shape.rows) same;
        rows = t.all ∙ ap rows_of same;
      }

  loads : AllLoads 0 h.log h.log.sets old.parts F.sets
  loads e b s x p q r =
      let st = state_at old.places.limit attempts 0 old.parts F.sets h.state.states e s x q r in
      let own = h.state.own e b s p q in
      let follows = (h.state.polls.each e x r).polled.follows in
      let told = standing_all.tells old h.log h.stands e b s p q in
      let here : e ≡ 0 + e = omega arith in
      load_is old.places.limit attempts s x (log_of e b h.log) st.1.rules told.columns (follows.flushed ∙ ap flushed_rows own.1) (follows.appended ∙ ap appended own.1)
      ∙ ap (λ (n : ℕ). load (cutting_of s) (log_of n b h.log)) here

  -- the loads of the script are those of the log
  pub loads_are : load_in F.sets ≡ load_from 0 (cuttings_of old.parts) h.log.sets h.log
  loads_are = all_loads 0 h.log h.log.sets old.parts F.sets (standing_all.sets old h.log h.stands) sets_count loads

  module _ (new : Sessions) (f : FlushesAll old new) where
    abbrev pub counts : List ℕ
    counts = counts_of new.parts

    pub plan : AllPlan old.parts new.parts
    plan = all_plan old.places.limit attempts 0 old.root new.root old.places new.places old.parts new.parts F.sets none h.state.states f.parts

    pub stands_now : StandsAll new (and_then (plans_each counts) h.log)
    stands_now = calls_stand.flushes old new h.log h.stands going none f

    pub limit_is : new.places.limit ≡ old.places.limit
    limit_is = flush_limit old.root new.root old.places new.places old.parts new.parts f.parts

    pub count : length counts ≡ length F.sets
    count = omega (arith, length-map new.parts (λ (s : Session). length s.pending), plan_length old.parts new.parts plan, sets_count)

    planned_each : ArePlanned F.sets counts
    planned_each = all_planned old.parts new.parts F.sets rested plan sets_count

    few : total counts ≤ load_in F.sets
    few =
        let bound : length (all_pending new.parts) ≤ load_from 0 (cuttings_of old.parts) h.log.sets h.log = bounds_stand.few old new h.log h.stands going none f in
        let same : total counts ≡ length (all_pending new.parts) = total_left new.parts in
        omega (arith, loads_are, bound, same)

    pub flush_allowed : FlushAllowedIn F (flushing_each counts)
    flush_allowed =
        let idle : pending_in F ≡ 0 = ap total h.state.left ∙ none_left old.parts none in
        match_no _ _ F.stopped (h.state.stopped ∙ going)
        (match_no _ _ (nat_lt 0 (pending_in F)) (ap (nat_lt 0) idle) (of_wait (some_wait F.sets) refl))
      where
        of_wait : (b : Bool) → some_wait F.sets ≡ b → MatchBool b (IsPlannedIn F (flushing_each counts) ⊎ IsFullIn F (flushing_each counts)) (flushing_each counts ≡ flushing_each (map (λ (x : SetState). 0) F.sets))
        of_wait true e = inl (record { counts = counts; is = refl; each = planned_each; bound = few })
        of_wait false e = ap flushing_each (none_planned F.sets counts e planned_each)

    pub level : (d : ℕ) (x : SetState) → slice_get F.sets d ≡ Some x → flushed_rows (and_now (plans (up_to d counts)) (h.state.logs d)) ≡ flushed_rows (h.state.logs d)
    level d x at =
        let t = tells_of old attempts ps F h.log h.state h.stands d x at in
        let inside : d < length F.sets = slice_get_within F.sets d x at in
        let u = part_there new.parts d (omega (arith, inside, sets_count, plan_length old.parts new.parts plan)) in
        let p = plan_at old.parts new.parts plan d u.0 u.1 in
        let same : p.0 ≡ t.part = part_is p.0 t.part (sym p.1 ∙ t.part_is) in
        let told = standing_all.tells new (and_then (plans_each counts) h.log) stands_now d t.begun u.0 t.set_is u.1 in
        ap (λ (l : Log). flushed_rows (and_now (plans (up_to d counts)) l)) t.log_is ∙ sym told.flushed_rows ∙ p.2.committed ∙ ap (λ (s : Session). s.committed) same ∙ t.tells.flushed_rows ∙ sym (ap flushed_rows t.log_is)

    pub own_now : (d : ℕ) (b : Begun) (u : Session) → slice_get h.log.sets d ≡ Some b → slice_get new.parts d ≡ Some u
        → (h.state.pollings d ≡ polling_in new.places.limit attempts u) × (and_now (plans (up_to d counts)) (h.state.logs d) ≡ log_of d b (and_then (plans_each counts) h.log))
    own_now d b u is at =
        let p = plan_at old.parts new.parts plan d u at in
        let own = h.state.own d b p.0 is p.1 in (
          own.0 ∙ sym (p.2.polling old.places.limit attempts) ∙ ap (λ (l : ℕ). polling_in l attempts u) (sym limit_is),
          ap (and_now (plans (up_to d counts))) own.1,
        )

    -- the file grew by no more than the loads
    pub still_grown : new.places.end ≤ 1024 * length h.log.sets + (F.spent + load_in F.sets)
    still_grown =
        let raised : new.places.end ≤ old.places.end + load_from 0 (cuttings_of old.parts) h.log.sets h.log = bounds_stand.raised old new h.log h.stands going none f in
        omega (arith, loads_are, raised, h.state.grown)

    abbrev pub flush_state : IsFileStateOf new attempts ps (next_all F (asks flushes) (flushing_each counts)) (and_then (plans_each counts) h.log)
    flush_state = record {
      states =
          subst (λ (l : ℕ). AreStatesOf l attempts 0 new.parts (planned 0 counts F.sets)) (sym limit_is)
          (planned_states old.places.limit attempts 0 0 old.parts new.parts F.sets plan h.state.states);
      left = refl;
      stopped = h.state.stopped ∙ sym (ap (λ (S : Sessions). S.stopped) f.session);
      limit = h.state.limit ∙ sym limit_is;
      pollings = h.state.pollings;
      logs = λ d. and_now (plans (up_to d counts)) (h.state.logs d);
      own = own_now;
      polls = writer_file_laws.planned h.state.pollings h.state.logs F ps counts h.state.polls count level;
      grown = still_grown;
    }

    abbrev pub flush_steps : StepsTo attempts ps F (asks flushes) (flushing_each counts) new
    flush_steps = record {
      allowed = flush_allowed;
      fits = record { log = and_then (plans_each counts) h.log; stands = stands_now; new = new_then h.state.pollings h.log (plans_each counts) h.new; state = flush_state };
    }

pub flush_step : FlushStep
flush_step = record { flushed = λ old new attempts ps F h going none f. flush_steps old attempts ps F h going none new f }
