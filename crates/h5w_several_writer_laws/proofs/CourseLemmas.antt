-- Where each dataset of a file is between two pieces of a flush.
use Rattle.std.proofs.Common.{◌≡◌, ◌≢◌, ◌⊎◌, ℕ, zero, suc, ◌+◌, ◌<◌, ◌≤◌, Bool, true, false, List, [], ◌∷◌, ◌++◌, length, ℤ, Ok, refl, sym, ◌∙◌, ap, subst, inl, inr, arith, append-nil, append_assoc, length-append}
use Rattle.std.specs.Prelude.{nat_le}
use Rattle.std.proofs.lemmas.Bool.{cond_both, cond-true, le-leb, leb-true}
use Rattle.h5w_model.specs.Images.{apply, image}
use Rattle.h5w_model.specs.Findings.{Used}
use Rattle.h5w_model.specs.Logs.{Happening, Log, and_now, appended, flushed, flushed_in, hist, plans, shows}
use Rattle.h5w_model.specs.Relations.{AllPaired}
use Rattle.h5w_model.specs.Several.{Begun, FileLog, log_of, pieces_in, plans_each, seen_by, up_to}
use Rattle.h5w_model.specs.declared.piece.Write.{Write}
use Rattle.h5w_model.specs.declared.root.Super.{Super}
use Rattle.h5w_step_laws.specs.Ranges.{Among}
use Rattle.h5w_space.specs.Space.{Space}
use Rattle.h5w_step_laws.specs.Logs.{Goes, image_now}
use Rattle.h5w_step_laws.specs.Moments.{Moment}
use Rattle.h5w_step_laws.specs.Plans.{Flush, Plan}
use Rattle.h5w_step_laws.proofs.GoesLemmas.{event_goes, image_pushed, piece_goes}
use Rattle.h5w_step_laws.proofs.PlanLaws.{plan_values}
use Rattle.h5w_step_laws.proofs.SessionLaws.{rests, some_piece}
use Rattle.h5w_flush_laws.specs.Parts.{Parts}
use Rattle.h5w_several_laws.specs.Between.{IsBetween, between_of}
use Rattle.h5w_several_laws.specs.Dues.{Waits}
use Rattle.h5w_several_laws.specs.Together.{names_of, onto}
use Rattle.h5w_several_laws.specs.Turns.{AreKnown, AreOff, ArePlans, Entry, IsOff, all_then, flushed as flushed_entry, then_as}
use Rattle.h5w_several_laws.proofs.FoldLemmas.{AreAcross, State, across_head, across_tail, across_then, all_off_then, flip_apart, split_off, split_plans}
use Rattle.h5w_several_laws.proofs.SeenLemmas.{seen_laws}
use Rattle.h5w_writer.specs.Sessions.{Session}
use Rattle.h5w_writer.specs.Told.{showing, told_of}
use Rattle.h5w_writer.specs.PartLaws.{PartLaws}
use Rattle.h5w_writer.proofs.FlushCalls.{told_some}
use Rattle.h5w_several_writer_laws.specs.Courses.{AreAt, AreThrough, IsAt, Stand, stands_of, then_shown, then_shows}
use Rattle.h5w_several_writer_laws.specs.Sessions.{AreFlushed, all_pending, bare}
use Rattle.h5w_several_writer_laws.specs.Standing.{AreStandingParts, HasRun, and_then, last_image, rested}
use Rattle.h5w_several_writer_laws.specs.Valid.{names_in}
use Rattle.h5w_several_writer_laws.proofs.FoldPartLemmas.{AllRest, across_cons, is_done, is_waiting, next_state, rest_steps}
use Rattle.h5w_several_writer_laws.proofs.TurnPartLemmas.{IsTurned, IsWithin, flushed_named, last_joined, turned_part, within_then}
use Rattle.h5w_several_writer_laws.proofs.RunLemmas.{none_waits, run_rests}

-- ---- Logs with more pieces

pub then_joined : (ws vs : List Write) (log : FileLog) → then_shown (ws ++ vs) log ≡ then_shown vs (then_shown ws log)
then_joined [] vs log = refl
then_joined (w ∷ ws) vs log = then_joined ws vs (then_shows w log)

pub pieces_then : (ws : List Write) (log : FileLog) → pieces_in (then_shown ws log).events ≡ pieces_in log.events ++ ws
pieces_then [] log = sym (append-nil (pieces_in log.events))
pieces_then (w ∷ ws) log = pieces_then ws (then_shows w log) ∙ append_assoc (pieces_in log.events) (w ∷ []) ws

start_then : (ws : List Write) (log : FileLog) → (then_shown ws log).start ≡ log.start
start_then [] log = refl
start_then (w ∷ ws) log = start_then ws (then_shows w log)

-- the image of what a dataset sees
seen_now : (log : FileLog) (d : ℕ) (b : Begun) → image_now (log_of d b log) ≡ image log.start (pieces_in log.events)
seen_now log d b = ap (image log.start) (seen_laws.pieces d log.events)

-- what is flushed with so many pieces more
flushed_then : (ws : List Write) (log : FileLog) (d : ℕ) (k : ℕ) (base : List ℤ) → flushed_in k base (seen_by d (then_shown ws log).events) ≡ flushed_in (k + length ws) base (seen_by d log.events)
flushed_then [] log d k base = ap (λ (n : ℕ). flushed_in n base (seen_by d log.events)) (let e : k ≡ k + 0 = omega arith in e)
flushed_then (w ∷ ws) log d k base = flushed_then ws (then_shows w log) d k base ∙ ap (λ (n : ℕ). flushed_in n base (seen_by d log.events)) (let e : (k + length ws) + 1 ≡ k + suc (length ws) = omega arith in e)

-- ---- Pieces along a plan and a flush

-- pieces that bring no rows
goes_plan : (log : FileLog) (d : ℕ) (b : Begun) (name : List ℕ) (m : Moment) (held : List Used) (ws : List Write) (n : Moment) (after : List Used) → Goes name (log_of d b log) m held → Plan (image_now (log_of d b log)) m held ws n after
    → ((k : ℕ) → k ≤ length ws → flushed_in k b.values (seen_by d log.events) ≡ m.values) → Goes name (log_of d b (then_shown ws log)) n after
goes_plan log d b name m held [] n after g p level = subst (λ (x : Moment). Goes name (log_of d b log) x after) (sym p.0) (subst (λ (us : List Used). Goes name (log_of d b log) m us) (sym p.1) g)
goes_plan log d b name m held (w ∷ ws) n after g p level =
    let view : Log = log_of d b log in
    let next = piece_goes name view m held w p.0 p.1 g p.2 (p.3 ∙ sym (level 1 (omega arith))) in
    goes_plan (then_shows w log) d b name p.0 p.1 ws n after next (subst (λ (i : List ℕ). Plan i p.0 p.1 ws n after) (sym (image_pushed view w)) p.4) (λ k low. level (k + 1) (omega (arith, low)) ∙ sym p.3)

-- those of a part, of which the last brings rows, up to some of them
goes_part : (log : FileLog) (d : ℕ) (b : Begun) (name : List ℕ) (m : Moment) (held : List Used) (ws vs : List Write) (c : Moment) (now : List Used) (n : Moment) (after : List Used) → Goes name (log_of d b log) m held → Flush (image_now (log_of d b log)) m held ws c now
    → (vs ≡ [] → c.values ≡ n.values) → (vs ≢ [] → c.values ≡ m.values) → ((k : ℕ) → k < length (ws ++ vs) → flushed_in k b.values (seen_by d log.events) ≡ m.values) → ((k : ℕ) → length (ws ++ vs) ≤ k → flushed_in k b.values (seen_by d log.events) ≡ n.values)
    → Goes name (log_of d b (then_shown ws log)) c now
goes_part log d b name m held [] vs c now n after g f last still early late = subst (λ (x : Moment). Goes name (log_of d b log) x now) (sym f.0) (subst (λ (us : List Used). Goes name (log_of d b log) m us) (sym f.1) g)
goes_part log d b name m held (w ∷ ws) vs c now n after g f last still early late =
    let view : Log = log_of d b log in
    let next = piece_goes name view m held w f.0 f.1 g f.2 (first ws vs f.3 f.4 last still early late) in
    goes_part (then_shows w log) d b name f.0 f.1 ws vs c now n after next (subst (λ (i : List ℕ). Flush i f.0 f.1 ws c now) (sym (image_pushed view w)) f.4) last
    (λ some. still some ∙ sym (same ws vs f.3 f.4 still some)) (λ k low. early (k + 1) (omega (arith, low)) ∙ sym (level ws vs f.3 f.4 still k low)) (λ k high. late (k + 1) (omega (arith, high)))
  where
    -- before the last piece of all the values stay
    same : (xs ys : List Write) → (xs ≢ [] → f.0.values ≡ m.values) → Flush (apply w (image_now (log_of d b log))) f.0 f.1 xs c now → (ys ≢ [] → c.values ≡ m.values) → ys ≢ [] → f.0.values ≡ m.values
    same [] ys kept g stays some = ap (λ (x : Moment). x.values) (sym g.0) ∙ stays some
    same (x ∷ xs) ys kept g stays some = kept (some_piece x xs)

    level : (xs ys : List Write) → (xs ≢ [] → f.0.values ≡ m.values) → Flush (apply w (image_now (log_of d b log))) f.0 f.1 xs c now → (ys ≢ [] → c.values ≡ m.values) → (k : ℕ) → k < length (xs ++ ys) → f.0.values ≡ m.values
    level [] [] kept g stays k low = absurd (omega (arith, low))
    level [] (y ∷ ys) kept g stays k low = ap (λ (x : Moment). x.values) (sym g.0) ∙ stays (some_piece y ys)
    level (x ∷ xs) ys kept g stays k low = kept (some_piece x xs)

    first : (xs ys : List Write) → (xs ≢ [] → f.0.values ≡ m.values) → Flush (apply w (image_now (log_of d b log))) f.0 f.1 xs c now → (ys ≡ [] → c.values ≡ n.values) → (ys ≢ [] → c.values ≡ m.values) → ((k : ℕ) → k < length (w ∷ (xs ++ ys)) → flushed_in k b.values (seen_by d log.events) ≡ m.values)
        → ((k : ℕ) → length (w ∷ (xs ++ ys)) ≤ k → flushed_in k b.values (seen_by d log.events) ≡ n.values) → f.0.values ≡ flushed_in 1 b.values (seen_by d log.events)
    first [] [] kept g ending stays low high = ap (λ (x : Moment). x.values) (sym g.0) ∙ ending refl ∙ sym (high 1 (omega arith))
    first [] (y ∷ ys) kept g ending stays low high = ap (λ (x : Moment). x.values) (sym g.0) ∙ stays (some_piece y ys) ∙ sym (low 1 (omega arith))
    first (x ∷ xs) ys kept g ending stays low high = kept (some_piece x xs) ∙ sym (low 1 (omega arith))

-- ---- Lists in the order of the datasets

paired_onto : {A B : Type 0} (P : A → B → Type 0) (xs : List A) (ds : List B) (ys : List A) (es : List B) → AllPaired P xs ds → AllPaired P ys es → AllPaired P (onto xs ys) (onto ds es)
paired_onto P [] [] ys es h g = g
paired_onto P [] (d ∷ ds) ys es h g = absurd h
paired_onto P (x ∷ xs) [] ys es h g = absurd h
paired_onto P (x ∷ xs) (d ∷ ds) ys es h g = paired_onto P xs ds (x ∷ ys) (d ∷ es) h.1 (h.0, g)

off_onto : (ds es : List Entry) → AreOff ds → AreOff es → AreAcross ds es → AreOff (onto ds es)
off_onto [] es a b c = b
off_onto (d ∷ ds) es a b c = off_onto ds (d ∷ es) a.1 (c.0, b) (across_cons d ds es a.0 c.1)

-- ---- What is flushed of each

module _ (log : FileLog) (counts : List ℕ) where
  -- the flush is planned
  abbrev next : FileLog
  next = and_then (plans_each counts) log

  -- it has all its rows, or none comes: as much is flushed however many pieces are shown
  abbrev IsCalm : FileLog → Stand → Entry → Type 0
  IsCalm now x e = (k : ℕ) → flushed_in k x.begun.values (seen_by x.number now.events) ≡ e.moment.values

  -- it waits for its part, which has pieces or brings no rows; all its values are flushed but for those
  pub record IsWaitingFor (now : FileLog) (x : Stand) (e : Entry) (u : Session) : Type 0 where
    pub at : IsAt now x e
    pub settled : (k : ℕ) → flushed_in k x.begun.values (seen_by x.number log.events) ≡ e.moment.values
    pub either : (appended (log_of x.number x.begun log) ≡ e.moment.values) ⊎ (1 ≤ length u.pending)

  abbrev pub AreWaiting : FileLog → List Stand → List Entry → List Session → Type 0
  AreWaiting now [] [] [] = Unit {0}
  AreWaiting now (x ∷ xs) (e ∷ es) (u ∷ uu) = IsWaitingFor now x e u × AreWaiting now xs es uu
  AreWaiting now [] (e ∷ es) uu = ⊥
  AreWaiting now [] [] (u ∷ uu) = ⊥
  AreWaiting now (x ∷ xs) [] uu = ⊥
  AreWaiting now (x ∷ xs) (e ∷ es) [] = ⊥

  -- how many pieces come up to the last one of a part, behind so many
  abbrev pub AreCounted : ℕ → List Stand → List Session → Type 0
  AreCounted n [] uu = Unit {0}
  AreCounted n (x ∷ xs) [] = ⊥
  AreCounted n (x ∷ xs) (u ∷ uu) = (up_to x.number counts ≡ n + length u.pending) × AreCounted (n + length u.pending) xs uu

  -- what is flushed once these pieces are shown behind the plan
  flushed_planned : (all : List Write) (d k : ℕ) (b : Begun) → (P : List ℤ → Type 0) → (up_to d counts ≤ k + length all → P (appended (log_of d b log))) → P (flushed_in (k + length all) b.values (seen_by d log.events)) → P (flushed_in k b.values (seen_by d (then_shown all next).events))
  flushed_planned all d k b P whole part =
      subst P (sym (flushed_then all next d k b.values))
      (cond_both (nat_le (up_to d counts) (k + length all)) (appended (log_of d b log)) (flushed_in (k + length all) b.values (seen_by d log.events)) P (λ t. whole (leb-true (up_to d counts) (k + length all) t)) (λ t. part))

  module _ (all : List Write) (x : Stand) (e : Entry) (u : Session) (w : IsWaitingFor (then_shown all next) x e u) where
    -- of one that has no part
    calm_one : appended (log_of x.number x.begun log) ≡ e.moment.values → IsCalm (then_shown all next) x e
    calm_one none k = flushed_planned all x.number k x.begun (λ (vs : List ℤ). vs ≡ e.moment.values) (λ t. none) (w.settled (k + length all))

    -- of one whose part comes behind so many pieces
    level_one : (n pre : ℕ) → n ≤ pre → up_to x.number counts ≡ (length all + pre) + length u.pending → (k : ℕ) → k ≤ n → flushed_in k x.begun.values (seen_by x.number (then_shown all next).events) ≡ e.moment.values
    level_one n pre low is k few = flushed_planned all x.number k x.begun (λ (vs : List ℤ). vs ≡ e.moment.values) (λ t. by w.either t) (w.settled (k + length all))
      where
        by : (appended (log_of x.number x.begun log) ≡ e.moment.values) ⊎ (1 ≤ length u.pending) → up_to x.number counts ≤ k + length all → appended (log_of x.number x.begun log) ≡ e.moment.values
        by (inl none) t = none
        by (inr some) t = absurd (omega (arith, some, t, is, low, few))

  -- what is flushed once all pieces up to the last one of a part are shown
  due_one : (all : List Write) (d k : ℕ) (b : Begun) → up_to d counts ≤ k + length all → flushed_in k b.values (seen_by d (then_shown all next).events) ≡ appended (log_of d b log)
  due_one all d k b low = flushed_then all next d k b.values ∙ cond-true (nat_le (up_to d counts) (k + length all)) (appended (log_of d b log)) (flushed_in (k + length all) b.values (seen_by d log.events)) (le-leb (up_to d counts) (k + length all) low)

  -- as much is flushed of each as its moment has, while so many pieces are shown
  abbrev AreLevel : ℕ → FileLog → List Stand → List Entry → Type 0
  AreLevel n now xs es = AllPaired (λ (x : Stand) (e : Entry). (k : ℕ) → k ≤ n → flushed_in k x.begun.values (seen_by x.number now.events) ≡ e.moment.values) xs es

  calm_level : (n : ℕ) (now : FileLog) (xs : List Stand) (es : List Entry) → AllPaired (IsCalm now) xs es → AreLevel n now xs es
  calm_level n now [] [] h = tt
  calm_level n now [] (e ∷ es) h = absurd h
  calm_level n now (x ∷ xs) [] h = absurd h
  calm_level n now (x ∷ xs) (e ∷ es) h = ((λ k low. h.0 k), calm_level n now xs es h.1)

  waiting_level : (all : List Write) (n pre q : ℕ) (xs : List Stand) (es : List Entry) (uu : List Session) → n ≤ pre → q ≡ length all + pre → AreWaiting (then_shown all next) xs es uu → AreCounted q xs uu → AreLevel n (then_shown all next) xs es
  waiting_level all n pre q [] [] [] low is w c = tt
  waiting_level all n pre q (x ∷ xs) (e ∷ es) (u ∷ uu) low is w c = (
    level_one all x e u w.0 n pre low (let count = c.0 in omega (arith, count, is)),
    waiting_level all n (pre + length u.pending) (q + length u.pending) xs es uu (omega (arith, low)) (omega (arith, is)) w.1 c.1,
  )
  waiting_level all n pre q [] (e ∷ es) uu low is w c = absurd w
  waiting_level all n pre q [] [] (u ∷ uu) low is w c = absurd w
  waiting_level all n pre q (x ∷ xs) [] uu low is w c = absurd w
  waiting_level all n pre q (x ∷ xs) (e ∷ es) [] low is w c = absurd w

-- ---- Pieces of another's part

moved_all : (now : FileLog) (ws : List Write) (img : List ℕ) (super : Super) (xs : List Stand) (es : List Entry) → img ≡ image now.start (pieces_in now.events) → AllPaired (IsAt now) xs es → ArePlans img ws super es
    → AllPaired (λ (x : Stand) (e : Entry). (k : ℕ) → k ≤ length ws → flushed_in k x.begun.values (seen_by x.number now.events) ≡ e.moment.values) xs es → AllPaired (IsAt (then_shown ws now)) xs (all_then super es)
moved_all now ws img super [] [] is at planning level = tt
moved_all now ws img super [] (e ∷ es) is at planning level = absurd at
moved_all now ws img super (x ∷ xs) [] is at planning level = absurd at
moved_all now ws img super (x ∷ xs) (e ∷ es) is at planning level =
    let here : img ≡ image_now (log_of x.number x.begun now) = is ∙ sym (seen_now now x.number x.begun) in
    let plan = subst (λ (i : List ℕ). Plan i e.moment e.held ws (then_as super e).moment e.held) here planning.0 in (
      record { named = at.0.named; goes = goes_plan now x.number x.begun e.name e.moment e.held ws (then_as super e).moment e.held at.0.goes plan level.0 },
      moved_all now ws img super xs es is at.1 planning.1 level.1,
    )

last_values : (img : List ℕ) (c n : Moment) (held after : List Used) (vs : List Write) → Flush img c held vs n after → vs ≡ [] → c.values ≡ n.values
last_values img c n held after [] f none = ap (λ (x : Moment). x.values) (sym f.0)
last_values img c n held after (v ∷ vs) f none = absurd cc

-- ---- One part

module _ (log : FileLog) (us : List Used) (counts : List ℕ) where
  abbrev now : List Write → FileLog
  now all = then_shown all (and_then (plans_each counts) log)

  now_image : (all : List Write) → last_image log all ≡ image (now all).start (pieces_in (now all).events)
  now_image all = ap (λ (ws : List Write). image log.start ws) (sym (pieces_then all (and_then (plans_each counts) log))) ∙ ap (λ (i : List ℕ). image i (pieces_in (now all).events)) (sym (start_then all (and_then (plans_each counts) log)))

  module _ (img : List ℕ) (root : Super) (t : Space) (all : List Write) (d : ℕ) (b : Begun) (ds : List Entry) (e : Entry) (es : List Entry) (f : Parts) (ps : List Write) (xd : List Stand) (x : Stand) (xs : List Stand) (uu : List Session)
      (is : img ≡ last_image log all) (st : State img t root us ds (e ∷ es)) (between : (ws vs : List Write) → ws ++ vs ≡ ps → IsBetween img e (ds ++ es) f ws vs) (done : AllPaired (IsAt (now all)) xd ds) (calm : AllPaired (IsCalm log counts (now all)) xd ds)
      (own : IsAt (now all) x e) (settled : (k : ℕ) → flushed_in k x.begun.values (seen_by x.number log.events) ≡ e.moment.values) (count : up_to x.number counts ≡ length all + length ps) (values : appended (log_of x.number x.begun log) ≡ (flushed_entry e f).moment.values)
      (waiting : AreWaiting log counts (now all) xs es uu) (counted : AreCounted log counts (length all + length ps) xs uu) where
    abbrev n : Moment
    n = (flushed_entry e f).moment

    here : img ≡ image (now all).start (pieces_in (now all).events)
    here = is ∙ now_image all

    early : (k : ℕ) → k < length ps → flushed_in k x.begun.values (seen_by x.number (now all).events) ≡ e.moment.values
    early k low = flushed_planned log counts all x.number k x.begun (λ (vs : List ℤ). vs ≡ e.moment.values) (λ t. absurd (omega (arith, low, count, t))) (settled (k + length all))

    late : (k : ℕ) → length ps ≤ k → flushed_in k x.begun.values (seen_by x.number (now all).events) ≡ n.values
    late k high = due_one log counts all x.number k x.begun (omega (arith, count, high)) ∙ values

    -- after some of its pieces
    record AreSplit (ws : List Write) (super : Super) (m : Moment) (held : List Used) : Type 0 where
      front : AllPaired (IsAt (then_shown ws (now all))) xd (all_then super ds)
      middle : IsAt (then_shown ws (now all)) x (between_of e m held)
      back : AllPaired (IsAt (then_shown ws (now all))) xs (all_then super es)

    split_at : (ws vs : List Write) (same : ws ++ vs ≡ ps) (y : IsBetween img e (ds ++ es) f ws vs) → AreSplit ws y.moment.super y.moment y.held
    split_at ws vs same y =
        let both = split_plans img ws y.moment.super ds es y.plans in
        let long : length ws + length vs ≡ length ps = sym (length-append ws vs) ∙ ap length same in
        let one : img ≡ image_now (log_of x.number x.begun (now all)) = here ∙ sym (seen_now (now all) x.number x.begun) in
        record {
          front = moved_all (now all) ws img y.moment.super xd ds here done both.one (calm_level log counts (length ws) (now all) xd ds calm);
          middle = record {
            named = own.named;
            goes = goes_part (now all) x.number x.begun e.name e.moment e.held ws vs y.moment y.held n f.behind own.goes (subst (λ (i : List ℕ). Flush i e.moment e.held ws y.moment y.held) one y.path)
                (last_values (image img ws) y.moment n y.held f.behind vs y.rest) y.still (λ k low. early k (omega (arith, low, ap length same))) (λ k high. late k (omega (arith, high, ap length same)));
          };
          back = moved_all (now all) ws img y.moment.super xs es here (waits_at xs es uu waiting) both.two
              (waiting_level log counts all (length ws) (length ps) (length all + length ps) xs es uu (omega (arith, long)) refl waiting counted);
        }
      where
        waits_at : (zs : List Stand) (os : List Entry) (vv : List Session) → AreWaiting log counts (now all) zs os vv → AllPaired (IsAt (now all)) zs os
        waits_at [] [] [] w = tt
        waits_at (z ∷ zs) (o ∷ os) (v ∷ vv) w = (w.0.at, waits_at zs os vv w.1)
        waits_at [] (o ∷ os) vv w = absurd w
        waits_at [] [] (v ∷ vv) w = absurd w
        waits_at (z ∷ zs) [] vv w = absurd w
        waits_at (z ∷ zs) (o ∷ os) [] w = absurd w

    at_split : (ws vs : List Write) → ws ++ vs ≡ ps → AreAt (then_shown ws (now all)) (onto xd (x ∷ xs))
    at_split ws vs same =
        let y = between ws vs same in
        let r = split_at ws vs same y in
        let o = split_off (between_of e y.moment y.held) y.moment.super ds es y.off in
        record {
          entries = onto (all_then y.moment.super ds) (between_of e y.moment y.held ∷ all_then y.moment.super es);
          each = paired_onto (IsAt (then_shown ws (now all))) xd (all_then y.moment.super ds) (x ∷ xs) (between_of e y.moment y.held ∷ all_then y.moment.super es) r.front (r.middle, r.back);
          off = off_onto (all_then y.moment.super ds) (between_of e y.moment y.held ∷ all_then y.moment.super es) (all_off_then y.moment.super ds st.apart) (o.two, all_off_then y.moment.super es st.off.1)
              (across_cons (between_of e y.moment y.held) (all_then y.moment.super ds) (all_then y.moment.super es) o.one (across_then y.moment.super ds es (across_tail ds e es st.across)));
        }

    pub part_through : (ws vs rest : List Write) → ws ++ vs ≡ ps → AreThrough (then_shown ps (now all)) (onto xd (x ∷ xs)) rest → AreThrough (then_shown ws (now all)) (onto xd (x ∷ xs)) (vs ++ rest)
    part_through ws [] rest same later = subst (λ (zs : List Write). AreThrough (then_shown zs (now all)) (onto xd (x ∷ xs)) rest) (sym same ∙ append-nil ws) later
    part_through ws (v ∷ vs) rest same later =
        let one : (ws ++ v ∷ []) ++ vs ≡ ps = append_assoc ws (v ∷ []) vs ∙ same in (
          λ begun. at_split ws (v ∷ vs) same,
          subst (λ (l : FileLog). AreThrough l (onto xd (x ∷ xs)) (vs ++ rest)) (then_joined ws (v ∷ []) (now all)) (part_through (ws ++ v ∷ []) vs rest one later),
        )

    -- once all are shown, with the superblock of then
    pub record ArePassed (to : Super) : Type 0 where
      pub front : AllPaired (IsAt (then_shown ps (now all))) xd (all_then to ds)
      pub own_at : IsAt (then_shown ps (now all)) x (flushed_entry e f)
      pub back : AreWaiting log counts (then_shown ps (now all)) xs (all_then to es) uu
      pub own_calm : IsCalm log counts (then_shown ps (now all)) x (flushed_entry e f)
      pub calm_then : AllPaired (IsCalm log counts (then_shown ps (now all))) xd (all_then to ds)

    pub part_passed : (to : Super) → n.super ≡ to → ArePassed to
    part_passed to super_is =
        let y = between ps [] (append-nil ps) in
        let r = split_at ps [] (append-nil ps) y in
        let same : y.moment ≡ n = sym y.rest.0 in
        let held : y.held ≡ f.behind = sym y.rest.1 in
        let root_is : y.moment.super ≡ to = ap (λ (m : Moment). m.super) same ∙ super_is in
        record {
          front = subst (λ (s : Super). AllPaired (IsAt (then_shown ps (now all))) xd (all_then s ds)) root_is r.front;
          own_at = record {
            named = own.named;
            goes = subst (λ (m : Moment). Goes e.name (log_of x.number x.begun (then_shown ps (now all))) m f.behind) same (subst (λ (hs : List Used). Goes e.name (log_of x.number x.begun (then_shown ps (now all))) y.moment hs) held r.middle.goes);
          };
          back = still_waits xs es uu waiting (subst (λ (s : Super). AllPaired (IsAt (then_shown ps (now all))) xs (all_then s es)) root_is r.back);
          own_calm = λ k. flushed_then ps (now all) x.number k x.begun.values ∙ late (k + length ps) (omega arith);
          calm_then = still_calm xd ds calm;
        }
      where
        still_waits : (zs : List Stand) (os : List Entry) (vv : List Session) → AreWaiting log counts (now all) zs os vv → AllPaired (IsAt (then_shown ps (now all))) zs (all_then to os) → AreWaiting log counts (then_shown ps (now all)) zs (all_then to os) vv
        still_waits [] [] [] w at = tt
        still_waits (z ∷ zs) (o ∷ os) (v ∷ vv) w at = (record { at = at.0; settled = w.0.settled; either = w.0.either }, still_waits zs os vv w.1 at.1)
        still_waits [] (o ∷ os) vv w at = absurd w
        still_waits [] [] (v ∷ vv) w at = absurd w
        still_waits (z ∷ zs) [] vv w at = absurd w
        still_waits (z ∷ zs) (o ∷ os) [] w at = absurd w

        still_calm : (zs : List Stand) (os : List Entry) → AllPaired (IsCalm log counts (now all)) zs os → AllPaired (IsCalm log counts (then_shown ps (now all))) zs (all_then to os)
        still_calm [] [] h = tt
        still_calm [] (o ∷ os) h = absurd h
        still_calm (z ∷ zs) [] h = absurd h
        still_calm (z ∷ zs) (o ∷ os) h = ((λ k. flushed_then ps (now all) z.number k z.begun.values ∙ h.0 (k + length ps)), still_calm zs os h.1)

-- ---- All parts

module _ (p : PartLaws) (log : FileLog) (us : List Used) (blocks : (u : Used) → Among u us → u.chunk ≡ false) (counts : List ℕ) where
  fold_course : (root last : Super) (t end : Space) (all : List Write) (ds : List Entry) (d : ℕ) (bs : List Begun) (ss uu : List Session) (es : List Entry) (xd : List Stand) → State (last_image log all) t root us ds es → AllRest root t us all log d bs ss es
      → IsWithin t log → AreFlushed root t ss last end uu → AllPaired (IsAt (now log us counts all)) xd ds → AllPaired (IsCalm log counts (now log us counts all)) xd ds → AreWaiting log counts (now log us counts all) (stands_of d bs (names_in ss)) es uu
      → AreCounted log counts (length all) (stands_of d bs (names_in ss)) uu → AreThrough (now log us counts all) (onto xd (stands_of d bs (names_in ss))) (all_pending uu)
  fold_course root last t end all ds d [] [] [] [] xd st rest fits x done calm waiting counted = tt
  fold_course root last t end all ds d (b ∷ bs) (s ∷ ss) (u ∷ uu) (e ∷ es) xd st rest fits x done calm waiting counted =
      let i = rest.0.0 in
      let one = is_done p log us blocks root t all d b s e rest.0.1 i in
      let waits = is_waiting p log us blocks root t all d b s e rest.0.1 i in
      let img = last_image log all in
      let stand : Stand = record { number = d; begun = b; name = s.name } in
      let xs = stands_of (suc d) bs (names_in ss) in
      elim x [
        | inl none ↦
            let empty : [] ≡ u.pending = sym (ap (λ (y : Session). y.pending) none.1 ∙ rest.0.1) in
            let values : appended (log_of d b log) ≡ e.moment.values = sym (ap (λ (m : Moment). m.values) (sym one.runs.after) ∙ none_waits (rested root t s) [] one.own one.runs.running none.0 ∙ one.seen.appended) in
            let count : length all + length u.pending ≡ length all = omega (arith, ap length empty) in
            let later = fold_course root last t end all (e ∷ ds) (suc d) bs ss uu es (stand ∷ xd) (next_state img t root us ds e es st) rest.1 fits none.2 (waiting.0.at, done)
            (calm_one log counts all stand e u waiting.0 values, calm) waiting.1 (subst (λ (n : ℕ). AreCounted log counts n xs uu) count counted.1) in
            subst (λ (ws : List Write). AreThrough (now log us counts all) (onto xd (stand ∷ xs)) (ws ++ all_pending uu)) empty later
        | inr turn ↦
            let n = turn.0 in
            let flushes = turn.1 in
            let turned = turned_part p log us img root t all d b ds e es s n refl st blocks one i.name rest.0.1 i.going flushes.flushed flushes.ends fits.low waits in
            let ws = n.pending in
            let f = turned.parts in
            let next = flushed_entry e f in
            let own : ws ≡ u.pending = sym (ap (λ (y : Session). y.pending) turn.2) in
            let whole = turned.planned.whole in
            let values : appended (log_of d b log) ≡ next.moment.values = sym (plan_values _ whole.middle next.moment whole.now next.held turned.planned.behind whole.plan ∙ whole.values) in
            let count : up_to d counts ≡ length all + length ws = counted.0 ∙ ap (λ (vs : List Write). length all + length vs) (sym own) in
            let counted_then : AreCounted log counts (length all + length ws) xs uu = subst (λ (vs : List Write). AreCounted log counts (length all + length vs) xs uu) (sym own) counted.1 in
            let passed = part_passed log us counts img root t all d b ds e es f ws xd stand xs uu refl st turned.between done calm waiting.0.at waiting.0.settled count values waiting.1 counted_then n.root turned.state.passed.0.super_is in
            let state = subst (λ (y : List ℕ). State y n.places n.root us (next ∷ all_then n.root ds) (all_then n.root es)) (sym (last_joined log all ws)) turned.state in
            let same : now log us counts (all ++ ws) ≡ then_shown ws (now log us counts all) = then_joined all ws (and_then (plans_each counts) log) in
            let later = fold_course n.root last n.places end (all ++ ws) (next ∷ all_then n.root ds) (suc d) bs ss uu (all_then n.root es) (stand ∷ xd) state
            (rest_steps p log us blocks img ws all root n.root t n.places (suc d) bs ss es refl turned.rest turned.stretch rest.1) (within_then t n.places log ws turned.stretch) turn.3
            (subst (λ (l : FileLog). AllPaired (IsAt l) (stand ∷ xd) (next ∷ all_then n.root ds)) (sym same) (passed.own_at, passed.front))
            (subst (λ (l : FileLog). AllPaired (IsCalm log counts l) (stand ∷ xd) (next ∷ all_then n.root ds)) (sym same) (passed.own_calm, passed.calm_then))
            (subst (λ (l : FileLog). AreWaiting log counts l xs (all_then n.root es) uu) (sym same) passed.back)
            (subst (λ (k : ℕ). AreCounted log counts k xs uu) (sym (length-append all ws)) counted_then) in
            let behind = subst (λ (l : FileLog). AreThrough l (onto xd (stand ∷ xs)) (all_pending uu)) same later in
            let both = part_through log us counts img root t all d b ds e es f ws xd stand xs uu refl st turned.between done calm waiting.0.at waiting.0.settled count values waiting.1 counted_then [] ws (all_pending uu) refl behind in
            subst (λ (vs : List Write). AreThrough (now log us counts all) (onto xd (stand ∷ xs)) (vs ++ all_pending uu)) own both
      ]
  fold_course root last t end all ds d [] (s ∷ ss) uu es xd st rest fits x done calm waiting counted = absurd rest
  fold_course root last t end all ds d [] [] uu (e ∷ es) xd st rest fits x done calm waiting counted = absurd rest
  fold_course root last t end all ds d [] [] (u ∷ uu) [] xd st rest fits x done calm waiting counted = absurd x
  fold_course root last t end all ds d (b ∷ bs) [] uu es xd st rest fits x done calm waiting counted = absurd rest
  fold_course root last t end all ds d (b ∷ bs) (s ∷ ss) uu [] xd st rest fits x done calm waiting counted = absurd rest
  fold_course root last t end all ds d (b ∷ bs) (s ∷ ss) [] (e ∷ es) xd st rest fits x done calm waiting counted = absurd x

  -- ---- Where all begin

  first_at : (d : ℕ) (b : Begun) (s : Session) (e : Entry) → e.name ≡ s.name → Waits s.name (log_of d b log) [] e.moment e.held → (appended (log_of d b log) ≡ e.moment.values) ⊎ (1 ≤ up_to d counts)
      → IsAt (and_then (plans_each counts) log) (record { number = d; begun = b; name = s.name }) e
  first_at d b s e named w either =
      let goes : Goes s.name (log_of d b log) e.moment e.held = subst (λ (us : List Used). Goes s.name (log_of d b log) e.moment us) (sym w.plan.1) (subst (λ (m : Moment). Goes s.name (log_of d b log) m w.was) (sym w.plan.0) w.goes) in
      let settled : flushed (log_of d b log) ≡ e.moment.values = w.flushed 0 ∙ ap (λ (m : Moment). m.values) (sym w.plan.0) in
      let values : flushed_in 0 b.values (plans (up_to d counts) ∷ seen_by d log.events) ≡ e.moment.values =
      cond_both (nat_le (up_to d counts) 0) (appended (log_of d b log)) (flushed (log_of d b log)) (λ (vs : List ℤ). vs ≡ e.moment.values) (λ full. by either (leb-true (up_to d counts) 0 full)) (λ part. settled) in
      let planned = event_goes s.name (plans (up_to d counts)) (log_of d b log) e.moment e.held refl (sym values) goes in
      record { named = named; goes = subst (λ (n : List ℕ). Goes n (log_of d b (and_then (plans_each counts) log)) e.moment e.held) (sym named) planned }
    where
      by : (appended (log_of d b log) ≡ e.moment.values) ⊎ (1 ≤ up_to d counts) → up_to d counts ≤ 0 → appended (log_of d b log) ≡ e.moment.values
      by (inl none) low = none
      by (inr some) low = absurd (omega (arith, some, low))

  first_waiting : (first root last : Super) (t u end : Space) (n d : ℕ) (bs : List Begun) (ss uu : List Session) (es : List Entry) → AllRest first t us [] log d bs ss es → AreFlushed root u ss last end uu → AreCounted log counts n (stands_of d bs (names_in ss)) uu
      → AreWaiting log counts (and_then (plans_each counts) log) (stands_of d bs (names_in ss)) es uu
  first_waiting first root last t u end n d [] [] [] [] rest x c = tt
  first_waiting first root last t u end n d (b ∷ bs) (s ∷ ss) (v ∷ uu) (e ∷ es) rest x c =
      let i = rest.0.0 in
      let one = is_done p log us blocks first t [] d b s e rest.0.1 i in
      let waits = is_waiting p log us blocks first t [] d b s e rest.0.1 i in
      let settled : (k : ℕ) → flushed_in k b.values (seen_by d log.events) ≡ e.moment.values = λ k. waits.flushed k ∙ ap (λ (m : Moment). m.values) (sym waits.plan.0) in
      elim x [
        | inl none ↦
            let values : appended (log_of d b log) ≡ e.moment.values = sym (ap (λ (m : Moment). m.values) (sym one.runs.after) ∙ none_waits (rested first t s) [] one.own one.runs.running none.0 ∙ one.seen.appended) in (
              record { at = first_at d b s e i.name waits (inl values); settled = settled; either = inl values },
              first_waiting first root last t u end (n + length v.pending) (suc d) bs ss uu es rest.1 none.2 c.1,
            )
        | inr turn ↦
            let m = turn.0 in
            let own : length m.pending ≡ length v.pending = sym (ap (λ (y : Session). length y.pending) turn.2) in
            let some : 1 ≤ length m.pending = told_some (told_of s root u) m (Ok (length m.pending)) turn.1.flushed refl in
            let here : 1 ≤ length v.pending = omega (arith, some, own) in (
              record { at = first_at d b s e i.name waits (inr (let count = c.0 in omega (arith, count, here))); settled = settled; either = inr here },
              first_waiting first m.root last t m.places end (n + length v.pending) (suc d) bs ss uu es rest.1 turn.3 c.1,
            )
      ]
  first_waiting first root last t u end n d [] (s ∷ ss) uu es rest x c = absurd rest
  first_waiting first root last t u end n d [] [] uu (e ∷ es) rest x c = absurd rest
  first_waiting first root last t u end n d [] [] (v ∷ uu) [] rest x c = absurd x
  first_waiting first root last t u end n d (b ∷ bs) [] uu es rest x c = absurd rest
  first_waiting first root last t u end n d (b ∷ bs) (s ∷ ss) uu [] rest x c = absurd rest
  first_waiting first root last t u end n d (b ∷ bs) (s ∷ ss) [] (e ∷ es) rest x c = absurd x

  pub flush_course : (root last : Super) (t end : Space) (bs : List Begun) (ss uu : List Session) (es : List Entry) → AreKnown (last_image log []) t root us es → AreOff es → AllRest root t us [] log 0 bs ss es → IsWithin t log
      → AreFlushed root t ss last end uu → AreCounted log counts 0 (stands_of 0 bs (names_in ss)) uu → AreThrough (and_then (plans_each counts) log) (stands_of 0 bs (names_in ss)) (all_pending uu)
  flush_course root last t end bs ss uu es known off rest fits x counted =
      fold_course root last t end [] [] 0 bs ss uu es [] (record { passed = tt; known = known; apart = tt; off = off; across = tt }) rest fits x tt tt (first_waiting root root last t t end 0 0 bs ss uu es rest x counted) counted

-- ---- At rest

-- a dataset of which nothing is pending is where its run has come to
pub standing_at : (root : Super) (t : Space) (us : List Used) (log : FileLog) (d : ℕ) (bs : List Begun) (before : List Write) (ss : List Session) (es : List Entry) → AreStandingParts root t us [] log d bs before ss es → AllPaired (IsAt log) (stands_of d bs (names_of es)) es
standing_at root t us log d [] before [] [] x = tt
standing_at root t us log d (b ∷ bs) before (s ∷ ss) (e ∷ es) x =
    let run : HasRun s.name (log_of d b log) [] e = elim x.0.run [
      | inl h ↦ h
      | inr u ↦ absurd (u.some refl)
    ] in
    let goes = (rests s.name (log_of d b log) e.moment e.held (run_rests s.name (log_of d b log) e run)).goes in (
      record { named = refl; goes = subst (λ (n : List ℕ). Goes n (log_of d b log) e.moment e.held) (sym x.0.name) goes },
      standing_at root t us log (suc d) bs (before ++ s.pending) ss es x.1,
    )
standing_at root t us log d [] before (s ∷ ss) es x = absurd x
standing_at root t us log d [] before [] (e ∷ es) x = absurd x
standing_at root t us log d (b ∷ bs) before [] es x = absurd x
standing_at root t us log d (b ∷ bs) before (s ∷ ss) [] x = absurd x
