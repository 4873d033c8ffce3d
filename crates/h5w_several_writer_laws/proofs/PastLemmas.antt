-- What a piece leaves of the end of a file and of the addresses of a dataset's chunks.
use Rattle.std.proofs.Common.{◌≡◌, ◌≢◌, ◌⊎◌, ℕ, suc, ◌+◌, ◌<◌, ◌≤◌, false, List, [], ◌∷◌, ◌++◌, length, take, Ok, refl, sym, ◌∙◌, ap, subst, inl, inr, arith}
use Rattle.std.specs.Prelude.{nat_lt, if◌then◌else◌}
use Rattle.std.proofs.lemmas.Bool.{cases_lt, cond-false}
use Rattle.std.proofs.lemmas.List.{take-append-le, take_all}
use Rattle.h5w_model.specs.Findings.{Used}
use Rattle.h5w_model.specs.Images.{apply, image}
use Rattle.h5w_model.specs.Logs.{Log, and_now, flushed, flushed_in, shows}
use Rattle.h5w_model.specs.Numbers.{range}
use Rattle.h5w_model.specs.Several.{Begun, FileLog, log_of, pieces_in, shown_in, shows_all}
use Rattle.h5w_model.specs.Superblock.{super_at}
use Rattle.h5w_model.specs.Tables.{Reading, Shows, format_limits}
use Rattle.h5w_model.specs.declared.piece.Write.{Write}
use Rattle.h5w_model.specs.declared.root.Super.{Super}
use Rattle.h5w_space.specs.Space.{Space}
use Rattle.h5w_step_laws.specs.Logs.{image_now}
use Rattle.h5w_step_laws.specs.Moments.{Moment, Represents, reading_of}
use Rattle.h5w_step_laws.specs.Plans.{Flush, Plan}
use Rattle.h5w_step_laws.specs.Steps.{Step, commits, ends, switches, unseen}
use Rattle.h5w_step_laws.proofs.FoundLemmas.{moment_shows}
use Rattle.h5w_step_laws.proofs.GoesLemmas.{image_pushed}
use Rattle.h5w_step_laws.proofs.MomentLemmas.{super_parts}
use Rattle.h5w_step_laws.proofs.PlanLaws.{plan_flush, plan_from, plan_values}
use Rattle.h5w_step_laws.proofs.StepRepresents.{step_represents}
use Rattle.h5w_several_laws.specs.Dues.{RunsTo}
use Rattle.h5w_several_laws.specs.Turns.{Entry}
use Rattle.h5w_several_laws.proofs.DueLemmas.{heads}
use Rattle.h5w_several_laws.proofs.SeenLemmas.{seen_laws}
use Rattle.h5w_writer.specs.Loads.{end_in}
use Rattle.h5w_writer.specs.Past.{AllAddressed}
use Rattle.h5w_writer.specs.Openings.{opened_log}
use Rattle.h5w_writer.specs.PartLaws.{RunsAs}
use Rattle.h5w_writer.specs.Sessions.{Session}
use Rattle.h5w_writer.specs.Told.{told_log}
use Rattle.h5w_writer.proofs.AddressedLemmas.{shown_addressed, step_addressed}
use Rattle.h5w_several_writer_laws.specs.Began.{began_end, end_among}
use Rattle.h5w_several_writer_laws.specs.Standing.{HasPast, HasRun, IsDone, IsUnbegun, and_then, end_now}
use Rattle.h5w_several_writer_laws.proofs.RunLemmas.{first_file, run_each}
use Rattle.h5w_several_writer_laws.proofs.SeenLemmas.{length_pieces, shown_seen}

-- ---- One piece

-- what the next piece of a run is: where no rows come with it the values stay
record HasStep (name : List ℕ) (log : Log) (w : Write) : Type 0 where
  before : Moment
  held : List Used
  between : Moment
  now : List Used
  file : Represents (image_now log) name before
  some : 0 < before.dataset.shape.cols
  step : Step (image_now log) before held w between now
  level : flushed (and_now (shows w) log) ≡ flushed log → between.values ≡ before.values

module _ (name : List ℕ) (log : Log) (w : Write) (left : List Write) (e : Entry) (h : HasRun name log (w ∷ left) e) where
  abbrev r : RunsTo name log h.due (w ∷ left) e.moment e.held
  r = h.runs

  some_columns : 0 < r.before.dataset.shape.cols
  some_columns = let some = r.goes.some_columns in omega (arith, some, r.goes.columns)

  last_values : (own : List Write) (m : Moment) (held : List Used) → h.due ≡ suc (length own) → Flush (apply w (image_now log)) m held own r.middle r.now → Plan (image (image_now log) (w ∷ own)) r.middle r.now r.others e.moment e.held → (own ≢ [] → m.values ≡ r.before.values)
      → flushed (and_now (shows w) log) ≡ flushed log → m.values ≡ r.before.values
  last_values [] m held due f p stays same =
      let whole : e.moment.values ≡ r.middle.values = plan_values (image (image_now log) (w ∷ [])) r.middle e.moment r.now e.held r.others p in
      let now : flushed_in 1 log.values log.events ≡ e.moment.values =
      subst (λ (n : ℕ). flushed_in 1 log.values log.events ≡ (if nat_lt 1 n then r.before.values else e.moment.values)) due (r.flushed 1) ∙ cond-false (nat_lt 1 1) r.before.values e.moment.values refl in
      ap (λ (x : Moment). x.values) (sym f.0) ∙ sym whole ∙ sym now ∙ same ∙ sym r.goes.values
  last_values (v ∷ own) m held due f p stays same = stays (λ none. cc)

  has_step : HasStep name log w
  has_step = go r.own r.cut r.due_is r.flush r.plan
    where
      go : (own : List Write) → w ∷ left ≡ own ++ r.others → h.due ≡ length own → Flush (image_now log) r.before r.held own r.middle r.now → Plan (image (image_now log) own) r.middle r.now r.others e.moment e.held → HasStep name log w
      go [] cut due f p =
          let q : Plan (image_now log) r.before r.held r.others e.moment e.held = plan_from (image_now log) r.before r.middle e.moment r.held r.now e.held r.others f.0 f.1 p in
          let own : Plan (image_now log) r.before r.held (w ∷ left) e.moment e.held = subst (λ (xs : List Write). Plan (image_now log) r.before r.held xs e.moment e.held) (sym cut) q in
          record { before = r.before; held = r.held; between = own.0; now = own.1; file = r.goes.now; some = some_columns; step = own.2; level = λ same. own.3 }
      go (v ∷ own) cut due f p =
          let same : v ≡ w = sym (heads w v left (own ++ r.others) cut) in
          let g = subst (λ (x : Write). Flush (image_now log) r.before r.held (x ∷ own) r.middle r.now) same f in
          let q = subst (λ (x : Write). Plan (image (image_now log) (x ∷ own)) r.middle r.now r.others e.moment e.held) same p in
          record { before = r.before; held = r.held; between = g.0; now = g.1; file = r.goes.now; some = some_columns; step = g.2; level = last_values own g.0 g.1 due g.4 q g.3 }

-- no piece takes the end back
step_end : (img : List ℕ) (m : Moment) (held : List Used) (w : Write) (n : Moment) (after : List Used) → Step img m held w n after → m.super.end ≤ n.super.end
step_end img m held w n after (unseen hidden misses same kept) = let s = ap (λ (x : Moment). x.super.end) same in omega (arith, s)
step_end img m held w n after (ends e kept) = e.rises
step_end img m held w n after (switches s off clear kept) = let is = ap (λ (x : Moment). x.super.end) s.is in omega (arith, is)
step_end img m held w n after (commits c kept) = let is = ap (λ (x : Moment). x.super.end) c.is in omega (arith, is)

-- the end that the file of a moment has
pub end_of_moment : (img name : List ℕ) (m : Moment) → Represents img name m → end_in (super_at (range img 0 48)) ≡ m.super.end
end_of_moment img name m r = ap end_in (super_parts (length img) (range img 0 48) m.super r.super).read

flush_end : (img : List ℕ) (m n : Moment) (held after : List Used) (ws : List Write) → Flush img m held ws n after → m.super.end ≤ n.super.end
flush_end img m n held after [] f = let same = ap (λ (x : Moment). x.super.end) f.0 in omega (arith, same)
flush_end img m n held after (w ∷ ws) f = let one = step_end img m held w f.0 f.1 f.2 in let rest = flush_end (apply w img) f.0 n f.1 after ws f.4 in omega (arith, one, rest)

-- nor do all that are left
pub run_end : (name : List ℕ) (log : Log) (left : List Write) (e : Entry) → HasRun name log left e → end_in (super_at (range (image_now log) 0 48)) ≤ e.moment.super.end
run_end name log left e h =
    let r = h.runs in
    let now = end_of_moment (image_now log) name r.before r.goes.now in
    let own = flush_end (image_now log) r.before r.middle r.held r.now r.own r.flush in
    let others = flush_end (image (image_now log) r.own) r.middle e.moment r.now e.held r.others (plan_flush (image (image_now log) r.own) r.middle e.moment r.now e.held r.others r.plan) in
    omega (arith, now, own, others)

-- ---- Of a file

module _ (log : FileLog) (b : Begun) (w : Write) (e : Entry) where
  abbrev next : FileLog
  next = and_then (shows_all w) log

  -- what is known of the image with the piece is known of all
  past_with : HasPast log b e → (log.start ≡ []) ⊎ (began_end next ≤ end_now next)
      → (b.values ≡ [] → log.first ≤ shown_in next.events → (r : Reading) → Shows format_limits (image log.start (pieces_in next.events)) e.name r → AllAddressed r) → HasPast next b e
  past_with x raised here = record {
    raised = raised;
    addressed = λ bare p r low high seen. elim (cases_lt (shown_in log.events) p) [
      | inl more ↦
          let all : take p (pieces_in next.events) ≡ pieces_in next.events = take_all p (pieces_in next.events) (omega (arith, more, length_pieces next.events)) in
          here bare (omega (arith, low, high)) r (subst (λ (ws : List Write). Shows format_limits (image log.start ws) e.name r) all seen)
      | inr less ↦
          let front : take p (pieces_in next.events) ≡ take p (pieces_in log.events) = take-append-le p (pieces_in log.events) (w ∷ []) (omega (arith, less, length_pieces log.events)) in
          x.addressed bare p r low less (subst (λ (ws : List Write). Shows format_limits (image log.start ws) e.name r) front seen)
    ];
    next = x.next;
  }

  -- a piece of a run, which brings no rows, or behind which the image is one whose chunks have addresses
  pub past_shown : (d : ℕ) (left : List Write) → HasRun e.name (log_of d b log) (w ∷ left) e
      → (b.values ≡ [] → (flushed (log_of d b next) ≡ flushed (log_of d b log)) ⊎ ((r : Reading) → Shows format_limits (image log.start (pieces_in next.events)) e.name r → AllAddressed r)) → HasPast log b e → HasPast next b e
  past_shown d left h either x =
      let view : Log = log_of d b log in
      let s = has_step e.name view w left e h in
      let there = step_represents (image_now view) e.name s.before s.held w s.between s.now s.file s.step in
      let was : image_now view ≡ image log.start (pieces_in log.events) = ap (image log.start) (seen_laws.pieces d log.events) in
      let now : apply w (image_now view) ≡ image log.start (pieces_in next.events) = sym (image_pushed view w) ∙ ap (image log.start) (seen_laws.pieces d next.events) in
      let file = subst (λ (i : List ℕ). Represents i e.name s.before) was s.file in
      let shown_file = subst (λ (i : List ℕ). Represents i e.name s.between) now there in
      let old = end_of_moment (image log.start (pieces_in log.events)) e.name s.before file in
      let new = end_of_moment (image log.start (pieces_in next.events)) e.name s.between shown_file in
      let rises = step_end (image_now view) s.before s.held w s.between s.now s.step in
      past_with x
      (elim x.raised [
        | inl none ↦ inl none
        | inr up ↦ inr (omega (arith, up, old, new, rises))
      ])
      (λ bare begun r seen. elim (either bare) [
        | inl level ↦
            let before : AllAddressed (reading_of s.before) =
            x.addressed bare (shown_in log.events) (reading_of s.before) (let at = h.runs.goes.begun in omega (arith, at, shown_seen d log.events)) (omega arith)
            (subst (λ (ws : List Write). Shows format_limits (image log.start ws) e.name (reading_of s.before)) (sym (take_all (shown_in log.events) (pieces_in log.events) (omega (arith, length_pieces log.events)))) (moment_shows (image log.start (pieces_in log.events)) e.name s.before file)) in
            let after = step_addressed (image_now view) e.name s.before s.held w s.between s.now s.file s.some s.step (s.level level) before in
            shown_addressed (image log.start (pieces_in next.events)) e.name s.between r shown_file after seen
        | inr known ↦ known r seen
      ])

  -- a piece of a file that no reader finds yet
  pub past_unbegun : (left : List Write) (s : Session) → IsUnbegun log (w ∷ left) s → (left ≡ [] → Represents (image log.start (pieces_in next.events)) e.name e.moment) → HasPast log b e → HasPast next b e
  past_unbegun left s u file x =
      past_with x (inl u.new) (λ bare begun r seen. shown_addressed (image log.start (pieces_in next.events)) e.name e.moment r (file (none left (let first = u.first in omega (arith, first, begun)))) (x.next bare) seen)
    where
      none : (ws : List Write) → length ws ≤ 0 → ws ≡ []
      none [] low = refl
      none (v ∷ ws) low = absurd (omega (arith, low))

-- of a dataset to which the piece brings no rows, where there was a file and where there was none yet
pub past_level : (root : Super) (t : Space) (w : Write) (left : List Write) (log : FileLog) (d : ℕ) (b : Begun) (s : Session) (e : Entry) → e.name ≡ s.name → HasRun s.name (log_of d b log) (w ∷ left) e ⊎ IsUnbegun log (w ∷ left) s
    → (s.flushing ≡ false → IsDone root t left (and_then (shows_all w) log) d b s e) → flushed (log_of d b (and_then (shows_all w) log)) ≡ flushed (log_of d b log) → HasPast log b e → HasPast (and_then (shows_all w) log) b e
past_level root t w left log d b s e name (inl h) done level x = past_shown log b w e d left (subst (λ (n : List ℕ). HasRun n (log_of d b log) (w ∷ left) e) (sym name) h) (λ bare. inl level) x
past_level root t w left log d b s e name (inr u) done level x = past_unbegun log b w e left s u (λ none. file left none u (done u.calm)) x
  where
    file : (ws : List Write) → ws ≡ [] → IsUnbegun log (w ∷ ws) s → IsDone root t ws (and_then (shows_all w) log) d b s e → Represents (image log.start (pieces_in log.events ++ w ∷ [])) e.name e.moment
    file [] none u y =
        subst (λ (n : List ℕ). Represents (image log.start (pieces_in log.events ++ w ∷ [])) n e.moment) (sym name)
        (first_file root t log w d b s e y (let first = u.first in omega (arith, first)) (run_each log d b (w ∷ []) s e (inr u)))
    file (v ∷ ws) none u y = absurd cc

-- ---- The beginning

-- over a file that was opened
pub past_opened : (img : List ℕ) (sets : List Begun) (b : Begun) (was : Super) → super_at (range img 0 48) ≡ Ok was → (s : Session) (n : ℕ) (ws : List Write) (e : Entry) (t : Space) → RunsAs s [] (told_log n ws (opened_log img b.columns b.values)) e.moment e.address e.held t → e.name ≡ s.name
    → HasPast (record { start = img; sets = sets; first = 0; events = [] }) b e
past_opened img sets b was is s n ws e t x name =
    let past = x.running.past in
    let end = ap end_in is in
    let began = ap (end_among (length sets)) is in
    record {
      raised = inr (omega (arith, end, began));
      addressed = λ bare p r low high seen. past.addressed bare 0 r (record { begun = omega arith; reached = omega arith }) (subst (λ (k : List ℕ). Shows format_limits img k r) name (subst (λ (vs : List Write). Shows format_limits (image img vs) e.name r) (take_all p [] (omega arith)) seen));
      next = λ bare. subst (λ (m : Moment). AllAddressed (reading_of m)) x.after (past.next bare);
    }

-- before the first position of a file that the session creates
pub past_created : (log : FileLog) (b : Begun) (s : Session) (l : Log) (e : Entry) (t : Space) → log.start ≡ [] → shown_in log.events < log.first → l.values ≡ b.values → RunsAs s [] l e.moment e.address e.held t → HasPast log b e
past_created log b s l e t new first values x = record {
  raised = inl new;
  addressed = λ bare p r low high seen. absurd (omega (arith, first, low, high));
  next = λ bare. subst (λ (m : Moment). AllAddressed (reading_of m)) x.after (x.running.past.next (values ∙ bare));
}
