-- What the run of a dataset tells of the positions of the file.
use Rattle.std.proofs.Common.{◌≡◌, ◌⊎◌, ℕ, ◌≤◌, List, [], ◌∷◌, length, take, sym, ◌∙◌, subst, inl, inr, arith}
use Rattle.std.proofs.lemmas.Bool.{ltb-false}
use Rattle.h5w_model.specs.Datasets.{Described}
use Rattle.h5w_model.specs.Images.{image}
use Rattle.h5w_model.specs.Logs.{Happening, Log, hist, shown}
use Rattle.h5w_model.specs.Prefixed.{EachReads, Held, IsPosition, Prefixed, PrefixedEach, ReadsNow, SameDescribed, Still, image_at}
use Rattle.h5w_model.specs.Several.{Begun, FileLog, log_of, pieces_in, shown_in}
use Rattle.h5w_model.specs.Tables.{Reading, Shows, format_limits, limit_of, needed}
use Rattle.h5w_model.specs.declared.piece.Write.{Write}
use Rattle.h5w_laws.proofs.HeldLemmas.{still_gives_held}
use Rattle.h5w_laws.proofs.LogLemmas.{each_gives_prefixed, length_hist}
use Rattle.h5w_laws.proofs.StaysLemmas.{described_onward}
use Rattle.h5w_step_laws.specs.Logs.{image_now}
use Rattle.h5w_step_laws.specs.Moments.{reading_of}
use Rattle.h5w_step_laws.proofs.FoundLemmas.{moment_shows, opens, shown_is}
use Rattle.h5w_step_laws.proofs.GoesLemmas.{image_last}
use Rattle.h5w_step_laws.proofs.MomentLemmas.{few}
use Rattle.h5w_step_laws.proofs.PlanLaws.{flush_leads, plan_flush}
use Rattle.h5w_several_laws.specs.Turns.{Entry}
use Rattle.h5w_several_laws.proofs.SeenLemmas.{seen_laws}
use Rattle.h5w_writer.specs.Laws.{IsDatasetOf}
use Rattle.h5w_writer.specs.Past.{AllAddressed}
use Rattle.h5w_writer.specs.Sessions.{Session}
use Rattle.h5w_writer.proofs.DatasetLemmas.{dataset_of, flush_keeps}
use Rattle.h5w_several_writer_laws.specs.Standing.{HasPast, HasRun, IsUnbegun}
use Rattle.h5w_several_writer_laws.proofs.RunLemmas.{some_count}
use Rattle.h5w_several_writer_laws.proofs.SeenLemmas.{shown_seen}

last_reads : (name : List ℕ) (log : Log) (es : List Happening) → EachReads name log es → log.first ≤ shown es → ReadsNow name (record log { events = es })
last_reads name log [] each begun = each begun
last_reads name log (e ∷ es) each begun = each.0 begun

module _ (log : FileLog) (d : ℕ) (b : Begun) (left : List Write) (s : Session) (e : Entry) (run : HasRun s.name (log_of d b log) left e ⊎ IsUnbegun log left s) (each : PrefixedEach s.name (log_of d b log)) where
  abbrev sight : Log
  sight = log_of d b log

  many : length (hist sight.events) ≡ shown_in log.events
  many = length_hist sight.events ∙ shown_seen d log.events

  pub run_prefixed : Prefixed s.name sight
  run_prefixed = each_gives_prefixed s.name sight each

  -- before the first position there is none
  none_yet : IsUnbegun log left s → (p : ℕ) → log.first ≤ p → p ≤ length (hist sight.events) → ⊥
  none_yet u p low high = let first = u.first in let some = some_count left u.some in absurd (omega (arith, first, some, low, high, many))

  pub run_still : Still s.name sight
  run_still k low short = elim run [
    | inl h ↦ h.runs.goes.still k low short
    | inr u ↦ absurd (none_yet u k low (omega (arith, short)))
  ]

  pub run_held : Held s.name sight
  run_held = still_gives_held s.name sight run_prefixed run_still

  pub run_now : log.first ≤ shown_in log.events → ReadsNow s.name sight
  run_now begun = last_reads s.name sight sight.events each (omega (arith, begun, shown_seen d log.events))

  pub run_few : (p : ℕ) (r : Reading) → IsPosition sight p → Shows format_limits (image_at sight p) s.name r → needed r.dataset ≤ limit_of format_limits r.dataset.layout.index
  run_few p r at shows =
      let here = run_prefixed p at in
      let file = opens (image_at sight p) s.name _ sight.columns _ here.summary here.valid here.reads in
      let m = file.0 in
      let top = limit_of format_limits m.dataset.layout.index in
      let inside : needed m.dataset ≤ top = ltb-false top (needed m.dataset) (few (image_at sight p) s.name m file.1) in
      subst (λ (x : Reading). needed x.dataset ≤ limit_of format_limits x.dataset.layout.index) (sym (shown_is (image_at sight p) s.name m r file.1 shows)) inside

  -- the dataset is the session's, but for its rows
  pub run_dataset : e.moment.place ≡ s.place → e.moment.dataset ≡ s.dataset → (p : ℕ) (r : Reading) → IsPosition sight p → Shows format_limits (image_at sight p) s.name r → IsDatasetOf s r
  run_dataset place dataset p r at shows = elim run [
    | inl h ↦
        let x = h.runs in
        let m = x.before in
        let g = x.goes in
        let last : ℕ = shown sight.events in
        let now : IsPosition sight last = record { begun = g.begun; reached = omega (arith, length_hist sight.events) } in
        let seen : Shows format_limits (image_at sight last) s.name (reading_of m) =
        subst (λ (i : List ℕ). Shows format_limits i s.name (reading_of m)) (sym (image_last sight last (omega arith))) (moment_shows (image_now sight) s.name m g.now) in
        let kept = (run_held p last r (reading_of m) at now (omega (arith, at.reached, length_hist sight.events)) shows seen).stays in
        let own = flush_keeps (image_now sight) s.name m x.middle x.held x.now x.own g.now x.flush in
        let there = flush_leads (image_now sight) s.name m x.middle x.held x.now x.own g.now x.flush in
        let others = flush_keeps (image (image_now sight) x.own) s.name x.middle e.moment x.now e.held x.others there (plan_flush (image (image_now sight) x.own) x.middle e.moment x.now e.held x.others x.plan) in
        let later = described_onward m.dataset x.middle.dataset e.moment.dataset own.described others.described in
        let described = described_onward r.dataset m.dataset e.moment.dataset kept.described later in
        dataset_of s r (sym place ∙ others.place ∙ own.place ∙ kept.place) (subst (λ (y : Described). SameDescribed r.dataset y) dataset described)
    | inr u ↦ absurd (none_yet u p at.begun at.reached)
  ]

  pub run_addressed : e.name ≡ s.name → HasPast log b e → b.values ≡ [] → (p : ℕ) (r : Reading) → IsPosition sight p → Shows format_limits (image_at sight p) s.name r → AllAddressed r
  run_addressed name x bare p r at shows =
      let there = subst (λ (ws : List Write). Shows format_limits (image log.start (take p ws)) s.name r) (seen_laws.pieces d log.events) shows in
      x.addressed bare p r at.begun (omega (arith, at.reached, many)) (subst (λ (n : List ℕ). Shows format_limits (image log.start (take p (pieces_in log.events))) n r) (sym name) there)
