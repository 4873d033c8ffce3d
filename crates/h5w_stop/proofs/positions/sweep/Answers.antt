use Rattle.std.proofs.Common.{◌≡◌, ℕ, ◌+◌, List, [], take, sym, ◌∙◌, ap, subst}
use Rattle.h5w_model.specs.Images.{image}
use Rattle.h5w_stop.specs.Outcomes.{AreRuns, outcome_at, outcome_in}
use Rattle.h5w_stop.specs.declared.report.Run.{Run}
use Rattle.h5w_stop.proofs.RunLemmas.{first_run}
use Rattle.h5w_stop.proofs.positions.sweep.Goals as goal

pub loop-position-init : goal.loop-position-init
loop-position-init c =
    let ws = c.args.journal.now.writes in
    record {
      image = c.find.ensures.image ∙ c.new-image.ensures;
      runs = subst (λ (rs : List Run). AreRuns (outcome_at ws c.args.name.now) 0 1 rs) (sym c.new-runs.ensures)
          (first_run (outcome_at ws c.args.name.now) c.in_ok-find.field-0 (sym (c.in_ok-find.ensures.outcome ∙ ap (λ (img : List ℕ). outcome_in img c.args.name.now) c.new-image.ensures)));
    }

pub loop-position-preserved : goal.loop-position-preserved
loop-position-preserved c =
    let ws = c.args.journal.now.writes in
    let l = c.loop-position in
    let here : c.show.new.image ≡ image [] (take (l.position + 1) ws) = c.in_ok-show.ensures in
    record {
      image = c.find-in-loop-position.ensures.image ∙ here;
      runs = c.in_ok-add.ensures (outcome_at ws c.args.name.now) (sym (c.in_ok-find-2.ensures.outcome ∙ ap (λ (img : List ℕ). outcome_in img c.args.name.now) here)) l.invariant.runs;
    }
