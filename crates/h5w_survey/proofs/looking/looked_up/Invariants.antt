use Rattle.std.proofs.Common.{◌≡◌, ℕ, List, None}
use Rattle.h5w_model.specs.Programs.{eval}
use Rattle.h5w_image.specs.View.{Looked}
use Rattle.h5w_laws.specs.MostLooks.{most_looks}
use Rattle.h5w_looks.specs.Still.{IsStill}
use Rattle.h5w_lookup.specs.Attempts.{looked_up, rules_of}
use Rattle.h5w_survey.proofs.looking.looked_up.Given as goal

abbrev pub invariant-loop-step : goal.invariant-loop-step
invariant-loop-step g l = record {
  looked : Looked (g.I.PieceRead.view l.initial.image) (g.I.PieceRead.view l.image);
  exact : (img : List ℕ) → IsStill (g.I.PieceRead.view l.initial.image) img → eval img (looked_up (rules_of l.rules None) l.step) ≡ eval img (looked_up (rules_of l.rules None) l.initial.step);
}

abbrev pub decreases-loop-step : goal.decreases-loop-step
decreases-loop-step g l = most_looks (looked_up (rules_of l.rules None) l.step)
