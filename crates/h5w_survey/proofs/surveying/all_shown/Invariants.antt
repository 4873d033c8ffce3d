use Rattle.h5w_survey.proofs.StepLemmas.{AreShown}
use Rattle.h5w_survey.proofs.surveying.all_shown.Given as goal

abbrev pub invariant-loop-name : goal.invariant-loop-name
invariant-loop-name g l = AreShown l.names l.root l.name-index (g.I.PieceRead.view l.initial.from) (g.I.PieceRead.view l.from) l.sources.items
