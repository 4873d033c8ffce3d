use Rattle.h5w_step_laws.proofs.PlanLaws as lemmas
use Rattle.h5w_step_laws.proofs.places.unseen_pieces.Goals as goal

pub returns : goal.returns
returns c = lemmas.unseen_pieces
