use Rattle.h5w_step_laws.proofs.PlanLaws as lemmas
use Rattle.h5w_step_laws.proofs.places.own_cells.Goals as goal

pub returns : goal.returns
returns c = lemmas.own_cells
