use Rattle.h5w_step_laws.proofs.ranges.missed_stay.Goals as goal
use Rattle.h5w_step_laws.proofs.RangeLemmas as lemmas

pub returns : goal.returns
returns c = lemmas.missed_stay
