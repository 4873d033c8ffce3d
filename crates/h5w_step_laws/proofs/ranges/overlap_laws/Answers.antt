use Rattle.h5w_step_laws.proofs.ranges.overlap_laws.Goals as goal
use Rattle.h5w_step_laws.proofs.OverlapLemmas as lemmas

pub returns : goal.returns
returns c = lemmas.overlap_laws
