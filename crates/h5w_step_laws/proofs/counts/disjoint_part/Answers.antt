use Rattle.h5w_step_laws.proofs.PartLemmas as lemmas
use Rattle.h5w_step_laws.proofs.counts.disjoint_part.Goals as goal

pub returns : goal.returns
returns c = lemmas.disjoint_part
