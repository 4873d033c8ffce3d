use Rattle.h5w_array_laws.proofs.WriteLemmas as lemmas
use Rattle.h5w_array_laws.proofs.writes.plan_copies.Goals as goal

pub returns : goal.returns
returns c = lemmas.plan_copies
