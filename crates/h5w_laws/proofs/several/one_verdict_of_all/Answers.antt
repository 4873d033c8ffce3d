use Rattle.h5w_laws.proofs.SeveralLemmas.{one_verdict_of_all}
use Rattle.h5w_laws.proofs.several.one_verdict_of_all.Goals as goal

pub returns : goal.returns
returns c = one_verdict_of_all
