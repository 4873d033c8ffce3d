use Rattle.h5w_laws.proofs.SeveralLemmas.{finds_all}
use Rattle.h5w_laws.proofs.several.finds_all.Goals as goal

pub returns : goal.returns
returns c = finds_all
