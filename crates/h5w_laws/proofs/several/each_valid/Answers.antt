use Rattle.h5w_laws.proofs.SeveralLemmas.{each_valid}
use Rattle.h5w_laws.proofs.several.each_valid.Goals as goal

pub returns : goal.returns
returns c = each_valid
