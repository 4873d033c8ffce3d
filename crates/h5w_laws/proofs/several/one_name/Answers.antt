use Rattle.h5w_laws.proofs.OneNameLemmas.{one_name}
use Rattle.h5w_laws.proofs.several.one_name.Goals as goal

pub returns : goal.returns
returns c = one_name
