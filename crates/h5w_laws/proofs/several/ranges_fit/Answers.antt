use Rattle.h5w_laws.proofs.FitLemmas.{ranges_fit}
use Rattle.h5w_laws.proofs.several.ranges_fit.Goals as goal

pub returns : goal.returns
returns c = ranges_fit
