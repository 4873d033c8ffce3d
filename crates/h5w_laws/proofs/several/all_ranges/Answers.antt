use Rattle.h5w_laws.proofs.SeveralLemmas.{all_ranges}
use Rattle.h5w_laws.proofs.several.all_ranges.Goals as goal

pub returns : goal.returns
returns c = all_ranges
