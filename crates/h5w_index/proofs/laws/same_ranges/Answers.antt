use Rattle.h5w_index.proofs.ToldLemmas.{same_ranges}
use Rattle.h5w_index.proofs.laws.same_ranges.Goals as goal

pub returns : goal.returns
returns c = same_ranges
