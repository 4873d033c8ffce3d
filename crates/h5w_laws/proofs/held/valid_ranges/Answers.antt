use Rattle.h5w_laws.proofs.RangeLemmas.{valid_ranges}
use Rattle.h5w_laws.proofs.held.valid_ranges.Goals as goal

pub returns : goal.returns
returns c = valid_ranges
