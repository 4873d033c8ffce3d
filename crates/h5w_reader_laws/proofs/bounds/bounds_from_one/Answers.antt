use Rattle.h5w_reader_laws.proofs.PremiseLemmas.{bounds_from_one}
use Rattle.h5w_reader_laws.proofs.bounds.bounds_from_one.Goals as goal

pub returns : goal.returns
returns c = bounds_from_one
