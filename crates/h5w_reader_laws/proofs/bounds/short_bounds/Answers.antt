use Rattle.h5w_reader_laws.proofs.BoundLemmas.{short_bounds}
use Rattle.h5w_reader_laws.proofs.bounds.short_bounds.Goals as goal

pub returns : goal.returns
returns c = short_bounds
