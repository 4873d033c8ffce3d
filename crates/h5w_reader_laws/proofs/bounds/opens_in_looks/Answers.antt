use Rattle.h5w_reader_laws.proofs.BoundLemmas.{opens_in_looks}
use Rattle.h5w_reader_laws.proofs.bounds.opens_in_looks.Goals as goal

pub returns : goal.returns
returns c = opens_in_looks
