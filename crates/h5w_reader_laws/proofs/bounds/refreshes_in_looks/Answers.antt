use Rattle.h5w_reader_laws.proofs.BoundLemmas.{refreshes_in_looks}
use Rattle.h5w_reader_laws.proofs.bounds.refreshes_in_looks.Goals as goal

pub returns : goal.returns
returns c = refreshes_in_looks
