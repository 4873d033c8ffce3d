use Rattle.h5w_reader_laws.proofs.ReadLooks.{reads_in_looks}
use Rattle.h5w_reader_laws.proofs.bounds.reads_in_looks.Goals as goal

pub returns : goal.returns
returns c = reads_in_looks
