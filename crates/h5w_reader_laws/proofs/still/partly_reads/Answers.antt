use Rattle.h5w_reader_laws.proofs.PartReads.{partly_reads}
use Rattle.h5w_reader_laws.proofs.still.partly_reads.Goals as goal

pub returns : goal.returns
returns c = partly_reads
