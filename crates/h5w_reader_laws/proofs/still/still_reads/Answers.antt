use Rattle.h5w_reader_laws.proofs.StillReads.{still_reads}
use Rattle.h5w_reader_laws.proofs.still.still_reads.Goals as goal

pub returns : goal.returns
returns c = still_reads
