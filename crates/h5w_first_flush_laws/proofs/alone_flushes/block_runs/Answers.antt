use Rattle.h5w_first_flush_laws.proofs.alone_flushes.block_runs.Goals as goal
use Rattle.h5w_first_flush_laws.proofs.BlockLeadLemmas as lemmas

pub returns : goal.returns
returns c = lemmas.block_runs
