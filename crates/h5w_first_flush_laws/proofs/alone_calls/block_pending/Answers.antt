use Rattle.h5w_first_flush_laws.proofs.alone_calls.block_pending.Goals as goal
use Rattle.h5w_first_flush_laws.proofs.BlockCallLemmas as lemmas

pub returns : goal.returns
returns c = lemmas.block_pending
