use Rattle.h5w_first_flush_laws.proofs.alone_flushes.block_pieces.Goals as goal
use Rattle.h5w_first_flush_laws.proofs.BlockFlushLemmas as lemmas

pub returns : goal.returns
returns c = lemmas.block_pieces
