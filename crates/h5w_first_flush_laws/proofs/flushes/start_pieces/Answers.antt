use Rattle.h5w_first_flush_laws.proofs.flushes.start_pieces.Goals as goal
use Rattle.h5w_first_flush_laws.proofs.StartPieceLemmas as lemmas

pub returns : goal.returns
returns c = lemmas.start_pieces
