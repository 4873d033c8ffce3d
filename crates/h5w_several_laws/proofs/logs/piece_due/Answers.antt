use Rattle.h5w_several_laws.proofs.logs.piece_due.Goals as goal
use Rattle.h5w_several_laws.proofs.DueLemmas as lemmas

pub returns : goal.returns
returns c = lemmas.piece_due
