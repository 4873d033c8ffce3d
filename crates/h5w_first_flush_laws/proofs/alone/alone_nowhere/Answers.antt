use Rattle.h5w_first_flush_laws.proofs.alone.alone_nowhere.Goals as goal
use Rattle.h5w_first_flush_laws.proofs.AloneLemmas as lemmas

pub returns : goal.returns
returns c = lemmas.alone_nowhere
