use Rattle.h5w_several_laws.proofs.beside.flush_untold.Goals as goal
use Rattle.h5w_several_laws.proofs.BesideLemmas as lemmas

pub returns : goal.returns
returns c = lemmas.flush_untold
