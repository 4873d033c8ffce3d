use Rattle.h5w_array_laws.proofs.UnseenLemmas as lemmas
use Rattle.h5w_array_laws.proofs.naming.fresh_unseen.Goals as goal

pub returns : goal.returns
returns c = lemmas.fresh_unseen
