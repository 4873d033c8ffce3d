use Rattle.h5w_several_laws.proofs.turns.turns_follow.Goals as goal
use Rattle.h5w_several_laws.proofs.FoldLemmas as lemmas

pub returns : goal.returns
returns c = lemmas.turns_follow
