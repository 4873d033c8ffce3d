use Rattle.h5w_takeover_laws.proofs.one.carries.Goals as goal
use Rattle.h5w_takeover_laws.proofs.CarryOneLemmas as lemmas

pub returns : goal.returns
returns c = lemmas.carries
