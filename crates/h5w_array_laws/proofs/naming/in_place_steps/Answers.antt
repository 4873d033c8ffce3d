use Rattle.h5w_array_laws.proofs.NamingLemmas as lemmas
use Rattle.h5w_array_laws.proofs.naming.in_place_steps.Goals as goal

pub returns : goal.returns
returns c = lemmas.in_place_steps
