use Rattle.h5w_array_laws.proofs.NumberedLemmas as lemmas
use Rattle.h5w_array_laws.proofs.plans.plans_numbers.Goals as goal

pub returns : goal.returns
returns c = lemmas.plans_numbers
