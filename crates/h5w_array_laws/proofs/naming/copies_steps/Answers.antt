use Rattle.h5w_array_laws.proofs.FileLemmas as lemmas
use Rattle.h5w_array_laws.proofs.naming.copies_steps.Goals as goal

pub returns : goal.returns
returns c = lemmas.copies_steps
