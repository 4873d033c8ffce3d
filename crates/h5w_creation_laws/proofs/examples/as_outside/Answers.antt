use Rattle.h5w_creation_laws.proofs.examples.as_outside.Goals as goal
use Rattle.h5w_creation_laws.proofs.ExampleLemmas as lemmas

pub returns : goal.returns
returns c = lemmas.as_outside
