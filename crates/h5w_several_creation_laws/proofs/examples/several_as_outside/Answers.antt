use Rattle.h5w_several_creation_laws.proofs.examples.several_as_outside.Goals as goal
use Rattle.h5w_several_creation_laws.proofs.ExampleLemmas as lemmas

pub returns : goal.returns
returns c = lemmas.as_outside
