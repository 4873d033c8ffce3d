use Rattle.h5w_first_flush_laws.proofs.starting.blank_held.Goals as goal
use Rattle.h5w_first_flush_laws.proofs.StartLemmas as lemmas

pub returns : goal.returns
returns c = lemmas.blank_held
