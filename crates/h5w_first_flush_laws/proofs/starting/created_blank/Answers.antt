use Rattle.h5w_first_flush_laws.proofs.starting.created_blank.Goals as goal
use Rattle.h5w_first_flush_laws.proofs.StartLemmas as lemmas

pub returns : goal.returns
returns c = lemmas.created_blank
