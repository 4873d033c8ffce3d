use Rattle.h5w_array_laws.proofs.TableLemmas as lemmas
use Rattle.h5w_array_laws.proofs.tables.plan_is_read.Goals as goal

pub returns : goal.returns
returns c = lemmas.plan_is_read
