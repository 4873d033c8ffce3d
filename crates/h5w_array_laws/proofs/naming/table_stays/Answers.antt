use Rattle.h5w_array_laws.proofs.FileLemmas as lemmas
use Rattle.h5w_array_laws.proofs.naming.table_stays.Goals as goal

pub returns : goal.returns
returns c = lemmas.table_stays
