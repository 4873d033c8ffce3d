use Rattle.h5w_array_laws.proofs.FileLemmas as lemmas
use Rattle.h5w_array_laws.proofs.tables.standing_index.Goals as goal

pub returns : goal.returns
returns c = lemmas.standing_index
