use Rattle.h5w_array_laws.proofs.FileLemmas as lemmas
use Rattle.h5w_array_laws.proofs.naming.file_tells.Goals as goal

pub returns : goal.returns
returns c = lemmas.file_tells
