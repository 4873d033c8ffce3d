use Rattle.h5w_packing_laws.proofs.FileLemmas.{packed_file}
use Rattle.h5w_packing_laws.proofs.packed_file.Goals as goal

pub returns : goal.returns
returns c = packed_file
