use Rattle.h5w_packing_laws.proofs.PackedLemmas.{packed_index}
use Rattle.h5w_packing_laws.proofs.packed_index.Goals as goal

pub returns : goal.returns
returns c = packed_index
