use Rattle.h5w_packing_laws.proofs.PackedLemmas.{packed_made}
use Rattle.h5w_packing_laws.proofs.packed_made.Goals as goal

pub returns : goal.returns
returns c = packed_made
