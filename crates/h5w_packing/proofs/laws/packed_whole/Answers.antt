use Rattle.h5w_packing.proofs.WholeLemmas.{packed_whole}
use Rattle.h5w_packing.proofs.laws.packed_whole.Goals as goal

pub returns : goal.returns
returns c = packed_whole
