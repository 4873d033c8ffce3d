use Rattle.h5w_packing_laws.proofs.FileLemmas.{packed_blocks}
use Rattle.h5w_packing_laws.proofs.packed_blocks.Goals as goal

pub returns : goal.returns
returns c = packed_blocks
