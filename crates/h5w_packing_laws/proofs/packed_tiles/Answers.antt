use Rattle.h5w_packing_laws.proofs.PackedLemmas.{packed_tiles}
use Rattle.h5w_packing_laws.proofs.packed_tiles.Goals as goal

pub returns : goal.returns
returns c = packed_tiles
