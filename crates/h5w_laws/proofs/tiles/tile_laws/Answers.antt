use Rattle.h5w_laws.proofs.TileLemmas.{tile_laws}
use Rattle.h5w_laws.proofs.tiles.tile_laws.Goals as goal

pub returns : goal.returns
returns c = tile_laws
