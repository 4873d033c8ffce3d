use Rattle.h5w_index.proofs.DepthLemmas.{depth_laws}
use Rattle.h5w_index.proofs.laws.depth_laws.Goals as goal

pub returns : goal.returns
returns c = depth_laws
