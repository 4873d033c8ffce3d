use Rattle.h5w_laws.proofs.LinkLemmas.{link_order}
use Rattle.h5w_laws.proofs.several.link_order.Goals as goal

pub returns : goal.returns
returns c = link_order
