use Rattle.h5w_laws.proofs.LinkLemmas.{same_links}
use Rattle.h5w_laws.proofs.several.same_links.Goals as goal

pub returns : goal.returns
returns c = same_links
