use Rattle.h5w_reader_laws.proofs.EndLemmas.{ends_when_still}
use Rattle.h5w_reader_laws.proofs.headline.ends_when_still.Goals as goal

pub returns : goal.returns
returns c = ends_when_still
