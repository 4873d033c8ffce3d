use Rattle.h5w_reader_laws.proofs.PremiseLemmas.{within_from_last}
use Rattle.h5w_reader_laws.proofs.headline.within_from_last.Goals as goal

pub returns : goal.returns
returns c = within_from_last
