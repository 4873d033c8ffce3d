use Rattle.h5w_reader_laws.proofs.CallLemmas.{opens_on_rows}
use Rattle.h5w_reader_laws.proofs.headline.opens_on_rows.Goals as goal

pub returns : goal.returns
returns c = opens_on_rows
