use Rattle.h5w_reader_laws.proofs.CallLemmas.{refreshes_to_rows}
use Rattle.h5w_reader_laws.proofs.headline.refreshes_to_rows.Goals as goal

pub returns : goal.returns
returns c = refreshes_to_rows
