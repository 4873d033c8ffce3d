use Rattle.h5w_writer_laws.proofs.ServedLemmas.{session_serves}
use Rattle.h5w_writer_laws.proofs.served.session_serves.Goals as goal

pub returns : goal.returns
returns c = session_serves
