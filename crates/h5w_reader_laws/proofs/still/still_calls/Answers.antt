use Rattle.h5w_reader_laws.proofs.StillLemmas.{still_calls}
use Rattle.h5w_reader_laws.proofs.still.still_calls.Goals as goal

pub returns : goal.returns
returns c = still_calls
