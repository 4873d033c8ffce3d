use Rattle.h5w_reader_laws.proofs.StillLemmas.{still_refresh}
use Rattle.h5w_reader_laws.proofs.still.still_refresh.Goals as goal

pub returns : goal.returns
returns c = still_refresh
