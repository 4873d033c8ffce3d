use Rattle.h5w_laws.proofs.HeldLemmas.{still_gives_held}
use Rattle.h5w_laws.proofs.held.still_gives_held.Goals as goal

pub returns : goal.returns
returns c = still_gives_held
