use Rattle.h5w_laws.proofs.EventLemmas.{event_laws}
use Rattle.h5w_laws.proofs.logs.event_laws.Goals as goal

pub returns : goal.returns
returns c = event_laws
