use Rattle.h5w_model.specs.Logs.{hist}
use Rattle.h5w_shared.specs.Threads.{seen_after}
use Rattle.h5w_shared.proofs.Beginnings.{starts_both}
use Rattle.h5w_shared.proofs.ThreadLemmas.{readers_call}
use Rattle.h5w_replica.proofs.laws.mirrored_call.Goals as goal

pub returns : goal.returns
returns c log second from sights mirrored looks within = readers_call log from sights looks (starts_both (hist log.events) second (seen_after from sights) mirrored within)
