use Rattle.std.proofs.Common.{rules}
use Rattle.h5w_shared.proofs.TurnLemmas.{tells}
use Rattle.h5w_shared.proofs.place.Place.served.Goals as goal

pub load-requires : goal.load-requires
load-requires c = (search rules, search rules, tells _ _ _ _ _)
