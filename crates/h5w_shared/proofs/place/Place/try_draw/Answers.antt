use Rattle.std.proofs.Common.{rules}
use Rattle.h5w_shared.proofs.TurnLemmas.{draws}
use Rattle.h5w_shared.proofs.place.Place.try_draw.Goals as goal

pub compare_exchange-found-requires : goal.compare_exchange-found-requires
compare_exchange-found-requires c = (search rules, search rules, draws _ _ _ _ _ _ c.requires.rest.counts.draws c.requires.rest.idle)
