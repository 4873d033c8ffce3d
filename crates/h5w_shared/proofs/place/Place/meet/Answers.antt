use Rattle.std.proofs.Common.{rules}
use Rattle.h5w_shared.proofs.TurnLemmas.{joins, tells}
use Rattle.h5w_shared.proofs.place.Place.meet.Goals as goal

pub join_seat-requires : goal.join_seat-requires
join_seat-requires c = (search rules, search rules, search rules, search rules, joins _ _ _ _ _ c.requires.rest.idle c.requires.other.idle)

pub load-self-requires : goal.load-self-requires
load-self-requires c = (search rules, search rules, tells _ _ _ _ _)
