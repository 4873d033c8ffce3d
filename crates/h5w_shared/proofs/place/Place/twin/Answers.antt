use Rattle.std.proofs.Common.{rules}
use Rattle.h5w_shared.proofs.TurnLemmas.{splits}
use Rattle.h5w_shared.proofs.place.Place.twin.Goals as goal

pub split_seat-requires : goal.split_seat-requires
split_seat-requires c = (search rules, search rules, splits _ _ _)
