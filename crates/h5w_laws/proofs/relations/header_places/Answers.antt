use Rattle.h5w_laws.proofs.PlaceLemmas.{one_header_place}
use Rattle.h5w_laws.proofs.relations.header_places.Goals as goal

pub returns : goal.returns
returns c = one_header_place
