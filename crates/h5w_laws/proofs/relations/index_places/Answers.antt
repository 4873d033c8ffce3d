use Rattle.h5w_laws.proofs.PlaceLemmas.{one_index_place}
use Rattle.h5w_laws.proofs.relations.index_places.Goals as goal

pub returns : goal.returns
returns c = one_index_place
