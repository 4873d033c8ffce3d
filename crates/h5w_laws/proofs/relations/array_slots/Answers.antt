use Rattle.h5w_laws.proofs.SlotLemmas.{finds_array_slots}
use Rattle.h5w_laws.proofs.relations.array_slots.Goals as goal

pub returns : goal.returns
returns c = finds_array_slots
