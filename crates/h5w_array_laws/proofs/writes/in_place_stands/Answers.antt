use Rattle.h5w_array_laws.proofs.WriteLemmas as lemmas
use Rattle.h5w_array_laws.proofs.writes.in_place_stands.Goals as goal

pub returns : goal.returns
returns c = lemmas.in_place_stands
