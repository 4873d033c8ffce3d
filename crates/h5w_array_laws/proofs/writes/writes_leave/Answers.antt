use Rattle.h5w_array_laws.proofs.WriteLemmas as lemmas
use Rattle.h5w_array_laws.proofs.writes.writes_leave.Goals as goal

pub returns : goal.returns
returns c = lemmas.writes_leave
