use Rattle.h5w_writable_laws.proofs.writable_stays.Goals as goal
use Rattle.h5w_writable_laws.proofs.KeptFiles as lemmas

pub returns : goal.returns
returns c = lemmas.writable_stays
