use Rattle.h5w_takeover_reading_laws.proofs.all_serve.Goals as goal
use Rattle.h5w_takeover_reading_laws.proofs.AcrossLemmas as lemmas

pub returns : goal.returns
returns c = lemmas.all_serve
