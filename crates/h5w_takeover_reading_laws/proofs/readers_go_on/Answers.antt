use Rattle.h5w_takeover_reading_laws.proofs.readers_go_on.Goals as goal
use Rattle.h5w_takeover_reading_laws.proofs.AcrossLemmas as lemmas

pub returns : goal.returns
returns c = lemmas.readers_go_on
