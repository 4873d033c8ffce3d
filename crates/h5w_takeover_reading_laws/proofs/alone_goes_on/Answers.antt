use Rattle.h5w_takeover_reading_laws.proofs.alone_goes_on.Goals as goal
use Rattle.h5w_takeover_reading_laws.proofs.AcrossLemmas as lemmas

pub returns : goal.returns
returns c = lemmas.alone_goes_on
