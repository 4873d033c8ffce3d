use Rattle.h5w_takeover_reading_laws.proofs.reads_across.Goals as goal
use Rattle.h5w_takeover_reading_laws.proofs.AcrossLemmas as lemmas

pub returns : goal.returns
returns c = lemmas.reads_across
