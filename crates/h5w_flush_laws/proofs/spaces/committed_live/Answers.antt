use Rattle.h5w_flush_laws.proofs.spaces.committed_live.Goals as goal
use Rattle.h5w_flush_laws.proofs.SpaceLemmas as lemmas

pub returns : goal.returns
returns c = lemmas.committed_live
