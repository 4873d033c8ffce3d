use Rattle.h5w_ea_index.proofs.StandingLemmas.{opened_finds}
use Rattle.h5w_ea_index.proofs.laws.opened_finds.Goals as goal

pub returns : goal.returns
returns c = opened_finds
