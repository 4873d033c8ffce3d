use Rattle.h5w_shared.proofs.SeatLemmas.{looked_through}
use Rattle.h5w_shared.proofs.through.ReadingPieceRead.look.Goals as goal

pub returns-clause-looked : goal.returns-clause-looked
returns-clause-looked g c = looked_through _ c.look.result _ _ _ c.look.ensures.same c.look.ensures.grown c.look.ensures.refused
