use Rattle.h5w_shared.proofs.SeatLemmas.{wrote_through}
use Rattle.h5w_pen.proofs.pen.PennedPieceWrite.write.Goals as goal

pub returns-clause-wrote : goal.returns-clause-wrote
returns-clause-wrote g c = wrote_through c.write.result _ _ _ _ c.write.ensures.wrote
