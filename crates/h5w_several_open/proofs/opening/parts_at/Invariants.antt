use Rattle.h5w_several_open.specs.Progress.{SoFar}
use Rattle.h5w_several_open.proofs.opening.parts_at.Given as goal

abbrev pub invariant-loop-k : goal.invariant-loop-k
invariant-loop-k g l = SoFar (g.I.PieceRead.view l.initial.image) (g.I.PieceRead.view l.image) l.root l.names l.places l.limit l.budget l.k l.refused l.parts.items
