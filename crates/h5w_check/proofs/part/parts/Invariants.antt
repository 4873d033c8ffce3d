use Rattle.std.proofs.Common.{[], drop}
use Rattle.h5w_headers.proofs.RanLemmas.{Going}
use Rattle.h5w_check.proofs.PartLemmas.{given}
use Rattle.h5w_check.proofs.part.parts.Given as goal

abbrev pub invariant-loop-place : goal.invariant-loop-place
invariant-loop-place g l =
    Going (g.I.PieceRead.view l.initial.image) (g.I.PieceRead.view l.image)
    (λ img. given img l.s [] l.initial.ranges l.places)
    (λ img. given img l.s l.rows.items l.ranges (drop l.place-index l.places))
