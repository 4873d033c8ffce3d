use Rattle.std.proofs.Common.{drop}
use Rattle.h5w_model.specs.Programs.{eval}
use Rattle.h5w_model.specs.Findings.{first_visits}
use Rattle.h5w_check.specs.Ranges.{after}
use Rattle.h5w_headers.proofs.RanLemmas.{Going}
use Rattle.h5w_check.proofs.array.first_blocks.Given as goal

abbrev pub invariant-loop-i : goal.invariant-loop-i
invariant-loop-i g l =
    Going (g.I.PieceRead.view l.initial.image) (g.I.PieceRead.view l.image)
    (λ img. after l.initial.ranges (eval img (first_visits l.bounds.end l.bounds.chunk 0 l.addresses)))
    (λ img. after l.ranges (eval img (first_visits l.bounds.end l.bounds.chunk l.i (drop l.i l.addresses))))
