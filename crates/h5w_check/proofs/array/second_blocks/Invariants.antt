use Rattle.std.proofs.Common.{drop}
use Rattle.h5w_model.specs.Programs.{eval}
use Rattle.h5w_model.specs.Findings.{second_visits}
use Rattle.h5w_check.specs.Ranges.{after}
use Rattle.h5w_headers.proofs.RanLemmas.{Going}
use Rattle.h5w_check.proofs.array.second_blocks.Given as goal

abbrev pub invariant-loop-address : goal.invariant-loop-address
invariant-loop-address g l =
    Going (g.I.PieceRead.view l.initial.image) (g.I.PieceRead.view l.image)
    (λ img. after l.initial.ranges (eval img (second_visits l.bounds.end l.bounds.chunk 4 l.addresses)))
    (λ img. after l.ranges (eval img (second_visits l.bounds.end l.bounds.chunk l.sblock (drop l.address-index l.addresses))))
