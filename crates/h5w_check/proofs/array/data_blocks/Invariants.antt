use Rattle.std.proofs.Common.{drop}
use Rattle.h5w_model.specs.Programs.{eval}
use Rattle.h5w_model.specs.Findings.{data_block_visit, visit_each}
use Rattle.h5w_check.specs.Ranges.{after}
use Rattle.h5w_headers.proofs.RanLemmas.{Going}
use Rattle.h5w_check.proofs.array.data_blocks.Given as goal

abbrev pub invariant-loop-address : goal.invariant-loop-address
invariant-loop-address g l =
    Going (g.I.PieceRead.view l.initial.image) (g.I.PieceRead.view l.image)
    (λ img. after l.initial.ranges (eval img (visit_each (data_block_visit l.bounds.end l.bounds.chunk l.n) l.addresses)))
    (λ img. after l.ranges (eval img (visit_each (data_block_visit l.bounds.end l.bounds.chunk l.n) (drop l.address-index l.addresses))))
