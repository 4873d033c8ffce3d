use Rattle.std.proofs.Common.{[]}
use Rattle.h5w_model.specs.Programs.{eval}
use Rattle.h5w_headers.specs.Walks.{walk_for}
use Rattle.h5w_dataset.specs.Founds.{founds, stack}
use Rattle.h5w_headers.specs.Headers.{ranges_of}
use Rattle.h5w_headers.proofs.RanLemmas.{Going}
use Rattle.h5w_headers.proofs.walk.walk.Given as goal

abbrev pub invariant-loop-done : goal.invariant-loop-done
invariant-loop-done g l =
    Going (g.I.PieceRead.view l.initial.image) (g.I.PieceRead.view l.image)
    (λ img. eval img (walk_for l.writing 32 l.header l.tracked (ranges_of l.initial.extents.items) [] (stack l.initial.next.items)))
    (λ img. eval img (walk_for l.writing l.more l.header l.tracked (ranges_of l.extents.items) (founds l.done.items) (stack l.next.items)))

abbrev pub decreases-loop-done : goal.decreases-loop-done
decreases-loop-done g l = l.more
