use Rattle.std.proofs.Common.{◌≡◌, List, vec_len}
use Rattle.h5w_model.specs.Datasets.{Range, splice}
use Rattle.h5w_dataset.specs.Founds.{founds, stack}
use Rattle.h5w_headers.specs.Headers.{Visit}
use Rattle.h5w_headers.proofs.walk.pass.Given as goal

abbrev pub invariant-loop-m : goal.invariant-loop-m
invariant-loop-m l = (visit : Visit) (visited : List Range) → splice visit visited (founds l.done.items) (stack l.next.items) ≡ splice visit visited (founds l.initial.done.items) (stack l.initial.next.items)

abbrev pub decreases-loop-m : goal.decreases-loop-m
decreases-loop-m l = vec_len l.next
