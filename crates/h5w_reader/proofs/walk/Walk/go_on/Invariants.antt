use Rattle.std.proofs.Common.{◌≡◌, vec_len}
use Rattle.h5w_dataset.specs.Founds.{founds, stack}
use Rattle.h5w_reader.specs.Walking.{walk_rest}
use Rattle.h5w_reader.proofs.walk.Walk.go_on.Given as goal

abbrev pub invariant-loop-m : goal.invariant-loop-m
invariant-loop-m l = walk_rest l.more l.header l.tracked (founds l.done.items) (stack l.next.items) ≡ walk_rest l.more l.header l.tracked (founds l.initial.done.items) (stack l.initial.next.items)

abbrev pub decreases-loop-m : goal.decreases-loop-m
decreases-loop-m l = vec_len l.next
