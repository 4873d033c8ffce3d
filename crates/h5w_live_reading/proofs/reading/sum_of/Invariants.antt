use Rattle.std.proofs.Common.{◌≡◌, take}
use Rattle.std.specs.Int.{int_wrap, w128}
use Rattle.h5w_model.specs.Agrees.{total}
use Rattle.h5w_live_reading.proofs.reading.sum_of.Given as goal

abbrev pub invariant-loop-value : goal.invariant-loop-value
invariant-loop-value l = l.sum ≡ int_wrap w128 (total (take l.value-index l.values))
