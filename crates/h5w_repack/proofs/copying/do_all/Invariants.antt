use Rattle.std.proofs.Common.{◌≡◌, length}
use Rattle.h5w_repack.proofs.CopyLemmas.{Copying}
use Rattle.h5w_repack.proofs.copying.do_all.Given as goal

abbrev pub invariant-loop-job : goal.invariant-loop-job
invariant-loop-job g l = record {
  copying : Copying l.fn.packing.left l.packing.left l.fn.packing.end (g.P.Pair.view l.fn.pair) (g.P.Pair.view l.pair);
  ranges : l.packing.ranges ≡ l.fn.packing.ranges;
}

abbrev pub decreases-loop-job : goal.decreases-loop-job
decreases-loop-job g l = length l.packing.left
