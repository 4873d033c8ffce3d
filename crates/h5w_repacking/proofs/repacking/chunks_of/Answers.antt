use Rattle.std.proofs.Common.{arith}
use Rattle.h5w_repacking.proofs.TextLemmas.{all_counted, more_counted}
use Rattle.h5w_repacking.proofs.repacking.chunks_of.Goals as goal

pub loop-range-preserved : goal.loop-range-preserved
loop-range-preserved c = record {
  exact = more_counted c.args.ranges.now c.loop-range.range-index c.loop-range.chunks c.chunk_in-chunks.result _ c.loop-range-test.true c.loop-range.invariant.exact c.chunk_in-chunks.ensures.exact;
  bound = omega (arith, c.loop-range.invariant.bound, c.chunk_in-chunks.ensures.bound);
}

pub returns-clause-exact : goal.returns-clause-exact
returns-clause-exact c = all_counted c.args.ranges.now c.loop-range.range-index c.loop-range.chunks c.loop-range-test.false c.loop-range.invariant.exact
