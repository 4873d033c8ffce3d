use Rattle.std.proofs.Common.{arith}
use Rattle.h5w_packing.proofs.SoFarLemmas.{size_step}
use Rattle.h5w_packing.proofs.planning.fronts_len.Goals as goal

pub loop-source-preserved : goal.loop-source-preserved
loop-source-preserved c = (
  size_step c.args.sources.now c.loop-source.source-index c.source-item.result c.loop-source.len c.in_ok-len.field-0 _ c.loop-source-test.true c.source-item.is c.in_ok-len.ensures.exact c.loop-source.invariant.0,
  omega (arith, c.in_ok-len.ensures.short, c.loop-source.invariant.1),
)
