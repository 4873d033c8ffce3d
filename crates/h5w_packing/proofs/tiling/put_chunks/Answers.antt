use Rattle.std.proofs.Common.{refl}
use Rattle.h5w_packing.proofs.PutLemmas.{chunk_put, chunks_put}
use Rattle.h5w_packing.proofs.tiling.put_chunks.Goals as goal

pub loop-chunk-init : goal.loop-chunk-init
loop-chunk-init c = refl

pub loop-chunk-preserved : goal.loop-chunk-preserved
loop-chunk-preserved c = chunk_put c.args.chunks.now c.loop-chunk.chunk-index _ c.loop-chunk.ranges _ _ c.loop-chunk-test.true c.loop-chunk.invariant c.in_ok-push.ensures.put

pub returns : goal.returns
returns c = chunks_put c.args.chunks.now c.loop-chunk.chunk-index c.loop-chunk.ranges _ c.loop-chunk-test.false c.loop-chunk.invariant
