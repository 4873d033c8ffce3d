use Rattle.std.proofs.Common.{arith, ◌∙◌}
use Rattle.h5w_sum.proofs.Rounds.{mixed_none, mixed_more, mixed_all}
use Rattle.h5w_sum.proofs.words.Words.with.Goals as goal

pub loop-block-init : goal.loop-block-init
loop-block-init c =
    let same = c.into_iter-block-iterator.ensures.into_iter_gives in
    record {
      size = rw same c.chunks_exact-block-items.ensures.size;
      goes = λ len front goes. mixed_none len front c.args.blocks.now c.into_iter-block-iterator.result.rest.now c.args.self (rw same c.chunks_exact-block-items.ensures.rest) c.requires goes;
    }

pub loop-block-preserved : goal.loop-block-preserved
loop-block-preserved c =
    let steps = c.in-Some.ensures.steps in
    let block = c.in-Some.block.now in
    record {
      size = steps.0 ∙ c.loop-block.invariant.size;
      goes = λ len front goes.
          rw (c.mixed-words.ensures, c.added.ensures) (mixed_more len front c.args.blocks.now c.loop-block.block-iterator.rest.now block c.next.new.self.rest.now c.loop-block.words (c.loop-block.invariant.goes len front goes) steps.1.0 (steps.1.1 ∙ c.loop-block.invariant.size));
    }

pub returns : goal.returns
returns c = λ len front goes.
    let steps = c.in-None.ensures.steps in
    mixed_all len front c.args.blocks.now c.loop-block.block-iterator.rest.now c.loop-block.words (c.loop-block.invariant.goes len front goes) (omega (arith, steps.1.0, c.loop-block.invariant.size))
