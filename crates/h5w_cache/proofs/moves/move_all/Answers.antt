use Rattle.std.proofs.Common.{◌∙◌, sym, arith, subst}
use Rattle.h5w_cache.specs.Plans.{AreMoves, IsMove}
use Rattle.h5w_cache.proofs.PlanLemmas.{Chain-push, numbers-more}
use Rattle.h5w_cache.proofs.moves.move_all.Goals as goal

pub loop-number-preserved : goal.loop-number-preserved
loop-number-preserved c =
    let all = c.push_reserved.ensures.items in
    record {
      numbers = numbers-more c.loop-number.moves.items c.push_reserved.new.self.items c.in_ok-block_move.block_move c.args.order.now c.loop-number.number-index c.loop-number-test.true all c.loop-number.invariant.numbers c.in_ok-block_move.ensures.number;
      moves = subst (λ l. AreMoves c.args.blocks.now c.args.stood.now c.args.places.now l c.move_of.new.places) (sym all)
          (Chain-push (IsMove c.args.blocks.now c.args.stood.now) c.args.places.now c.loop-number.moves.items c.in_ok-block_move.block_move c.loop-number.places c.move_of.new.places c.loop-number.invariant.moves c.in_ok-block_move.ensures.ok);
      count = omega (arith, c.loop-number.invariant.count, c.push_reserved.ensures.len, c.loop-number.moves.ok, c.push_reserved.new.self.ok);
      capacity = c.push_reserved.ensures.capacity ∙ c.loop-number.invariant.capacity;
    }
