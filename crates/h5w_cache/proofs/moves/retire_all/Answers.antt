use Rattle.std.proofs.Common.{arith, refl, get_or, false}
use Rattle.h5w_cache.specs.declared.moves.Move.{Move}
use Rattle.h5w_cache.specs.Plans.{Retires}
use Rattle.h5w_cache.proofs.PlanLemmas.{Chain-more, Retires-spare}
use Rattle.h5w_cache.proofs.moves.retire_all.Goals as goal

abbrev none : Move
none = record { number = 0; old = 0; new = 0; len = 0; in_place = false }

pub loop-block_move-preserved : goal.loop-block_move-preserved
loop-block_move-preserved c = record {
  retired = Chain-more Retires c.args.places.now c.args.moves.now c.loop-block_move.block_move-index none (get_or c.args.moves.now c.loop-block_move.block_move-index none) c.loop-block_move.places c.retire.new.places c.loop-block_move-test.true refl c.loop-block_move.invariant.retired c.retire.ensures;
  room = omega (arith, c.loop-block_move.invariant.room, Retires-spare c.loop-block_move.places (get_or c.args.moves.now c.loop-block_move.block_move-index none) c.retire.new.places c.retire.ensures);
}
