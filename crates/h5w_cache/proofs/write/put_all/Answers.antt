use Rattle.std.proofs.Common.{arith, false}
use Rattle.h5w_cache.specs.Plans.{piece_count}
use Rattle.h5w_cache.specs.declared.moves.Move.{Move}
use Rattle.std.proofs.lemmas.List.Sums.{sum_by_more_le}
use Rattle.h5w_cache.proofs.write.put_all.Goals as goal

abbrev none : Move
none = record { number = 0; old = 0; new = 0; len = 0; in_place = false }

pub put_block-requires-clause-room : goal.put_block-requires-clause-room
put_block-requires-clause-room c =
    let inside = sum_by_more_le piece_count c.args.moves.now c.loop-block_move.block_move-index none c.loop-block_move-test.true in
    omega (arith, inside, c.loop-block_move.invariant.count, c.loop-block_move.invariant.capacity, c.requires.room)
