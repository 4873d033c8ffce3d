use Rattle.h5w_bt_index.proofs.Started.{moves_end}
use Rattle.h5w_bt_index.proofs.plan.begin.Goals as goal

pub writes_at-requires-clause-ends : goal.writes_at-requires-clause-ends
writes_at-requires-clause-ends c =
    let taken = c.in_ok-moves.ensures.taken in
    moves_end c.args.places.now c.in_ok-moves.moves.items taken.taken taken.moves
