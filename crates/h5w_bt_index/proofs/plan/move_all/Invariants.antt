use Rattle.std.proofs.Common.{◌≡◌, length, take, vec_capacity}
use Rattle.h5w_bt_index.specs.Plans.{AreNodeMoves, olds}
use Rattle.h5w_bt_index.proofs.plan.move_all.Given as goal

abbrev pub invariant-loop-old : goal.invariant-loop-old
invariant-loop-old l = record {
  old : olds l.moves.items ≡ take l.old-index l.stood;
  moves : AreNodeMoves l.initial.places l.moves.items l.places;
  count : length l.moves.items ≡ l.old-index;
  capacity : vec_capacity l.moves ≡ vec_capacity l.initial.moves;
}
