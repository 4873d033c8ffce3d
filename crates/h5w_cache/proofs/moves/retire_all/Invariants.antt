use Rattle.std.proofs.Common.{◌+◌, ◌≤◌, length, take}
use Rattle.h5w_cache.specs.Plans.{AreRetired}
use Rattle.h5w_cache.proofs.moves.retire_all.Given as goal

abbrev pub invariant-loop-block_move : goal.invariant-loop-block_move
invariant-loop-block_move l = record {
  retired : AreRetired l.initial.places (take l.block_move-index l.moves) l.places;
  room : length l.moves ≤ l.places.spare + l.block_move-index;
}
