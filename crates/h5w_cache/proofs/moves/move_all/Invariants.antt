use Rattle.std.proofs.Common.{◌≡◌, length, take, vec_capacity}
use Rattle.h5w_cache.specs.Plans.{AreMoves, numbers}
use Rattle.h5w_cache.proofs.moves.move_all.Given as goal

abbrev pub invariant-loop-number : goal.invariant-loop-number
invariant-loop-number l = record {
  numbers : numbers l.moves.items ≡ take l.number-index l.order;
  moves : AreMoves l.blocks l.stood l.initial.places l.moves.items l.places;
  count : length l.moves.items ≡ l.number-index;
  capacity : vec_capacity l.moves ≡ vec_capacity l.initial.moves;
}
