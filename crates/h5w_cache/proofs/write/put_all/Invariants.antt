use Rattle.std.proofs.Common.{◌≡◌, ◌+◌, ◌++◌, take, vec_len, vec_capacity}
use Rattle.std.specs.List.{sum_by}
use Rattle.h5w_cache.specs.Plans.{piece_count, writes_of}
use Rattle.h5w_cache.proofs.write.put_all.Given as goal

abbrev pub invariant-loop-block_move : goal.invariant-loop-block_move
invariant-loop-block_move l = record {
  items : l.out.items ≡ l.initial.out.items ++ writes_of l.blocks (take l.block_move-index l.moves);
  count : vec_len l.out ≡ vec_len l.initial.out + sum_by piece_count (take l.block_move-index l.moves);
  capacity : vec_capacity l.out ≡ vec_capacity l.initial.out;
}
