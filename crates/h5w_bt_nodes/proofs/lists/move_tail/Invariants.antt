use Rattle.std.proofs.Common.{◌≡◌, ◌+◌, ◌≤◌, ◌++◌, reverse, vec_len, vec_capacity}
use Rattle.h5w_bt_nodes.proofs.lists.move_tail.Given as goal

abbrev pub invariant-loop-from : goal.invariant-loop-from
invariant-loop-from g l = record {
  all : l.from.items ++ reverse l.to.items ≡ l.fn.from.items;
  low : l.at ≤ vec_len l.from;
  room : vec_len l.to + vec_len l.from ≡ vec_len l.fn.from;
  capacity : vec_capacity l.to ≡ vec_capacity l.fn.to;
}

abbrev pub decreases-loop-from : goal.decreases-loop-from
decreases-loop-from g l = vec_len l.from
