use Rattle.std.proofs.Common.{◌≡◌, take}
use Rattle.std.specs.Vec.{vec_len, vec_capacity}
use Rattle.h5w_lookup.specs.Unknown.{put_in}
use Rattle.h5w_lookup.proofs.learning.put_at.Given as goal

abbrev pub invariant-loop-n : goal.invariant-loop-n
invariant-loop-n l = record {
  items : l.table.items ≡ put_in l.initial.table.items (take l.n l.found);
  same : vec_len l.table ≡ vec_len l.initial.table;
  room : vec_capacity l.table ≡ vec_capacity l.initial.table;
}
