use Rattle.std.proofs.Common.{◌≡◌, ◌++◌, length, take, drop}
use Rattle.h5w_model.specs.Headers.{msgs_bytes}
use Rattle.h5w_ohdr.proofs.spelling.put_messages.Given as goal

abbrev pub invariant-loop-m : goal.invariant-loop-m
invariant-loop-m l = record {
  end_is : l.end ≡ length (msgs_bytes (take l.m-index l.list));
  out_is : l.out ≡ msgs_bytes (take l.m-index l.list) ++ drop (length (msgs_bytes (take l.m-index l.list))) l.fn.out;
}
