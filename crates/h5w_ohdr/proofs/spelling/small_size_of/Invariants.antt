use Rattle.std.proofs.Common.{◌≡◌, ◌<◌, length, take}
use Rattle.h5w_model.specs.Headers.{msgs_bytes}
use Rattle.h5w_ohdr.proofs.spelling.small_size_of.Given as goal

abbrev pub invariant-loop-m : goal.invariant-loop-m
invariant-loop-m l = record {
  size_is : l.size ≡ length (msgs_bytes (take l.m-index l.list));
  small : l.size < 65536;
}
