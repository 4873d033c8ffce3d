use Rattle.std.proofs.Common.{◌≡◌, ◌+◌, ◌*◌, ◌++◌}
use Rattle.h5w_model.specs.Arrays.{numbers_in}
use Rattle.h5w_lookup.proofs.addresses.Addresses.put.Given as goal

abbrev pub invariant-loop-k : goal.invariant-loop-k
invariant-loop-k l = l.out.items ≡ l.initial.out.items ++ numbers_in l.bytes l.k (18 + 8 * l.first)
