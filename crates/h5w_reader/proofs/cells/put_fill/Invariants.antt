use Rattle.std.proofs.Common.{◌≡◌, ◌++◌, replicate}
use Rattle.h5w_reader.proofs.cells.put_fill.Given as goal

abbrev pub invariant-loop : goal.invariant-loop
invariant-loop l = l.out.items ≡ l.initial.out.items ++ replicate l.counter l.value
