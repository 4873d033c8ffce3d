use Rattle.std.proofs.Common.{◌≡◌, ◌++◌, ◌-◌}
use Rattle.h5w_chunks.specs.Grids.{copies}
use Rattle.h5w_chunks.proofs.cells.put_copies.Given as goal

abbrev pub invariant-loop : goal.invariant-loop
invariant-loop l = l.out.items ++ copies (l.count - l.counter) l.bytes ≡ l.initial.out.items ++ copies l.count l.bytes
