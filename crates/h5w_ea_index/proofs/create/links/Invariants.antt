use Rattle.std.proofs.Common.{◌≡◌, take}
use Rattle.h5w_ea_index.specs.Created.{links_to}
use Rattle.h5w_ea_index.proofs.create.links.Given as goal

abbrev pub invariant-loop-i : goal.invariant-loop-i
invariant-loop-i l = l.links.items ≡ links_to l.from (take l.i l.numbers)
