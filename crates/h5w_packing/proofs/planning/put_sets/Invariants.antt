use Rattle.std.specs.Prelude.{map}
use Rattle.h5w_packing.specs.Plans.{wanted_of}
use Rattle.h5w_packing.specs.SoFar.{AreMade}
use Rattle.h5w_packing.proofs.planning.put_sets.Given as goal

abbrev pub invariant-loop-source : goal.invariant-loop-source
invariant-loop-source l = AreMade (map wanted_of l.sources) l.limit l.source-index l.so_far
