use Rattle.std.proofs.Common.{◌≡◌, ◌++◌, map}
use Rattle.h5w_several_core.specs.Places.{only_place}
use Rattle.h5w_several_core.proofs.places.of_one.Given as goal

abbrev pub invariant-loop-reader : goal.invariant-loop-reader
invariant-loop-reader l = l.places.items ++ map only_place l.reader-iterator.rest.items ≡ map only_place l.fn.readers.items
