use Rattle.std.proofs.Common.{◌≡◌, take}
use Rattle.std.specs.Prelude.{flat_map}
use Rattle.h5w_stopping.specs.Stops.{run_text}
use Rattle.h5w_stopping.proofs.stopping.text_of.Given as goal

abbrev pub invariant-loop-run : goal.invariant-loop-run
invariant-loop-run l = l.text.items ≡ flat_map run_text (take l.run-index l.runs)
