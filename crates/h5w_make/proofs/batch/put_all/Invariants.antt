use Rattle.std.proofs.Common.{◌≡◌, ◌*◌}
use Rattle.h5w_make.specs.Commands.{full_batches}
use Rattle.h5w_make.specs.Generators.{state_after}
use Rattle.h5w_make.specs.States.{IsAfter}
use Rattle.h5w_make.proofs.batch.put_all.Given as goal

abbrev pub invariant-loop : goal.invariant-loop
invariant-loop l = IsAfter (full_batches l.seed l.counter) l.session l.image × (l.generator.state ≡ state_after l.seed (l.counter * 1000))
