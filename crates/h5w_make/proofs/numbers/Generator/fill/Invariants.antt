use Rattle.std.proofs.Common.{◌≡◌, ◌-◌, ◌++◌}
use Rattle.h5w_make.specs.Generators.{generated, state_after}
use Rattle.h5w_make.proofs.numbers.Generator.fill.Given as goal

abbrev pub invariant-loop : goal.invariant-loop
invariant-loop l =
    (l.values.items ++ generated l.self.state (l.count - l.counter) ≡ generated l.initial.self.state l.count)
    × (state_after l.self.state (l.count - l.counter) ≡ state_after l.initial.self.state l.count)
