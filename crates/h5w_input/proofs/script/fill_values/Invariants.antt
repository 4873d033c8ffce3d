use Rattle.std.proofs.Common.{◌≡◌, ◌++◌, length}
use Rattle.std.specs.Prelude.{option_map}
use Rattle.h5w_input.specs.Lines.{values_of}
use Rattle.h5w_input.proofs.script.fill_values.Given as goal

abbrev pub invariant-loop-words : goal.invariant-loop-words
invariant-loop-words l = values_of l.initial.words ≡ option_map (λ vs. l.values.items ++ vs) (values_of l.words)

abbrev pub decreases-loop-words : goal.decreases-loop-words
decreases-loop-words l = length l.words
