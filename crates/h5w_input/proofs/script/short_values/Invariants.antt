use Rattle.std.proofs.Common.{◌≡◌, ◌++◌, ◌≤◌, length}
use Rattle.std.specs.Prelude.{option_map}
use Rattle.h5w_input.specs.Lines.{values_of}
use Rattle.h5w_input.proofs.script.short_values.Given as goal

abbrev pub invariant-loop-value : goal.invariant-loop-value
invariant-loop-value l = record {
  same : option_map (λ vs. l.initial.values.items ++ vs) (values_of l.initial.words) ≡ option_map (λ vs. l.values.items ++ vs) (values_of l.words);
  fewer : length l.words ≤ length l.initial.words;
}

abbrev pub decreases-loop-value : goal.decreases-loop-value
decreases-loop-value l = length l.words
