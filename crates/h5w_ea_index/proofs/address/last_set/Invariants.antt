use Rattle.std.proofs.Common.{◌≡◌, ◌+◌, ◌<◌, ◌≤◌, ℕ}
use Rattle.h5w_model.specs.Numbers.{undefined}
use Rattle.h5w_array_laws.specs.ArrayStores.{map_of}
use Rattle.h5w_ea_index.proofs.address.last_set.Given as goal

abbrev pub invariant-loop-step : goal.invariant-loop-step
invariant-loop-step l = record {
  count : l.last + l._step ≡ l.count;
  above : (j : ℕ) → l.last ≤ j → j < l.count → map_of l.cache j ≡ undefined;
}
