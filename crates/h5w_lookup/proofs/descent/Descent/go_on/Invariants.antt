use Rattle.std.proofs.Common.{◌≡◌, ◌-◌, length}
use Rattle.h5w_model.specs.Calls.{known_table}
use Rattle.h5w_lookup.specs.Attempts.{known_of}
use Rattle.h5w_lookup.specs.Indexes.{in_place_of}
use Rattle.h5w_dataset.specs.Described.{described_of}
use Rattle.h5w_lookup.specs.Slots.{slots_rest}
use Rattle.h5w_lookup.specs.Unknown.{unknown_at, needed_with}
use Rattle.h5w_lookup.specs.Stores.{kept}
use Rattle.h5w_lookup.proofs.descent.Descent.go_on.Given as goal

abbrev pub invariant-loop-i : goal.invariant-loop-i
invariant-loop-i l = record {
  at : l.i ≡ unknown_at (known_table (known_of l.known) (described_of l.dataset)) (length l.found.items);
  same : slots_rest l.rules.place (known_table (known_of l.known) (described_of l.dataset)) (described_of l.dataset) (in_place_of l.index) (kept l.store) (length (needed_with (known_table (known_of l.known) (described_of l.dataset)) (described_of l.dataset) l.found.items)) (needed_with (known_table (known_of l.known) (described_of l.dataset)) (described_of l.dataset) l.found.items)
      ≡ slots_rest l.rules.place (known_table (known_of l.known) (described_of l.dataset)) (described_of l.dataset) (in_place_of l.index) (kept l.initial.store) (length (needed_with (known_table (known_of l.known) (described_of l.dataset)) (described_of l.dataset) l.initial.found.items)) (needed_with (known_table (known_of l.known) (described_of l.dataset)) (described_of l.dataset) l.initial.found.items);
}

abbrev pub decreases-loop-i : goal.decreases-loop-i
decreases-loop-i l = l.needed - l.i
