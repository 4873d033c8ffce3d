use Rattle.std.proofs.Common.{◌≡◌, ℕ, ◌≤◌, true, length, map, drop}
use Rattle.h5w_model.specs.Calls.{known_table}
use Rattle.h5w_model.specs.Tables.{InPlace, in_leaf, key_below}
use Rattle.h5w_model.specs.declared.cell.Key.{Key}
use Rattle.h5w_bt.specs.Parts.{record_of}
use Rattle.h5w_lookup.specs.Ahead.{found_rest}
use Rattle.h5w_lookup.specs.Attempts.{known_of}
use Rattle.h5w_dataset.specs.Described.{described_of}
use Rattle.h5w_lookup.specs.Spans.{IsSpan}
use Rattle.h5w_lookup.specs.Stores.{kept}
use Rattle.h5w_lookup.proofs.follow.take.Given as goal

abbrev pub invariant-loop-turn : goal.invariant-loop-turn
invariant-loop-turn l = record {
  more : length l.initial.found.items ≤ length l.found.items;
  behind : (k : Key) → key_below l.last k ≡ true → key_below l.span.key k ≡ true;
  left : (k : Key) → key_below l.last k ≡ true → in_leaf k (drop l.from (map record_of l.records)) ≡ in_leaf k (map record_of l.records);
  same : (p : InPlace) → IsSpan (kept l.store) p l.span → (place : ℕ) → found_rest place (known_table (known_of l.known) (described_of l.d)) (described_of l.d) p (kept l.store) l.found.items
      ≡ found_rest place (known_table (known_of l.known) (described_of l.d)) (described_of l.d) p (kept l.store) l.initial.found.items;
}
