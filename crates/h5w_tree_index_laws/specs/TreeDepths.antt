-- How many records a tree has whose root cannot be divided, and how many it has at most by their keys.
use Rattle.std.specs.Prelude.{ℕ, ◌*◌, ◌<◌, ◌≤◌, length}
use Rattle.h5w_model.specs.declared.cell.Key.{Key}
use Rattle.h5w_bt_index.specs.Index.{Index, IsDeep, IsFilled, IsIndex, IsThere, records}

-- each key that has a record is of the first so many bands of chunks, of which so many stand side by side
abbrev pub KeysWithin : ℕ → ℕ → Index → Type 0
KeysWithin bands across v = (key : Key) → IsThere v key → (key.i < bands) × (key.j < across)

-- A tree that is deep for a key has 1,114,349 records at least: its root is full, and each other node has two fifths of its capacity.
abbrev pub DeepIsMany : Type 0
DeepIsMany = (v : Index) (key : Key) → IsIndex v → IsFilled v → IsDeep v key → 1114349 ≤ length (records v)

-- There are no more records than keys that they can have.
abbrev pub WithinIsFew : Type 0
WithinIsFew = (v : Index) (bands across : ℕ) → IsIndex v → KeysWithin bands across v → length (records v) ≤ bands * across
