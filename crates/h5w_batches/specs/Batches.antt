-- The batches of lines of numbers: an empty line closes a batch, and so does the end of the input.
use Rattle.std.specs.Prelude.{◌≡◌, ℕ, ◌*◌, List, [], ◌∷◌, ◌++◌, length, ℤ}

-- The batches that were closed, the oldest first, and the values that wait for the end of theirs.
pub record Batches : Type 0 where
  pub closed : List (List ℤ)
  pub waiting : List ℤ

abbrev pub no_batches : Batches
no_batches = record { closed = []; waiting = [] }

-- ---- Each batch

-- the values that wait are a batch; where none wait it is an empty one
abbrev pub end_batch : Batches → Batches
end_batch b = record { closed = b.closed ++ b.waiting ∷ []; waiting = [] }

-- the values of a line wait; an empty line has none, and closes a batch
abbrev pub with_line : Batches → List ℤ → Batches
with_line b [] = end_batch b
with_line b (v ∷ vs) = record b { waiting = b.waiting ++ v ∷ vs }

abbrev pub with_lines : Batches → List (List ℤ) → Batches
with_lines b [] = b
with_lines b (l ∷ ls) = with_lines (with_line b l) ls

-- the batches of lines with these values, behind which the input ends; an empty one is one of them
abbrev pub batches_of : List (List ℤ) → List (List ℤ)
batches_of lines = (end_batch (with_lines no_batches lines)).closed

-- ---- The batches that have values

-- a batch, where there are values
abbrev pub batch_of : List ℤ → List (List ℤ)
batch_of [] = []
batch_of (v ∷ vs) = (v ∷ vs) ∷ []

-- the values that wait are a batch; where none wait there is none
abbrev pub close_batch : Batches → Batches
close_batch b = record { closed = b.closed ++ batch_of b.waiting; waiting = [] }

-- the values of a line wait; an empty line has none, and closes a batch
abbrev pub after_line : Batches → List ℤ → Batches
after_line b [] = close_batch b
after_line b (v ∷ vs) = record b { waiting = b.waiting ++ v ∷ vs }

abbrev pub after_lines : Batches → List (List ℤ) → Batches
after_lines b [] = b
after_lines b (l ∷ ls) = after_lines (after_line b l) ls

-- ---- Rows

-- these values are whole rows of so many columns; no values are none
abbrev pub AreWholeRows : ℕ → List ℤ → Type 0
AreWholeRows columns values = (rows : ℕ) × (length values ≡ rows * columns)

-- so is each batch
abbrev pub AreBatches : ℕ → List (List ℤ) → Type 0
AreBatches columns [] = Unit {0}
AreBatches columns (values ∷ batches) = AreWholeRows columns values × AreBatches columns batches
