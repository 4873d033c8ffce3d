-- What an append takes of an input, and the values and rows of its batches.
use Rattle.std.specs.Prelude.{◌≡◌, ℕ, ◌+◌, ◌/◌, List, [], ◌∷◌, ◌++◌, length, codes, IfSome, ℤ}
use Rattle.h5w_text.specs.Streams.{SourceView}
use Rattle.h5w_text.specs.Table.{numbers_text}
use Rattle.h5w_batches.specs.Batches.{Batches, after_lines, close_batch, no_batches}
use Rattle.h5w_batches.specs.Inputs.{AreFirst, ReadsAll, Spell}
use Rattle.h5w_files.specs.Polls.{count_text}

-- ---- Batches

-- the values of some lists, one behind the other
abbrev pub values_of : List (List ℤ) → List ℤ
values_of [] = []
values_of (b ∷ bs) = b ++ values_of bs

-- how many rows there are with these batches, where a row has so many values
abbrev pub rows_after : ℕ → ℕ → List (List ℤ) → ℕ
rows_after columns rows [] = rows
rows_after columns rows (b ∷ bs) = rows_after columns (rows + length b / columns) bs

-- a line for each batch: how many rows there are with it
abbrev pub rows_lines : ℕ → ℕ → List (List ℤ) → List ℕ
rows_lines columns rows [] = []
rows_lines columns rows (b ∷ bs) = count_text (rows + length b / columns) ++ rows_lines columns (rows + length b / columns) bs

-- the last line
abbrev pub closed_text : ℕ → List ℕ
closed_text rows = numbers_text (codes "closed") (rows ∷ [])

-- ---- What was taken of an input

-- Some first lines were read, and have these values.
pub record ReadsFirst (columns : ℕ) (s : SourceView) (numbers : List (List ℤ)) : Type 0 where
  pub lines : List (List ℕ)
  pub spell : Spell columns lines numbers
  pub first : IfSome s.left (AreFirst lines)

-- One more line was read behind those of these values.
pub record ReadsLine (columns : ℕ) (s : SourceView) (numbers : List (List ℤ)) (line : List ℕ) : Type 0 where
  pub lines : List (List ℕ)
  pub spell : Spell columns lines numbers
  pub count : length lines ≡ length numbers
  pub first : IfSome s.left (AreFirst (lines ++ line ∷ []))

-- These batches were taken of the input: its first lines', or those of all its lines, the last of which the end closes.
pub data AreTaken (columns : ℕ) (s t : SourceView) : Batches → Type 0 where
  of_first : (numbers : List (List ℤ)) → ReadsFirst columns s numbers → AreTaken columns s t (after_lines no_batches numbers)
  of_all : (numbers : List (List ℤ)) → ReadsAll columns s t numbers → AreTaken columns s t (close_batch (after_lines no_batches numbers))
