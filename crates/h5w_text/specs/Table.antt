-- Lines of numbers, and of the values of rows.
use Rattle.std.specs.Prelude.{ℕ, zero, suc, List, [], ◌∷◌, ◌++◌, flat_map, take, drop, decimal, ℤ, pos, negsuc}
use Rattle.h5w_text.specs.Replies.{spaced, spaced_value}

-- a line of a text and numbers, each with a space before it
abbrev pub numbers_text : List ℕ → List ℕ → List ℕ
numbers_text name numbers = name ++ flat_map spaced numbers ++ 10 ∷ []

abbrev pub value_text : ℤ → List ℕ
value_text (pos n) = decimal n
value_text (negsuc n) = 45 ∷ decimal (suc n)

-- the values of a row, separated by one space; a row without values is an empty line
abbrev pub row_text : List ℤ → List ℕ
row_text [] = 10 ∷ []
row_text (v ∷ vs) = value_text v ++ flat_map spaced_value vs ++ 10 ∷ []

-- so many rows, whose values stand one after another
abbrev pub rows_text : ℕ → ℕ → List ℤ → List ℕ
rows_text zero columns values = []
rows_text (suc rows) columns values = row_text (take columns values) ++ rows_text rows columns (drop columns values)
