-- The lines of an input of several datasets.
use Rattle.std.specs.Prelude.{◌≡◌, ℕ, ◌-◌, ◌<◌, List, [], ◌∷◌, codes, drop, get_or, length, nat_eq, nat_le, take, if◌then◌else◌, Option, Some, None, option_map}
use Rattle.std.specs.Cmp.Lexicographic.{pointwise}
use Rattle.h5w_input.specs.Lines.{line_limit}
use Rattle.h5w_input.specs.Scripts.{count_in, number_line_of}
use Rattle.h5w_batches.specs.Batches.{AreWholeRows}
use Rattle.h5w_batches.specs.declared.error.BatchError.{BatchError}
use Rattle.h5w_batches.specs.declared.error.BatchError.TheVariants as errors
use Rattle.h5w_several_batches.specs.declared.line.SetLine.{SetLine}
use Rattle.h5w_several_batches.specs.declared.line.SetLine.TheVariants.{Numbers, Use}

-- the dataset that a line `use I` names, I from 1 to so many, counted from 0
abbrev pub use_of : ℕ → List ℕ → Option ℕ
use_of sets line =
    if nat_le (length line) line_limit then
    if pointwise nat_eq (take 4 line) (codes "use ") then option_map (λ (n : ℕ). n - 1) (count_in 1 sets (drop 4 line)) else None
    else None

-- the columns of a dataset
abbrev pub columns_at : List ℕ → ℕ → ℕ
columns_at columns d = get_or columns d 1

-- What a line says where this dataset is in use, by the columns of each dataset: which one later lines mean, or values of this one.
abbrev pub set_line_of : List ℕ → ℕ → List ℕ → Option SetLine
set_line_of columns used line = elim (use_of (length columns) line) [
  | Some d ↦ Some (Use d)
  | None ↦ option_map Numbers (number_line_of (columns_at columns used) line)
]

-- the dataset that is in use behind it
abbrev pub used_after : ℕ → SetLine → ℕ
used_after used (Numbers values) = used
used_after used (Use d) = d

-- and behind some
abbrev pub used_by : ℕ → List SetLine → ℕ
used_by used [] = used
used_by used (x ∷ xs) = used_by (used_after used x) xs

-- the values are whole rows of the dataset in use, and the dataset that is named is one of them
abbrev pub IsOfSets : List ℕ → ℕ → SetLine → Type 0
IsOfSets columns used (Numbers values) = AreWholeRows (columns_at columns used) values
IsOfSets columns used (Use d) = d < length columns

-- why a line says nothing
abbrev pub HasNoMeaning : List ℕ → ℕ → ℕ → List ℕ → BatchError → Type 0
HasNoMeaning columns used number line (errors.Line n) = (n ≡ number) × (set_line_of columns used line ≡ None)
HasNoMeaning columns used number line (errors.Input limit) = ⊥
HasNoMeaning columns used number line errors.Source = ⊥
HasNoMeaning columns used number line errors.OutOfMemory = Unit {0}
