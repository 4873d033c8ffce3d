-- What was read of an input of numbers.
use Rattle.std.specs.Prelude.{◌≡◌, ◌⊎◌, ℕ, ◌+◌, ◌^◌, ◌<◌, ◌≤◌, List, [], ◌∷◌, ◌++◌, length, map, take, None, Some, IfSome, option_map, ℤ}
use Rattle.h5w_input.specs.Lines.{lines_of, whole_lines_of}
use Rattle.h5w_input.specs.LinesAhead.{LinesAhead}
use Rattle.h5w_input.specs.Scripts.{number_line_of}
use Rattle.h5w_text.specs.Streams.{SourceView}

-- the most bytes of an input
abbrev pub input_limit : ℕ
input_limit = 2 ^ 40

-- the lines are those of numbers, and have these values
abbrev pub Spell : ℕ → List (List ℕ) → List (List ℤ) → Type 0
Spell columns lines numbers = map (number_line_of columns) lines ≡ map Some numbers

-- ---- The lines of an input

-- all lines of an input that is not too long
abbrev pub AreAll : List (List ℕ) → List ℕ → Type 0
AreAll lines input = (length input ≤ input_limit) × (lines_of input ≡ lines)

-- the lines that end among the first bytes of an input that is too long
abbrev pub AreWithin : List (List ℕ) → List ℕ → Type 0
AreWithin lines input = (input_limit < length input) × (whole_lines_of (take input_limit input) ≡ lines)

-- these lines are the first of those that are read of an input
abbrev pub AreFirst : List (List ℕ) → List ℕ → Type 0
AreFirst lines input = (behind : List (List ℕ)) × (AreAll (lines ++ behind) input ⊎ AreWithin (lines ++ behind) input)

-- ---- What was read

-- The whole input, which is not too long, was read; its lines have these values.
pub record ReadsAll (columns : ℕ) (s t : SourceView) (numbers : List (List ℤ)) : Type 0 where
  pub lines : List (List ℕ)
  pub spell : Spell columns lines numbers
  pub all : IfSome s.left (AreAll lines)
  pub read : IfSome t.left (λ rest. rest ≡ [])

-- The line of this number is the first that is outside the grammar of numbers; lines count from 1.
pub record ReadsOutside (columns : ℕ) (s : SourceView) (number : ℕ) : Type 0 where
  pub lines : List (List ℕ)
  pub numbers : List (List ℤ)
  pub spell : Spell columns lines numbers
  pub line : List ℕ
  pub outside : number_line_of columns line ≡ None
  pub number_is : number ≡ length lines + 1
  pub first : IfSome s.left (AreFirst (lines ++ line ∷ []))

-- The source had more bytes than an input may have, where it tells them; the lines that end among so many first ones have these values.
pub record ReadsTooMuch (columns : ℕ) (s : SourceView) (numbers : List (List ℤ)) : Type 0 where
  pub lines : List (List ℕ)
  pub spell : Spell columns lines numbers
  pub long : IfSome s.left (AreWithin lines)

-- Between two states of the source all whole lines that were read have these values; of a last piece that was read without its end
-- nothing was taken.
pub record ReadsWhole (columns : ℕ) (s t : SourceView) (numbers : List (List ℤ)) : Type 0 where
  pub taken : List ℕ
  pub bound : length taken ≤ input_limit
  pub read : s.left ≡ option_map (λ rest. taken ++ rest) t.left
  pub spell : Spell columns (whole_lines_of taken) numbers

-- The source tells an input that is not too long, all of whose lines have values.
pub record HasNumbers (columns : ℕ) (s : SourceView) : Type 0 where
  pub input : List ℕ
  pub told : s.left ≡ Some input
  pub bound : length input ≤ input_limit
  pub numbers : List (List ℤ)
  pub spell : Spell columns (lines_of input) numbers

-- ---- The source

-- a source whose count of faults has not fallen, and which works through the same references
pub record SameSource (s t : SourceView) : Type 0 where
  pub faults : s.faults ≤ t.faults
  pub through : t.through ≡ s.through

-- what a reader of lines has before it, as a source
abbrev pub outside : LinesAhead → SourceView
outside v = record { left = v.left; faults = v.faults; through = v.through }
