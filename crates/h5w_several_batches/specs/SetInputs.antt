-- What was read of an input of several datasets.
use Rattle.std.specs.Prelude.{◌≡◌, ℕ, ◌≤◌, List, [], ◌∷◌, ◌++◌, length, Some, IfSome, option_map}
use Rattle.h5w_input.specs.Lines.{whole_lines_of}
use Rattle.h5w_text.specs.Streams.{SourceView}
use Rattle.h5w_batches.specs.Inputs.{AreAll, AreFirst, AreWithin, input_limit}
use Rattle.h5w_several_batches.specs.SetLines.{set_line_of, used_after}
use Rattle.h5w_several_batches.specs.declared.line.SetLine.{SetLine}

-- the lines say this, one after another, where this dataset is in use before them
abbrev pub AreSaid : List ℕ → ℕ → List (List ℕ) → List SetLine → Type 0
AreSaid columns used [] [] = Unit {0}
AreSaid columns used [] (x ∷ xs) = ⊥
AreSaid columns used (l ∷ ls) [] = ⊥
AreSaid columns used (l ∷ ls) (x ∷ xs) = (set_line_of columns used l ≡ Some x) × AreSaid columns (used_after used x) ls xs

-- The whole input, which is not too long, was read; its lines say this.
pub record SaysAll (columns : List ℕ) (s t : SourceView) (said : List SetLine) : Type 0 where
  pub lines : List (List ℕ)
  pub are : AreSaid columns 0 lines said
  pub all : IfSome s.left (AreAll lines)
  pub read : IfSome t.left (λ rest. rest ≡ [])

-- Some first lines were read, and say this.
pub record SaysFirst (columns : List ℕ) (s : SourceView) (said : List SetLine) : Type 0 where
  pub lines : List (List ℕ)
  pub are : AreSaid columns 0 lines said
  pub first : IfSome s.left (AreFirst lines)

-- One more line was read behind those.
pub record SaysBefore (columns : List ℕ) (s : SourceView) (said : List SetLine) (line : List ℕ) : Type 0 where
  pub lines : List (List ℕ)
  pub are : AreSaid columns 0 lines said
  pub count : length lines ≡ length said
  pub first : IfSome s.left (AreFirst (lines ++ line ∷ []))

-- The source had more bytes than an input may have, where it tells them; the lines that end among so many first ones say this.
pub record SaysTooMuch (columns : List ℕ) (s : SourceView) (said : List SetLine) : Type 0 where
  pub lines : List (List ℕ)
  pub are : AreSaid columns 0 lines said
  pub long : IfSome s.left (AreWithin lines)

-- Between two states of the source all whole lines that were read say this; of a last piece that was read without its end nothing was taken.
pub record SaysWhole (columns : List ℕ) (s t : SourceView) (said : List SetLine) : Type 0 where
  pub taken : List ℕ
  pub bound : length taken ≤ input_limit
  pub read : s.left ≡ option_map (λ rest. taken ++ rest) t.left
  pub are : AreSaid columns 0 (whole_lines_of taken) said
