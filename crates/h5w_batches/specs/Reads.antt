-- What a reader of batches answers.
use Rattle.std.specs.Prelude.{◌≡◌, ◌⊎◌, ℕ, List, None, Some, Result, Ok, Err, ℤ}
use Rattle.h5w_model.specs.Causes.{Rose}
use Rattle.h5w_input.specs.Scripts.{number_line_of}
use Rattle.h5w_text.specs.Streams.{SourceView}
use Rattle.h5w_input.specs.declared.line.LineError.{LineError}
use Rattle.h5w_input.specs.declared.line.LineError.TheVariants as line_errors
use Rattle.h5w_batches.specs.Batches.{Batches, after_line, batches_of, with_line}
use Rattle.h5w_batches.specs.Inputs.{ReadsAll, ReadsOutside, ReadsTooMuch, ReadsWhole, input_limit}
use Rattle.h5w_batches.specs.declared.error.BatchError.{BatchError}
use Rattle.h5w_batches.specs.declared.error.BatchError.TheVariants as errors

-- The whole input was read, and these are its batches.
pub record ReadsBatches (columns : ℕ) (s t : SourceView) (batches : List (List ℤ)) : Type 0 where
  pub numbers : List (List ℤ)
  pub reads : ReadsAll columns s t numbers
  pub batches_are : batches ≡ batches_of numbers

-- the input has more bytes than the limit
abbrev pub IsTooLong : ℕ → SourceView → ℕ → Type 0
IsTooLong columns s limit = (limit ≡ input_limit) × (numbers : List (List ℤ)) × ReadsTooMuch columns s numbers

-- the source failed
abbrev pub HasFailed : ℕ → SourceView → SourceView → Type 0
HasFailed columns s t = Rose s.faults t.faults × (numbers : List (List ℤ)) × ReadsWhole columns s t numbers

-- why the batches of an input were not read
abbrev pub Refuses : ℕ → SourceView → SourceView → BatchError → Type 0
Refuses columns s t (errors.Line number) = ReadsOutside columns s number
Refuses columns s t (errors.Input limit) = IsTooLong columns s limit
Refuses columns s t errors.Source = HasFailed columns s t
Refuses columns s t errors.OutOfMemory = Unit {0}

-- what no input is refused for
abbrev pub IsBeside : BatchError → Type 0
IsBeside (errors.Line number) = ⊥
IsBeside (errors.Input limit) = ⊥
IsBeside errors.Source = Unit {0}
IsBeside errors.OutOfMemory = Unit {0}

-- The answer is this refusal, unless the source failed or memory was wanting.
abbrev pub IsRefused : {T : Type 0} → BatchError → Result T BatchError → Type 0
IsRefused error (Ok x) = ⊥
IsRefused error (Err e) = (e ≡ error) ⊎ IsBeside e

-- ---- One line

-- the batches behind a line
pub record TakesEach (columns : ℕ) (line : List ℕ) (b next : Batches) : Type 0 where
  pub values : List ℤ
  pub spelled : number_line_of columns line ≡ Some values
  pub next_is : next ≡ with_line b values

-- the batches behind a line, of those that have values
pub record Takes (columns : ℕ) (line : List ℕ) (b next : Batches) : Type 0 where
  pub values : List ℤ
  pub spelled : number_line_of columns line ≡ Some values
  pub next_is : next ≡ after_line b values

-- why a line was not taken
abbrev pub HasNoValues : ℕ → ℕ → List ℕ → BatchError → Type 0
HasNoValues columns number line (errors.Line n) = (n ≡ number) × (number_line_of columns line ≡ None)
HasNoValues columns number line (errors.Input limit) = ⊥
HasNoValues columns number line errors.Source = ⊥
HasNoValues columns number line errors.OutOfMemory = Unit {0}

-- the error of a line that the source did not give
abbrev pub error_of : LineError → BatchError
error_of line_errors.Failed = errors.Source
error_of (line_errors.Input limit) = errors.Input limit
error_of line_errors.OutOfMemory = errors.OutOfMemory
