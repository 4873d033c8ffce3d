-- What the calls of a reader tell, and what they make of it.
use Rattle.std.specs.Prelude.{◌≡◌, ◌⊎◌, ℕ, List, ◌++◌, length, drop, nat_le, Bool, true, false, Option, Some, None, option_map, ℤ}
use Rattle.h5w_model.specs.Tables.{Reading}
use Rattle.h5w_model.specs.Unfinished.{fed_left, rows_left, rows_program, values_program, wanted, with_left}
use Rattle.h5w_model.specs.declared.refusal.ReadError.{ReadError}
use Rattle.h5w_reader.specs.Cores.{reader}
use Rattle.h5w_reader.specs.Readers.{BegunRead, IsRefusedRead, StepTells, begin_refusal, new_reader, read_refusal, reader_rules}
use Rattle.h5w_reader.specs.declared.step.ReadBegin.{ReadBegin}
use Rattle.h5w_reader.specs.declared.step.Step.{Step}
use Rattle.h5w_reader.specs.declared.step.Step.TheVariants as steps
use Rattle.h5w_handles.specs.Codes.{busy, misuse, wants_more}
use Rattle.h5w_handles.specs.Copies.{numbers}
use Rattle.h5w_handles.specs.ReaderTellings.{begin_told, read_told, step_told}
use Rattle.h5w_handles.specs.Shapes.{shape_told}
use Rattle.h5w_handles.specs.Texts.{PutsRefusal}
use Rattle.h5w_handles.specs.declared.code.H5wPlace.{H5wPlace}
use Rattle.h5w_handles.specs.declared.code.H5wTold.{H5wTold}
use Rattle.h5w_handles.specs.declared.reader.ReaderState.{ReaderState}
use Rattle.h5w_handles.specs.declared.shape.H5wShape.{H5wShape}

-- a reader that begins to open the dataset of this name, with so many attempts, and has neither values nor a refusal
pub record IsNewReader (name : List ℕ) (attempts : ℕ) (s : ReaderState) : Type 0 where
  pub core : reader s.core ≡ new_reader (reader_rules name attempts)
  pub values : s.values ≡ None
  pub refusal : s.refusal ≡ None

-- the reader is as before
pub record IsAsBefore (s t : ReaderState) : Type 0 where
  pub core : reader t.core ≡ reader s.core
  pub values : t.values ≡ s.values
  pub refusal : t.refusal ≡ s.refusal

-- A refresh is busy exactly if a call is unfinished; else it begins, or an open again as long as no dataset is known.
pub record Refreshed (s : ReaderState) (answer : H5wTold) (t : ReaderState) : Type 0 where
  pub values : t.values ≡ s.values
  pub refusal : t.refusal ≡ s.refusal
  pub unfinished : (e : ReadBegin) → begin_refusal (reader s.core).left ≡ Some e → (answer ≡ busy) × (reader t.core ≡ reader s.core)
  pub begun : begin_refusal (reader s.core).left ≡ None → (answer ≡ wants_more) × (reader t.core ≡ with_left (reader s.core) (Some (rows_left (rows_program (reader s.core).rules (reader s.core).known))))

-- the values of the last read that gave some
abbrev pub values_or : Option (List ℤ) → Option (List ℤ) → Option (List ℤ)
values_or old None = old
values_or old (Some vs) = Some vs

-- A read that is not refused has begun, or its values are there.
pub record BeganRead (from count : ℕ) (s : ReaderState) (answer : H5wTold) (t : ReaderState) : Type 0 where
  pub given : Option (List ℤ)
  pub begun : BegunRead (values_program (reader s.core).known from count) (reader s.core) given (reader t.core)
  pub told : answer ≡ read_told given
  pub values : t.values ≡ values_or s.values given
  pub refusal : t.refusal ≡ s.refusal

-- it is refused while a call is unfinished, of rows that were not seen, or for want of memory
pub record RefusedRead (from count : ℕ) (s : ReaderState) (answer : H5wTold) (t : ReaderState) : Type 0 where
  pub why : ReadBegin
  pub cause : IsRefusedRead (read_refusal (reader s.core) from count) why
  pub told : answer ≡ begin_told why
  pub same : IsAsBefore s t

pub record BeginsRead (from count : ℕ) (s : ReaderState) (answer : H5wTold) (t : ReaderState) : Type 0 where
  pub refused : (e : ReadBegin) → read_refusal (reader s.core) from count ≡ Some e → (answer ≡ begin_told e) × IsAsBefore s t
  pub either : BeganRead from count s answer t ⊎ RefusedRead from count s answer t

-- a look is wanted, and so many bytes are no more than it asks for
abbrev pub is_within : Option (ℕ × ℕ) → ℕ → Bool
is_within None n = false
is_within (Some look) n = nat_le n look.1

abbrev pub values_after : Option (List ℤ) → Step → Option (List ℤ)
values_after old steps.More = old
values_after old (steps.Rows n) = old
values_after old (steps.Values vs) = Some vs
values_after old (steps.Refused e) = old

-- the last refusal that a look led to
abbrev pub refusal_after : Option ReadError → Step → Option ReadError
refusal_after old steps.More = old
refusal_after old (steps.Rows n) = old
refusal_after old (steps.Values vs) = old
refusal_after old (steps.Refused e) = Some e

-- What the bytes of a look make of a call.
pub record Stepped (bytes : List ℕ) (s : ReaderState) (answer : H5wTold) (t : ReaderState) : Type 0 where
  pub step : Step
  pub tells : StepTells (option_map (fed_left bytes) (reader s.core).left) (reader s.core) step (reader t.core)
  pub told : answer ≡ step_told step
  pub values : t.values ≡ values_after s.values step
  pub refusal : t.refusal ≡ refusal_after s.refusal step

-- Bytes are misused exactly if no look is wanted, or they are more than it asks for.
pub record Gave (bytes : List ℕ) (s : ReaderState) (answer : H5wTold) (t : ReaderState) : Type 0 where
  pub misused : is_within (wanted (reader s.core).left) (length bytes) ≡ false → (answer ≡ misuse) × (t ≡ s)
  pub stepped : is_within (wanted (reader s.core).left) (length bytes) ≡ true → Stepped bytes s answer t

-- No call is unfinished, as if it had not begun.
pub record IsQuit (s t : ReaderState) : Type 0 where
  pub core : reader t.core ≡ with_left (reader s.core) None
  pub values : t.values ≡ s.values
  pub refusal : t.refusal ≡ s.refusal

-- a place and a length
abbrev pub pair_of : H5wPlace → ℕ × ℕ
pair_of p = (p.at, p.len)

-- the look that is wanted, or none; the reader is as it was
pub record IsWantedPlace (s : ReaderState) (place : Option H5wPlace) (t : ReaderState) : Type 0 where
  pub look : wanted (reader s.core).left ≡ option_map pair_of place
  pub same : t ≡ s

-- what a call answers that gives a place, and whether it does
abbrev pub place_if : Bool → H5wPlace → Option H5wPlace
place_if true p = Some p
place_if false p = None

-- How many numbers are put, and what they leave: as many of the values from one on as there is room for, up to the first that is no such
-- number, in front of what else is there. The reader is as it was.
pub record Copied {A : Type 0} (f : ℤ → Option A) (from : ℕ) (out : List A) (s : ReaderState) (answer : ℕ × List A) (t : ReaderState) : Type 0 where
  pub count : answer.0 ≡ length (numbers f from (length out) s.values)
  pub left : answer.1 ≡ numbers f from (length out) s.values ++ drop answer.0 out
  pub same : t ≡ s

-- ---- What a viewer needs of a dataset, and the text of a refusal

-- the shape of the dataset that is known, or none; the reader is as it was
pub record IsKnownShape (s : ReaderState) (shape : Option H5wShape) (t : ReaderState) : Type 0 where
  pub known : shape ≡ option_map shape_told (option_map (λ (r : Reading). r.dataset) (reader s.core).known)
  pub same : t ≡ s

-- How many bytes the line of the last refusal has, and what it leaves; none without a refusal. The reader is as it was.
pub record TellsRefusal (out : List ℕ) (s : ReaderState) (answer : ℕ × List ℕ) (t : ReaderState) : Type 0 where
  pub line : PutsRefusal s.refusal out answer
  pub same : t ≡ s
