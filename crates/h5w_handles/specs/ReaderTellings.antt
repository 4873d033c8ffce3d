-- What a reader's answers are told as.
use Rattle.std.specs.Prelude.{List, length, Option, Some, None, ℤ}
use Rattle.h5w_model.specs.declared.refusal.ReadError.{ReadError}
use Rattle.h5w_model.specs.declared.refusal.ReadError.TheVariants as reads
use Rattle.h5w_reader.specs.declared.step.ReadBegin.{ReadBegin}
use Rattle.h5w_reader.specs.declared.step.ReadBegin.TheVariants as begins
use Rattle.h5w_reader.specs.declared.step.Step.{Step}
use Rattle.h5w_reader.specs.declared.step.Step.TheVariants as steps
use Rattle.h5w_handles.specs.Codes.{busy, no_memory, told, wants_more}
use Rattle.h5w_handles.specs.declared.code.H5wCode.TheVariants as codes
use Rattle.h5w_handles.specs.declared.code.H5wTold.{H5wTold}

-- a reader's refusal, by its kind and what it tells of the file
abbrev pub refusal_told : ReadError → H5wTold
refusal_told (reads.Again attempts at first last) = told codes.Again attempts at
refusal_told (reads.Shrunk seen found) = told codes.Shrunk 0 found
refusal_told reads.OutOfMemory = no_memory
refusal_told reads.NotHdf5 = told codes.Refused 1 0
refusal_told (reads.Super e) = told codes.Refused 2 0
refusal_told (reads.NotSwmr flags) = told codes.Refused 3 flags
refusal_told (reads.Header at e) = told codes.Refused 4 at
refusal_told (reads.Link e) = told codes.Refused 5 0
refusal_told (reads.Unsupported u) = told codes.Refused 6 (u.0)
refusal_told (reads.TooManyChunks needed limit) = told codes.Refused 7 limit
refusal_told (reads.Damaged at fault) = told codes.Refused 8 at

-- why a call is not begun
abbrev pub begin_told : ReadBegin → H5wTold
begin_told begins.Busy = busy
begin_told (begins.OutOfRows from count rows) = told codes.Rows 0 rows
begin_told begins.OutOfMemory = no_memory

-- what a look made of a call
abbrev pub step_told : Step → H5wTold
step_told steps.More = wants_more
step_told (steps.Rows rows) = told codes.Done 0 rows
step_told (steps.Values vs) = told codes.Values 0 (length vs)
step_told (steps.Refused e) = refusal_told e

-- a read has begun, or its values are there
abbrev pub read_told : Option (List ℤ) → H5wTold
read_told None = wants_more
read_told (Some vs) = told codes.Values 0 (length vs)
