-- What a call answers, beside what a definition gives.
use Rattle.std.specs.Prelude.{ℕ, List, Option, Some, None, Result}
use Rattle.h5w_model.specs.Findings.{Finding, found, overlap}
use Rattle.h5w_image.specs.View.{ImageView}
use Rattle.h5w_headers.specs.Ran as calls
pub use Rattle.h5w_headers.specs.Ran.{answering, seen}
use Rattle.h5w_check.specs.declared.error.CheckError.{CheckError}
use Rattle.h5w_check.specs.declared.error.CheckError.TheVariants as errors

-- a finding or an overlap is what is given; a failed image and want of memory are not
abbrev pub finding_of : CheckError → Option Finding
finding_of (errors.Finding kind at) = Some (found kind at)
finding_of (errors.Overlap at len other other_len) = Some (overlap at len other other_len)
finding_of errors.Failed = None
finding_of errors.OutOfMemory = None

abbrev pub check_errors : calls.Errors Finding CheckError
check_errors = record { refusal = finding_of; failed = errors.Failed }

-- the answer is what is given
abbrev pub Tells : {B : Type 0} → Result B Finding → Result B CheckError → Type 0
Tells given answer = calls.Tells check_errors given answer

-- the answer of a call that looks at no image
abbrev pub Told : {B : Type 0} → Result B Finding → Result B CheckError → Type 0
Told given answer = calls.Told check_errors given answer

-- the answer of a call that looked at an image, which was seen so before and is after: on a still image it is what that image gives
abbrev pub Ran : {B : Type 0} → ImageView → ImageView → (List ℕ → Result B Finding) → Result B CheckError → Type 0
Ran v w given answer = calls.Ran check_errors v w given answer
