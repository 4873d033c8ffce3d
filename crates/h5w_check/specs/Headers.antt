-- What is refused of a header, as a finding.
use Rattle.std.specs.Prelude.{ℕ, Result}
use Rattle.h5w_model.specs.Datasets.{refused_as}
use Rattle.h5w_model.specs.Findings.{Finding, found}
use Rattle.h5w_model.specs.declared.refusal.ReadError.{ReadError}
use Rattle.h5w_headers.specs.declared.error.FindError.{FindError}
use Rattle.h5w_headers.specs.declared.error.FindError.TheVariants as find_errors
use Rattle.h5w_check.specs.Verdicts.{error_of}
use Rattle.h5w_check.specs.declared.error.CheckError.{CheckError}
use Rattle.h5w_check.specs.declared.error.CheckError.TheVariants as errors

-- any refusal is one finding
abbrev pub finding_for : {A E : Type 0} → ℕ → ℕ → Result A E → Result A Finding
finding_for kind place r = refused_as (λ _. found kind place) r

-- what a refusal is as a finding; a failed image and want of memory stay what they are
abbrev pub error_for : (ReadError → Finding) → FindError → CheckError
error_for f (find_errors.Refused e) = error_of (f e)
error_for f find_errors.Failed = errors.Failed
error_for f find_errors.OutOfMemory = errors.OutOfMemory
