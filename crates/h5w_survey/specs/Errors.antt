-- The errors of others, as those of a survey.
use Rattle.h5w_check.specs.declared.error.CheckError.{CheckError}
use Rattle.h5w_check.specs.declared.error.CheckError.TheVariants as checks
use Rattle.h5w_headers.specs.declared.error.FindError.{FindError}
use Rattle.h5w_headers.specs.declared.error.FindError.TheVariants as finds
use Rattle.h5w_survey.specs.declared.error.SurveyError.{SurveyError}
use Rattle.h5w_survey.specs.declared.error.SurveyError.TheVariants.{Finding, Overlap, Failed, OutOfMemory}

abbrev pub of_check : CheckError → SurveyError
of_check (checks.Finding kind at) = Finding kind at
of_check (checks.Overlap at len other other_len) = Overlap at len other other_len
of_check checks.Failed = Failed
of_check checks.OutOfMemory = OutOfMemory

-- what was valid is refused: it is another file now
abbrev pub of_found : FindError → SurveyError
of_found (finds.Refused e) = Finding 8 0
of_found finds.Failed = Failed
of_found finds.OutOfMemory = OutOfMemory
