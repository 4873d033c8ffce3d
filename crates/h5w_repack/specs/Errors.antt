-- The errors of others, as those of a repack.
use Rattle.h5w_cache.specs.declared.plan.PlanError.{PlanError}
use Rattle.h5w_cache.specs.declared.plan.PlanError.TheVariants as plans
use Rattle.h5w_survey.specs.declared.error.SurveyError.{SurveyError}
use Rattle.h5w_survey.specs.declared.error.SurveyError.TheVariants as surveys
use Rattle.h5w_repack.specs.declared.error.CopyError.{CopyError}
use Rattle.h5w_repack.specs.declared.error.CopyError.TheVariants as copies
use Rattle.h5w_repack.specs.declared.error.RepackError.{RepackError}
use Rattle.h5w_repack.specs.declared.error.RepackError.TheVariants.{Finding, Overlap, Flags, Space, From, To, OutOfMemory}

-- the image that failed is the source
abbrev pub of_survey : SurveyError → RepackError
of_survey (surveys.Finding kind at) = Finding kind at
of_survey (surveys.Overlap at len other other_len) = Overlap at len other other_len
of_survey (surveys.Flags flags) = Flags flags
of_survey surveys.Failed = From
of_survey surveys.OutOfMemory = OutOfMemory

abbrev pub of_plan : PlanError → RepackError
of_plan (plans.Full full) = Space full
of_plan plans.OutOfMemory = OutOfMemory

abbrev pub of_copy : CopyError → RepackError
of_copy copies.From = From
of_copy copies.To = To
of_copy copies.OutOfMemory = OutOfMemory
