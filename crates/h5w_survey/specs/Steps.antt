-- What a step of a survey tells of an image that it looked at.
use Rattle.std.specs.Prelude.{◌≡◌, List, ℕ, Result, Ok, Err}
use Rattle.h5w_model.specs.Causes.{Rose}
use Rattle.h5w_image.specs.View.{ImageView, Looked}
use Rattle.h5w_looks.specs.Still.{IsStill}
use Rattle.h5w_survey.specs.declared.error.SurveyError.{SurveyError}
use Rattle.h5w_survey.specs.declared.error.SurveyError.TheVariants.{Failed}

abbrev pub Says : {A : Type 0} → (A → Type 0) → (SurveyError → Type 0) → Result A SurveyError → Type 0
Says P Q (Ok a) = P a
Says P Q (Err e) = Q e

-- A step looked at an image. Where the image tells its bytes and nobody else writes it, the answer is told, and so is an error. Where the
-- image failed, its count of faults rose.
pub record SurveyStep {A : Type 0} (v w : ImageView) (P : List ℕ → A → Type 0) (Q : List ℕ → SurveyError → Type 0) (answer : Result A SurveyError) : Type 0 where
  pub looked : Looked v w
  pub cause : answer ≡ Err Failed → Rose v.faults w.faults
  pub exact : (img : List ℕ) → IsStill v img → Says (P img) (Q img) answer
