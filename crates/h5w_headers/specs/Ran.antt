-- What a call answers, beside what a definition gives.
use Rattle.std.specs.Prelude.{◌≡◌, ℕ, List, Option, Some, None, Result, Ok, Err}
use Rattle.h5w_model.specs.Causes.{Rose}
use Rattle.h5w_image.specs.View.{ImageView, Looked}
use Rattle.h5w_looks.specs.Still.{IsStill}

-- The errors of a kind: those that are refusals, and that of an image that failed. What is neither is want of memory.
pub record Errors (R E : Type 0) : Type 0 where
  pub refusal : E → Option R
  pub failed : E

-- an answer with another value in place of its own
abbrev pub answering : {A B E : Type 0} → B → Result A E → Result B E
answering b (Ok a) = Ok b
answering b (Err e) = Err e

-- the same by its value
abbrev pub seen : {A B E : Type 0} → (A → B) → Result A E → Result B E
seen f (Ok a) = Ok (f a)
seen f (Err e) = Err e

-- a refusal is what is given
abbrev pub Refuses : {B R : Type 0} → Result B R → Option R → Type 0
Refuses given (Some r) = given ≡ Err r
Refuses given None = Unit {0}

-- a refusal is what is given; a failed image and want of memory are not
abbrev pub Stops : {B R E : Type 0} → Errors R E → Result B R → E → Type 0
Stops errors given e = Refuses given (errors.refusal e)

-- the answer is what is given
abbrev pub Tells : {B R E : Type 0} → Errors R E → Result B R → Result B E → Type 0
Tells errors given (Ok b) = given ≡ Ok b
Tells errors given (Err e) = Stops errors given e

-- the answer of a call that looks at no image
pub record Told {B R E : Type 0} (errors : Errors R E) (given : Result B R) (answer : Result B E) : Type 0 where
  pub exact : Tells errors given answer
  pub quiet : answer ≡ Err errors.failed → ⊥

-- The answer of a call that looked at an image, which was seen so before and is after: on a still image it is what that
-- image gives.
pub record Ran {B R E : Type 0} (errors : Errors R E) (v w : ImageView) (given : List ℕ → Result B R) (answer : Result B E) : Type 0 where
  pub looked : Looked v w
  pub cause : answer ≡ Err errors.failed → Rose v.faults w.faults
  pub exact : (img : List ℕ) → IsStill v img → Tells errors (given img) answer
