-- What calls say of an image at which they look while a tree is opened.
use Rattle.std.specs.Prelude.{◌≡◌, ℕ, Bool, false, List, Option, Some, None, Result, Ok, Err}
use Rattle.h5w_model.specs.Causes.{Rose}
use Rattle.h5w_model.specs.declared.refusal.BlockFault.{BlockFault}
use Rattle.h5w_image.specs.View.{ImageView, Looked}
use Rattle.h5w_image.specs.declared.fault.ImageError.{ImageError}
use Rattle.h5w_image.specs.declared.fault.ImageError.TheVariants as image_errors
use Rattle.h5w_looks.specs.Still.{IsStill}
use Rattle.h5w_bt_open.specs.declared.error.OpenTreeError.{OpenTreeError}
use Rattle.h5w_bt_open.specs.declared.error.OpenTreeError.TheVariants.{Damaged, Failed, OutOfMemory}

-- what an image's failure is to who opens a tree
abbrev pub outside : ImageError → OpenTreeError
outside image_errors.Failed = Failed
outside image_errors.OutOfMemory = OutOfMemory

abbrev pub IfDamaged : OpenTreeError → (ℕ → BlockFault → Type 0) → Type 0
IfDamaged (Damaged at f) P = P at f
IfDamaged Failed P = Unit {0}
IfDamaged OutOfMemory P = Unit {0}

abbrev pub OnDamaged : {A : Type 0} → Result A OpenTreeError → (ℕ → BlockFault → Type 0) → Type 0
OnDamaged (Ok a) P = Unit {0}
OnDamaged (Err e) P = IfDamaged e P

-- What a call says of an image at which it looked, beside its value: where it answers that a block is damaged, this holds of it.
pub record Loads {A : Type 0} (v w : ImageView) (Says : List ℕ → ℕ → BlockFault → Type 0) (answer : Result A OpenTreeError) : Type 0 where
  pub looked : Looked v w
  pub cause : answer ≡ Err Failed → Rose v.faults w.faults
  pub damaged : (img : List ℕ) → IsStill v img → OnDamaged answer (Says img)

-- bytes that were decoded: the block where it is one, none where it is refused and not needed
abbrev pub IsJudged : {A B : Type 0} → (A → B) → Result B BlockFault → Bool → Option A → Type 0
IsJudged view read needed (Some a) = read ≡ Ok (view a)
IsJudged view read needed None = ((f : BlockFault) × (read ≡ Err f)) × (needed ≡ false)
