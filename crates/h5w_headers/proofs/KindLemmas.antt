-- An answer with errors of one kind as an answer with errors of another.
use Rattle.std.proofs.Common.{◌≡◌, ℕ, List, Option, Some, None, Result, Ok, Err, sym, ap, subst}
use Rattle.std.specs.Prelude.{option_map}
use Rattle.h5w_model.specs.Datasets.{refused_as}
use Rattle.h5w_image.specs.View.{ImageView}
use Rattle.h5w_headers.specs.Ran.{Errors, Ran, Told, Refuses, Tells}

-- what is a refusal of the one kind is one of the other, and nothing else is the failed image
pub record Become {R E S F : Type 0} (k : Errors R E) (l : Errors S F) (f : R → S) (g : E → F) : Type 0 where
  pub refusal : (e : E) → l.refusal (g e) ≡ option_map f (k.refusal e)
  pub failed : (e : E) → g e ≡ l.failed → e ≡ k.failed

-- the answer with its error as another
abbrev pub become : {A E F : Type 0} → (E → F) → Result A E → Result A F
become g (Ok a) = Ok a
become g (Err e) = Err (g e)

refuses_as : {A R S : Type 0} (f : R → S) (given : Result A R) (r : Option R) → Refuses given r → Refuses (refused_as f given) (option_map f r)
refuses_as f given (Some r) h = ap (refused_as f) h
refuses_as f given None h = tt

tells_as : {A R E S F : Type 0} {k : Errors R E} {l : Errors S F} (f : R → S) (g : E → F) (given : Result A R) (answer : Result A E) → Become k l f g → Tells k given answer → Tells l (refused_as f given) (become g answer)
tells_as f g given (Ok a) are h = ap (refused_as f) h
tells_as {k = k} f g given (Err e) are h = subst (Refuses (refused_as f given)) (sym (are.refusal e)) (refuses_as f given (k.refusal e) h)

failed_as : {A R E S F : Type 0} {k : Errors R E} {l : Errors S F} (f : R → S) (g : E → F) (answer : Result A E) → Become k l f g → become g answer ≡ Err l.failed → answer ≡ Err k.failed
failed_as f g (Ok a) are h = absurd cc
failed_as {l = l} f g (Err e) are h = let same : g e ≡ l.failed = cc in ap (λ x. Err x) (are.failed e same)

pub ran_as : {A R E S F : Type 0} {k : Errors R E} {l : Errors S F} {v w : ImageView} (f : R → S) (g : E → F) (given : List ℕ → Result A R) (answer : Result A E)
    → Become k l f g → Ran k v w given answer → Ran l v w (λ img. refused_as f (given img)) (become g answer)
ran_as {k = k} {l = l} f g given answer are one = record {
  looked = one.looked;
  cause = λ h. one.cause (failed_as f g answer are h);
  exact = λ img still. tells_as {k = k} {l = l} f g (given img) answer are (one.exact img still);
}

pub told_as : {A R E S F : Type 0} {k : Errors R E} {l : Errors S F} (f : R → S) (g : E → F) (given : Result A R) (answer : Result A E)
    → Become k l f g → Told k given answer → Told l (refused_as f given) (become g answer)
told_as {k = k} {l = l} f g given answer are one = record {
  exact = tells_as {k = k} {l = l} f g given answer are one.exact;
  quiet = λ h. one.quiet (failed_as f g answer are h);
}
