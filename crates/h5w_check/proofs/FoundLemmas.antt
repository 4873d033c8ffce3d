-- What is found of a header, as a check answers it.
use Rattle.std.proofs.Common.{◌≡◌, ℕ, List, Some, Result, refl}
use Rattle.std.specs.Prelude.{option_map}
use Rattle.h5w_model.specs.Datasets.{refused_as}
use Rattle.h5w_model.specs.Findings.{Finding, found, overlap}
use Rattle.h5w_model.specs.declared.refusal.ReadError.{ReadError}
use Rattle.h5w_image.specs.View.{ImageView}
use Rattle.h5w_headers.specs.Ran as calls
use Rattle.h5w_headers.specs.Errors.{find_errors, refusal_of}
use Rattle.h5w_headers.specs.declared.error.FindError.{FindError}
use Rattle.h5w_headers.specs.declared.error.FindError.TheVariants as not_found
use Rattle.h5w_headers.proofs.KindLemmas.{Become, become, ran_as, told_as}
use Rattle.h5w_check.specs.Ran.{Ran, Told, check_errors, finding_of}
use Rattle.h5w_check.specs.Headers.{error_for}
use Rattle.h5w_check.specs.Verdicts.{error_of}
use Rattle.h5w_check.specs.declared.error.CheckError.TheVariants as errors

said : (f : Finding) → finding_of (error_of f) ≡ Some f
said (found kind place) = refl
said (overlap place len other other_len) = refl

is_finding : (f : Finding) → error_of f ≡ errors.Failed → ⊥
is_finding (found kind place) h = absurd cc
is_finding (overlap place len other other_len) h = absurd cc

all_said : (f : ReadError → Finding) → Become find_errors check_errors f (error_for f)
all_said f = record {
  refusal = λ e. elim e as (λ e. finding_of (error_for f e) ≡ option_map f (refusal_of e)) [ not_found.Refused r ↦ said (f r) | not_found.Failed ↦ refl | not_found.OutOfMemory ↦ refl ];
  failed = λ e. elim e as (λ e. error_for f e ≡ errors.Failed → e ≡ not_found.Failed) [
    | not_found.Refused r ↦ λ h. absurd (is_finding (f r) h)
    | not_found.Failed ↦ λ h. refl
    | not_found.OutOfMemory ↦ λ h. absurd cc
  ];
}

pub ran_found : {A : Type 0} {v w : ImageView} (f : ReadError → Finding) (given : List ℕ → Result A ReadError) (answer : Result A FindError)
    → calls.Ran find_errors v w given answer → Ran v w (λ img. refused_as f (given img)) (become (error_for f) answer)
ran_found f given answer one = ran_as f (error_for f) given answer (all_said f) one

pub by_kind : (f : Finding) (kind place : ℕ) → f ≡ found kind place → error_of f ≡ errors.Finding kind place
by_kind f kind place e = rw e refl
