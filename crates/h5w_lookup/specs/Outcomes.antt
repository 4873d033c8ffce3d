-- What a step of a program comes to, and what is left of the program.
use Rattle.std.specs.Prelude.{◌≡◌, Result, Ok, Err}
use Rattle.h5w_model.specs.Programs.{Prog, ret}
use Rattle.h5w_model.specs.declared.refusal.ReadError.{ReadError}
use Rattle.h5w_lookup.specs.declared.outcome.Outcome.{Outcome}
use Rattle.h5w_lookup.specs.declared.outcome.Outcome.TheVariants as outcomes
use Rattle.h5w_lookup.specs.declared.outcome.Progress.{Progress}
use Rattle.h5w_lookup.specs.declared.outcome.Progress.TheVariants as progress_by

-- with the meaning of what it was to find, and what is left where it waits for a look
abbrev pub outcome_left : {T S A : Type 0} → (T → A) → (S → Prog (Result A ReadError)) → Outcome T S → Prog (Result A ReadError)
outcome_left found left (outcomes.Done t) = ret (Ok (found t))
outcome_left found left (outcomes.Refused e) = ret (Err e)
outcome_left found left (outcomes.Looks s) = left s

-- the same, but for the look that it waits for: R holds of that and the other's
abbrev pub IsMapped : {T S U : Type 0} → (S → U → Type 0) → Outcome T S → Outcome T U → Type 0
IsMapped {T} {S} {U} R (outcomes.Done t) o = o ≡ outcomes.Done t
IsMapped {T} {S} {U} R (outcomes.Refused e) o = o ≡ outcomes.Refused e
IsMapped {T} {S} {U} R (outcomes.Looks s) o = (u : U) × (o ≡ outcomes.Looks u) × R s u

-- what refuses nothing
abbrev pub outcome_of : {T S : Type 0} → Progress T S → Outcome T S
outcome_of (progress_by.Done t) = outcomes.Done t
outcome_of (progress_by.Looks s) = outcomes.Looks s
