-- What is left, by what a step comes to.
use Rattle.std.proofs.Common.{◌≡◌, Result, ◌∙◌, ap}
use Rattle.h5w_model.specs.Programs.{Prog}
use Rattle.h5w_model.specs.declared.refusal.ReadError.{ReadError}
use Rattle.h5w_lookup.specs.Outcomes.{outcome_left, IsMapped}
use Rattle.h5w_lookup.specs.declared.outcome.Outcome.{Outcome}
use Rattle.h5w_lookup.specs.declared.outcome.Outcome.TheVariants.{Done, Refused, Looks}

-- the same, where the look that it waits for became another of which the same is left
pub mapped_left : {T S U A : Type 0} (found : T → A) (left : S → Prog (Result A ReadError)) (wait : S → U) (left_then : U → Prog (Result A ReadError)) (o : Outcome T S) (new : Outcome T U)
    → IsMapped (λ s u. u ≡ wait s) o new → ((s : S) → left_then (wait s) ≡ left s) → outcome_left found left_then new ≡ outcome_left found left o
mapped_left found left wait left_then (Done t) new is same = ap (outcome_left found left_then) is
mapped_left found left wait left_then (Refused e) new is same = ap (outcome_left found left_then) is
mapped_left found left wait left_then (Looks s) new (u, is, by) same = ap (outcome_left found left_then) is ∙ ap left_then by ∙ same s
