-- What the calls of a session leave of what a handle holds, where the image does not fail.
use Rattle.std.proofs.Common.{◌≡◌, ◌⊎◌, ℕ, List, Result, Ok, Err, Some, ap, inl, inr, arith}
use Rattle.std.specs.Prelude.{IfErr, OnErr}
use Rattle.h5w_model.specs.Causes.{Rose}
use Rattle.h5w_writer.specs.Refusals.{IsSpace}
use Rattle.h5w_writer.specs.declared.refusal.AppendError.{AppendError}
use Rattle.h5w_writer.specs.declared.refusal.AppendError.TheVariants as appending
use Rattle.h5w_writer.specs.declared.refusal.FlushError.{FlushError}
use Rattle.h5w_writer.specs.declared.refusal.FlushError.TheVariants as flushing
use Rattle.h5w_several_writer.specs.Refusals.{flush_refusal_of}
use Rattle.h5w_several_writer_laws.specs.Sessions.{Sessions}
use Rattle.h5w_handles.specs.declared.several.SeveralState.{SeveralState}
use Rattle.h5w_writer_handles.proofs.FlushLemmas.{causes_here}

-- with another session
abbrev pub with_session : SeveralState → Sessions → SeveralState
with_session s S = record s { session = S }

pub kept_of : {A E : Type 0} (s : SeveralState) (S : Sessions) (given : Result A E) → OnErr given (S ≡ s.session) → OnErr given (with_session s S ≡ s)
kept_of s S (Ok a) kept = tt
kept_of s S (Err e) kept = ap (with_session s) kept

pub append_causes : (Refused : AppendError → Type 0) (given : Result ℕ AppendError) → IfErr given (λ e. Refused e ⊎ (e ≡ appending.Failed) ⊎ (e ≡ appending.OutOfMemory)) → (given ≡ Err appending.Failed → Rose 0 0)
    → IfErr given (λ e. Refused e ⊎ (e ≡ appending.OutOfMemory))
append_causes Refused (Ok n) causes fault = tt
append_causes Refused (Err e) causes fault = inner causes
  where
    inner : Refused e ⊎ (e ≡ appending.Failed) ⊎ (e ≡ appending.OutOfMemory) → Refused e ⊎ (e ≡ appending.OutOfMemory)
    inner (inl h) = inl h
    inner (inr (inl h)) = absurd (let rose : Rose 0 0 = fault (ap (λ (x : AppendError). let r : Result ℕ AppendError = Err x in r) h) in omega (arith, rose))
    inner (inr (inr h)) = inr h

pub flush_causes : (S : Sessions) (given : Result (List ℕ) FlushError) → IfErr given (λ e. (flush_refusal_of S ≡ Some e) ⊎ (IsSpace e ⊎ ((e ≡ flushing.Deep) ⊎ ((e ≡ flushing.Failed) ⊎ (e ≡ flushing.OutOfMemory))))) → (given ≡ Err flushing.Failed → Rose 0 0)
    → IfErr given (λ e. (flush_refusal_of S ≡ Some e) ⊎ (IsSpace e ⊎ ((e ≡ flushing.Deep) ⊎ (e ≡ flushing.OutOfMemory))))
flush_causes S (Ok n) causes fault = tt
flush_causes S (Err e) causes fault = causes_here e causes (λ h. let rose : Rose 0 0 = fault (ap (λ (x : FlushError). let r : Result (List ℕ) FlushError = Err x in r) h) in absurd (omega (arith, rose)))
