-- Why a flush is refused where the image does not fail.
use Rattle.std.proofs.Common.{◌≡◌, ◌⊎◌, inl, inr}
use Rattle.h5w_writer.specs.Refusals.{IsSpace}
use Rattle.h5w_writer.specs.declared.refusal.FlushError.{FlushError}
use Rattle.h5w_writer.specs.declared.refusal.FlushError.TheVariants as flushing

pub causes_here : {Refused : Type 0} (e : FlushError) → Refused ⊎ (IsSpace e ⊎ ((e ≡ flushing.Deep) ⊎ ((e ≡ flushing.Failed) ⊎ (e ≡ flushing.OutOfMemory)))) → (e ≡ flushing.Failed → ⊥)
    → Refused ⊎ (IsSpace e ⊎ ((e ≡ flushing.Deep) ⊎ (e ≡ flushing.OutOfMemory)))
causes_here e (inl h) never = inl h
causes_here e (inr (inl h)) never = inr (inl h)
causes_here e (inr (inr (inl h))) never = inr (inr (inl h))
causes_here e (inr (inr (inr (inl h)))) never = absurd (never h)
causes_here e (inr (inr (inr (inr h)))) never = inr (inr (inr h))
