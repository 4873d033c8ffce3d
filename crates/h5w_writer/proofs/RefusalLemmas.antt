-- Calls that are refused, or have a cause to be, and the errors that they answer.
use Rattle.std.proofs.Common.{◌≡◌, ◌⊎◌, ℕ, Bool, true, false, if◌then◌else◌, List, ℤ, Option, Some, None, Result, Ok, Err, length, nat_lt, ◌/◌, refl, sym, ap, ◌∙◌, inl, inr}
use Rattle.std.specs.Option.{MatchOption}
use Rattle.h5w_cache.specs.declared.plan.PlanError.{PlanError}
use Rattle.h5w_cache.specs.declared.plan.PlanError.TheVariants as plan
use Rattle.h5w_image.specs.declared.fault.ImageError.{ImageError}
use Rattle.h5w_image.specs.declared.fault.ImageError.TheVariants as image
use Rattle.h5w_model.specs.Lawful.{first_outside}
use Rattle.h5w_space.specs.declared.Full.{Full}
use Rattle.h5w_writer.specs.Refusals.{IsSpace, append_fault, append_refusal, flush_fault, flush_refusal, plan_fault}
use Rattle.h5w_writer.specs.Sessions.{Session, chunk_limit, chunks_with}
use Rattle.h5w_writer.specs.declared.refusal.AppendError.{AppendError}
use Rattle.h5w_writer.specs.declared.refusal.AppendError.TheVariants as appends
use Rattle.h5w_writer.specs.declared.refusal.FlushError.{FlushError}
use Rattle.h5w_writer.specs.declared.refusal.FlushError.TheVariants as flushes

-- ---- The cause that applies

pub some_refused : {E : Type 0} (refusal : Option E) (e : E) → MatchOption refusal (◌≡◌ {A = Result (Unit {0}) E} (Err e) (Ok tt)) (λ f. ◌≡◌ {A = Result (Unit {0}) E} (Err e) (Err f)) → refusal ≡ Some e
some_refused None e is = absurd cc
some_refused (Some f) e is = let same : f ≡ e = cc in ap (λ x. Some x) same

-- there is one alone
pub refused_alike : {T E : Type 0} (refusal : Option E) (r : Result T E) (e f : E) → refusal ≡ Some e → r ≡ Err e → refusal ≡ Some f → r ≡ Err f
refused_alike refusal r e f is told also = let same : e ≡ f = cc in told ∙ ap (λ x. Err x) same

-- ---- An append

-- that the image failed is no cause to refuse at once
failed_apart : (stopped busy : Bool) (n : ℕ) (outside : Option (ℕ × ℤ)) (many : Bool) (a b : ℕ)
    → (if stopped then Some appends.Stopped else if busy then Some (appends.Busy n) else elim outside [ Some x ↦ Some (appends.OutOfRange x.0 x.1) | None ↦ (if many then Some (appends.Chunks a b) else None) ]) ≡ Some appends.Failed → ⊥
failed_apart true busy n outside many a b is = cc
failed_apart false true n outside many a b is = cc
failed_apart false false n (Some x) many a b is = cc
failed_apart false false n None true a b is = cc
failed_apart false false n None false a b is = cc

pub no_failed_append : (s : Session) (values : List ℤ) → append_refusal s values ≡ Some appends.Failed → ⊥
no_failed_append s values is =
    let more = length values / s.dataset.shape.cols in
    failed_apart s.stopped (nat_lt 0 (length s.pending)) (length s.pending) (first_outside s.dataset.int_type 0 values) (nat_lt (chunk_limit s) (chunks_with s more)) (chunks_with s more) (chunk_limit s) is

-- the causes of an append's error
abbrev pub AppendCauses : Session → List ℤ → AppendError → Type 0
AppendCauses s values e = (append_refusal s values ≡ Some e) ⊎ ((e ≡ appends.Failed) ⊎ (e ≡ appends.OutOfMemory))

pub fault_causes : (s : Session) (values : List ℤ) (f : ImageError) (e : AppendError) → e ≡ append_fault f → AppendCauses s values e
fault_causes s values image.Failed e is = inr (inl is)
fault_causes s values image.OutOfMemory e is = inr (inr is)

pub fault_failed : (f : ImageError) → append_fault f ≡ appends.Failed → f ≡ image.Failed
fault_failed image.Failed is = refl
fault_failed image.OutOfMemory is = absurd cc

-- ---- A flush

-- an error of a session that was stopped, or has pieces that are pending
pub record IsUnready (e : FlushError) : Type 0 where
  pub space : (full : Full) → e ≡ flushes.Space full → ⊥
  pub deep : e ≡ flushes.Deep → ⊥
  pub failed : e ≡ flushes.Failed → ⊥

unready : (stopped busy : Bool) (n : ℕ) (e : FlushError) → (if stopped then Some flushes.Stopped else if busy then Some (flushes.Busy n) else None) ≡ Some e → IsUnready e
unready true busy n e is = let same : flushes.Stopped ≡ e = cc in record { space = λ full told. cc; deep = λ told. cc; failed = λ told. cc }
unready false true n e is = let same : flushes.Busy n ≡ e = cc in record { space = λ full told. cc; deep = λ told. cc; failed = λ told. cc }
unready false false n e is = absurd cc

pub is_unready : (s : Session) (e : FlushError) → flush_refusal s ≡ Some e → IsUnready e
is_unready s e is = unready s.stopped (nat_lt 0 (length s.pending)) (length s.pending) e is

-- an image that made no room is none of these causes
pub flush_faults : (f : ImageError) → (flush_fault f ≡ flushes.Failed) ⊎ (flush_fault f ≡ flushes.OutOfMemory)
flush_faults image.Failed = inl refl
flush_faults image.OutOfMemory = inr refl

pub fault_space : (f : ImageError) (full : Full) → flush_fault f ≡ flushes.Space full → ⊥
fault_space image.Failed full is = cc
fault_space image.OutOfMemory full is = cc

pub fault_deep : (f : ImageError) → flush_fault f ≡ flushes.Deep → ⊥
fault_deep image.Failed is = cc
fault_deep image.OutOfMemory is = cc

pub flush_failed : (f : ImageError) → flush_fault f ≡ flushes.Failed → f ≡ image.Failed
flush_failed image.Failed is = refl
flush_failed image.OutOfMemory is = absurd cc

-- ---- The first half of a flush

-- where the index has no room, or memory is short, the file has a place
pub no_space : (e : FlushError) (full : Full) → (e ≡ flushes.Deep) ⊎ (e ≡ flushes.OutOfMemory) → e ≡ flushes.Space full → ⊥
no_space e full (inl deep) is = let clash : flushes.Deep ≡ flushes.Space full = sym deep ∙ is in cc
no_space e full (inr memory) is = let clash : flushes.OutOfMemory ≡ flushes.Space full = sym memory ∙ is in cc

-- and a plan of the index's blocks never finds that the index has no room
pub plan_shallow : (e : PlanError) → plan_fault e ≡ flushes.Deep → ⊥
plan_shallow (plan.Full full) is = cc
plan_shallow plan.OutOfMemory is = cc

pub plan_causes : (e : PlanError) → IsSpace (plan_fault e) ⊎ ((plan_fault e ≡ flushes.Deep) ⊎ (plan_fault e ≡ flushes.OutOfMemory))
plan_causes (plan.Full full) = inl (full, refl)
plan_causes plan.OutOfMemory = inr (inr refl)

pub not_deep : (e : FlushError) → IsSpace e ⊎ (e ≡ flushes.OutOfMemory) → e ≡ flushes.Deep → ⊥
not_deep e (inl space) is = let clash : flushes.Space space.0 ≡ flushes.Deep = sym space.1 ∙ is in cc
not_deep e (inr memory) is = let clash : flushes.OutOfMemory ≡ flushes.Deep = sym memory ∙ is in cc

pub start_causes : (e : FlushError) → IsSpace e ⊎ (e ≡ flushes.OutOfMemory) → IsSpace e ⊎ ((e ≡ flushes.Deep) ⊎ (e ≡ flushes.OutOfMemory))
start_causes e (inl space) = inl space
start_causes e (inr memory) = inr (inr memory)

-- ---- Both halves of a flush

pub plan_or_image : (e : FlushError) → IsSpace e ⊎ ((e ≡ flushes.Deep) ⊎ (e ≡ flushes.OutOfMemory)) → IsSpace e ⊎ ((e ≡ flushes.Deep) ⊎ ((e ≡ flushes.Failed) ⊎ (e ≡ flushes.OutOfMemory)))
plan_or_image e (inl space) = inl space
plan_or_image e (inr (inl deep)) = inr (inl deep)
plan_or_image e (inr (inr memory)) = inr (inr (inr memory))

pub not_failed : (e : FlushError) → IsSpace e ⊎ ((e ≡ flushes.Deep) ⊎ (e ≡ flushes.OutOfMemory)) → e ≡ flushes.Failed → ⊥
not_failed e (inl space) is = let clash : flushes.Space space.0 ≡ flushes.Failed = sym space.1 ∙ is in cc
not_failed e (inr (inl deep)) is = let clash : flushes.Deep ≡ flushes.Failed = sym deep ∙ is in cc
not_failed e (inr (inr memory)) is = let clash : flushes.OutOfMemory ≡ flushes.Failed = sym memory ∙ is in cc

pub no_image_space : (e : FlushError) (full : Full) → (e ≡ flushes.Failed) ⊎ (e ≡ flushes.OutOfMemory) → e ≡ flushes.Space full → ⊥
no_image_space e full (inl failed) is = let clash : flushes.Failed ≡ flushes.Space full = sym failed ∙ is in cc
no_image_space e full (inr memory) is = let clash : flushes.OutOfMemory ≡ flushes.Space full = sym memory ∙ is in cc

pub no_image_deep : (e : FlushError) → (e ≡ flushes.Failed) ⊎ (e ≡ flushes.OutOfMemory) → e ≡ flushes.Deep → ⊥
no_image_deep e (inl failed) is = let clash : flushes.Failed ≡ flushes.Deep = sym failed ∙ is in cc
no_image_deep e (inr memory) is = let clash : flushes.OutOfMemory ≡ flushes.Deep = sym memory ∙ is in cc
