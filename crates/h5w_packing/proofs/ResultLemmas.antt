-- What holds of a result, by what else does.
use Rattle.std.proofs.Common.{◌≡◌, Result, Ok, Err, IfErr, IfOk, IsOk, OnOk, false, true, subst}
use Rattle.h5w_space.specs.declared.Full.{Full}
use Rattle.h5w_cache.specs.Plans.{IfFull}
use Rattle.h5w_cache.specs.declared.plan.PlanError.{PlanError}
use Rattle.h5w_cache.specs.declared.plan.PlanError.TheVariants.{Full as Full_}

pub ok_by : {A E : Type 0} {P : A → Type 0} (r : Result A E) (Q : A → Type 0) → ((a : A) → P a → Q a) → IfOk r P → IfOk r Q
ok_by (Ok a) Q f h = f a h
ok_by (Err e) Q f h = tt

pub full_of : {A : Type 0} (r : Result A PlanError) (full : Full) (P : Full → Type 0) → r ≡ Err (Full_ full) → IfErr r (λ e. IfFull e P) → P full
full_of r full P same h = subst (λ (x : Result _ PlanError). IfErr x (λ e. IfFull e P)) same h

-- where an answer is Ok only where another one is
pub both_on : {A B E F M : Type 0} {P S : B → Type 0} (r : Result A E) (s : Result B F) → OnOk r (IsOk s) → OnOk r (IfOk s P) → IfOk s S → ((b : B) → P b → S b → M) → OnOk r M
both_on (Ok a) (Ok b) ok p h f = f b p h
both_on (Ok a) (Err e) ok p h f = absurd (never ok)
  where
    never : false ≡ true → ⊥
    never e = cc
both_on (Err e) s ok p h f = tt

pub on_ok : {A E P Q : Type 0} (r : Result A E) → (P → Q) → OnOk r P → OnOk r Q
on_ok (Ok a) f h = f h
on_ok (Err e) f h = tt

pub ok_on : {A B E F H : Type 0} {P : A → Type 0} (r : Result A E) (s : Result B F) (Q : A → Type 0) → OnOk r (IsOk s) → OnOk s H → IfOk r P → ((a : A) → P a → H → Q a) → IfOk r Q
ok_on (Ok a) (Ok b) Q ok h p f = f a p h
ok_on (Ok a) (Err e) Q ok h p f = absurd (never ok)
  where
    never : false ≡ true → ⊥
    never e = cc
ok_on (Err e) s Q ok h p f = tt
