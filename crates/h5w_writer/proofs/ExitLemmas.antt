-- What clauses on a result say at an exit by `?`.
use Rattle.std.proofs.Common.{◌≡◌, Result, Ok, Err, IfOk, IfErr, ap, subst, sym, ◌∙◌}
use Rattle.std.specs.Result.{IsErrAnd}

-- nothing of a value
pub no_value : {T E : Type 0} (Q : E → Type 0) (P : T → Type 0) (r : Result T E) → IsErrAnd r Q → IfOk r P
no_value Q P (Ok x) gone = absurd gone
no_value Q P (Err e) gone = tt

-- of the error what holds of the one that it was made of
pub of_error : {T E : Type 0} (P : E → Type 0) (r : Result T E) (f : E) → IsErrAnd r (λ e. e ≡ f) → P f → IfErr r P
of_error P (Ok x) f gone known = absurd gone
of_error P (Err e) f gone known = subst P (sym gone) known

-- it is no other than that
pub told_error : {T E : Type 0} (r : Result T E) (f e : E) → IsErrAnd r (λ g. g ≡ f) → r ≡ Err e → f ≡ e
told_error (Ok x) f e gone told = absurd gone
told_error (Err g) f e gone told = let same : g ≡ e = cc in sym gone ∙ same

pub is_error : {T E : Type 0} (r : Result T E) (f : E) → IsErrAnd r (λ g. g ≡ f) → r ≡ Err f
is_error (Ok x) f gone = absurd gone
is_error (Err g) f gone = ap (λ e. Err e) gone
