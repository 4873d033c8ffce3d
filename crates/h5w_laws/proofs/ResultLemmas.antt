-- What an answer tells of the steps that led to it.
use Rattle.std.proofs.Common.{◌≡◌, ℕ, ◌+◌, ◌<◌, ◌≤◌, Bool, true, false, cond, List, length, Result, Ok, Err, refl, sym, ◌∙◌, ap, arith}
use Rattle.std.specs.Prelude.{nat_le}
use Rattle.std.specs.Result.{OnOk}
use Rattle.std.proofs.lemmas.Bool.{leb-true}
use Rattle.h5w_model.specs.Numbers.{range}
use Rattle.h5w_model.specs.Programs.{Prog, ret, eval, and_then}
use Rattle.h5w_model.specs.Datasets.{then_also, refused_as}
use Rattle.h5w_laws.proofs.ProgramLemmas.{eval_and_then}
use Rattle.h5w_laws.proofs.LoweringLemmas.{length_range}

-- there is an answer
abbrev pub HasAnswer : {A E : Type 0} → Result A E → Type 0
HasAnswer {A} r = (a : A) × (r ≡ Ok a)

pub then_ok : {A B E : Type 0} (r : Result A E) (f : A → Result B E) (b : B) → then_also r f ≡ Ok b → (a : A) × (r ≡ Ok a) × (f a ≡ Ok b)
then_ok (Ok a) f b h = (a, refl, h)
then_ok (Err e) f b h = cc

pub then_from : {A B E : Type 0} (r : Result A E) (f : A → Result B E) (a : A) (b : B) → r ≡ Ok a → f a ≡ Ok b → then_also r f ≡ Ok b
then_from r f a b h g = ap (λ x. then_also x f) h ∙ g

pub refused_ok : {A E F : Type 0} (f : E → F) (r : Result A E) (a : A) → refused_as f r ≡ Ok a → r ≡ Ok a
refused_ok f (Ok x) a h = cc
refused_ok f (Err e) a h = cc

-- a test that must pass
pub passes : {A E : Type 0} (t : Bool) (x : Result A E) (e : E) (a : A) → cond t x (Err e) ≡ Ok a → (t ≡ true) × (x ≡ Ok a)
passes true x e a h = (refl, h)
passes false x e a h = cc

-- a test that must fail
pub fails : {A E : Type 0} (t : Bool) (x : Result A E) (e : E) (a : A) → cond t (Err e) x ≡ Ok a → (t ≡ false) × (x ≡ Ok a)
fails true x e a h = cc
fails false x e a h = (refl, h)

pub and_then_ok : {A B E : Type 0} (img : List ℕ) (p : Prog (Result A E)) (f : A → Prog (Result B E)) (b : B) → eval img (and_then p f) ≡ Ok b
    → (a : A) × (eval img p ≡ Ok a) × (eval img (f a) ≡ Ok b)
and_then_ok img p f b h = then_ok (eval img p) (λ a. eval img (f a)) b (sym (eval_and_then img p f) ∙ h)

pub and_then_from : {A B E : Type 0} (img : List ℕ) (p : Prog (Result A E)) (f : A → Prog (Result B E)) (a : A) (b : B) → eval img p ≡ Ok a → eval img (f a) ≡ Ok b → eval img (and_then p f) ≡ Ok b
and_then_from img p f a b h g = eval_and_then img p f ∙ then_from (eval img p) (λ a. eval img (f a)) a b h g

-- a program that goes on with what was decoded
pub choice_ok : {A E B F : Type 0} (img : List ℕ) (r : Result A E) (f : A → Prog (Result B F)) (g : E → F) (b : B)
    → eval img (elim r as (λ _. Prog (Result B F)) [ Ok a ↦ f a | Err e ↦ ret (Err (g e)) ]) ≡ Ok b → (a : A) × (r ≡ Ok a) × (eval img (f a) ≡ Ok b)
choice_ok img (Ok a) f g b h = (a, refl, h)
choice_ok img (Err e) f g b h = cc

pub choice_from : {A E B F : Type 0} (img : List ℕ) (r : Result A E) (f : A → Prog (Result B F)) (g : E → F) (a : A) (b : B)
    → r ≡ Ok a → eval img (f a) ≡ Ok b → eval img (elim r as (λ _. Prog (Result B F)) [ Ok a ↦ f a | Err e ↦ ret (Err (g e)) ]) ≡ Ok b
choice_from {A} {E} {B} {F} img r f g a b h e = ap (λ (x : Result A E). eval img (elim x as (λ _. Prog (Result B F)) [ Ok a ↦ f a | Err e ↦ ret (Err (g e)) ])) h ∙ e

-- a block with all its bytes ends within the image
pub fits_in : (img : List ℕ) (place n : ℕ) → 0 < n → nat_le n (length (range img place n)) ≡ true → place + n ≤ length img
fits_in img place n some t = omega (arith, leb-true n (length (range img place n)) t, length_range img place n)

-- what follows of what holds of a value
pub map_ok : {T E P Q : Type 0} (r : Result T E) → (P → Q) → OnOk r P → OnOk r Q
map_ok (Ok x) f p = f p
map_ok (Err e) f p = tt

pub ok_is : {A E : Type 0} (a b : A) → ◌≡◌ {A = Result A E} (Ok a) (Ok b) → a ≡ b
ok_is a b e = cc

pub err_is : {A E : Type 0} (a b : E) → ◌≡◌ {A = Result A E} (Err a) (Err b) → a ≡ b
err_is a b e = cc

pub ok_err : {A E : Type 0} (a : A) (e : E) → ◌≡◌ {A = Result A E} (Ok a) (Err e) → ⊥
ok_err a e h = cc
