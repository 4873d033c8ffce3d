-- A form whose tests all pass gives its fields.
use Rattle.std.proofs.Common.{◌≡◌, Bool, true, false, cond, List, [], ◌∷◌, Result, Ok, Err, refl}
use Rattle.h5w_model.specs.Checked.{checked}

-- every test passes
abbrev pub AllPass : {E : Type 0} → List (Bool × E) → Type 0
AllPass [] = Unit {0}
AllPass (test ∷ tests) = (test.0 ≡ true) × AllPass tests

pub checked-ok : {E A : Type 0} (tests : List (Bool × E)) (fields : A) → AllPass tests → checked tests fields ≡ Ok fields
checked-ok [] fields pass = refl
checked-ok (test ∷ tests) fields pass = rw pass.0 (checked-ok tests fields pass.1)

-- a test that did not refuse passed
pub chosen-ok : {E A : Type 0} (test : Bool) (refusal : E) (rest : Result A E) (given : A) → cond test rest (Err refusal) ≡ Ok given → (test ≡ true) × (rest ≡ Ok given)
chosen-ok true refusal rest given e = (refl, e)
chosen-ok false refusal rest given e = absurd cc

-- and fields that are given passed all tests
pub checked-passed : {E A : Type 0} (tests : List (Bool × E)) (fields given : A) → checked tests fields ≡ Ok given → AllPass tests × (fields ≡ given)
checked-passed [] fields given e = (tt, cc)
checked-passed (test ∷ tests) fields given e =
    let first = chosen-ok test.0 test.1 (checked tests fields) given e in
    let rest = checked-passed tests fields given first.1 in
    ((first.0, rest.0), rest.1)
