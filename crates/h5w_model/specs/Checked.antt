-- A form is a list of tests, each with its refusal, in the order in which they are tried.
use Rattle.std.specs.Prelude.{Bool, List, [], ◌∷◌, Result, Ok, Err, if◌then◌else◌}

-- the fields, or the first refusal
abbrev pub checked : {E A : Type 0} → List (Bool × E) → A → Result A E
checked [] fields = Ok fields
checked (test ∷ tests) fields = if test.0 then checked tests fields else Err test.1

-- an answer with its value as `view` shows it
abbrev pub viewed : {E A B : Type 0} → (A → B) → Result A E → Result B E
viewed view (Ok x) = Ok (view x)
viewed view (Err e) = Err e
