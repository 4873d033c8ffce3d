-- What is known of a dataset whose header was one look.
use Rattle.std.specs.Prelude.{◌≡◌, ℕ, List, Option, Some, None, Ok}
use Rattle.h5w_model.specs.Programs.{Prog, ret, whole, counted, stored}
use Rattle.h5w_model.specs.Datasets.{Described, dataset_from}
use Rattle.h5w_model.specs.Calls.{cut_header}
use Rattle.h5w_model.specs.declared.refusal.ReadError.{ReadError}
use Rattle.h5w_lookup.specs.Looks.{plain}

-- what counts of a look at the header at a place is not less than its chunk 0
abbrev pub IsWhole : ℕ → List ℕ → Type 0
IsWhole place v = (e : ReadError) → cut_header place v ≡ Some e → ⊥

-- the answer of a program that has it
abbrev pub answer_of : {A : Type 0} → Prog A → Option A
answer_of (ret a) = Some a
answer_of (whole at len next) = None
answer_of (counted at counts next) = None
answer_of (stored kind at len next) = None

-- what counts of a look at the header at a place is all that there is of this dataset's header
pub record IsHeaderOf (place : ℕ) (d : Described) (view : List ℕ) : Type 0 where
  pub uncut : IsWhole place view
  pub said : answer_of (plain (dataset_from place view)) ≡ Some (Ok d)
