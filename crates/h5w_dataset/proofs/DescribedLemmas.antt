-- What the messages of a dataset's header say.
use Rattle.std.proofs.Common.{◌≡◌, ℕ, Bool, true, false, ◌||◌, List, [], ◌∷◌, Option, Some, None, refl}
use Rattle.std.specs.Prelude.{◌==◌, find, option_map, cond}
use Rattle.std.specs.List.{list_any}
use Rattle.h5w_model.specs.Datasets.{first_of}
use Rattle.h5w_dataset.specs.Founds.{found_of, founds}
use Rattle.h5w_dataset.specs.declared.found.FoundMessage.{FoundMessage}

-- the first of some messages
pub first_found : (kind : ℕ) (fs : List FoundMessage) → first_of kind (founds fs) ≡ option_map found_of (find (λ f. f.kind == kind) fs)
first_found kind [] = refl
first_found kind (f ∷ fs) =
    elim (f.kind == kind) as (λ c. cond c (Some (found_of f)) (first_of kind (founds fs)) ≡ option_map found_of (cond c (Some f) (find (λ g. g.kind == kind) fs))) [
      | true ↦ refl
      | false ↦ first_found kind fs
    ]

abbrev is_there : {A : Type 0} → Option A → Bool
is_there (Some x) = true
is_there None = false

pub any_found : (fs : List FoundMessage) → list_any (λ m. m.kind == 0x0b) (founds fs) ≡ is_there (find (λ f. f.kind == 0x0b) fs)
any_found [] = refl
any_found (f ∷ fs) =
    elim (f.kind == 0x0b) as (λ c. (c || list_any (λ m. m.kind == 0x0b) (founds fs)) ≡ is_there (cond c (Some f) (find (λ g. g.kind == 0x0b) fs))) [
      | true ↦ refl
      | false ↦ any_found fs
    ]
