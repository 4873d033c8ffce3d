-- The names of datasets as C gives them, and within which bounds a file is created and opened by them.
use Rattle.std.specs.Prelude.{◌≡◌, ℕ, ◌*◌, ◌^◌, ◌≤◌, nat_le, if◌then◌else◌, List, [], ◌∷◌, ◌++◌, length, take, drop, Option, Some, None, option_map}
use Rattle.std.specs.List.{All, AllByRecursion}
use Rattle.h5w_model.specs.Relations.{AllPaired}
use Rattle.h5w_creation.specs.Forms.{IsForm, a_name, created_by}
use Rattle.h5w_creation.specs.declared.form.Form.{Form}
use Rattle.h5w_creation_laws.specs.CreatedFiles.{CreatedFile}
use Rattle.h5w_creation.specs.NewFiles.{new_file}
use Rattle.h5w_options.specs.Options.{AreOptions}
use Rattle.h5w_several_creation.specs.Forms.{AreNames}
use Rattle.h5w_several_creation_laws.specs.SeveralFiles.{AllNamed}
use Rattle.h5w_writer_handles.specs.CreatedBy.{options_of}
use Rattle.h5w_writer_handles.specs.declared.options.H5wOptions.{H5wOptions}

-- each name has so many of the bytes that are left; no byte is left at last
abbrev pub cut_names : (lens bytes : List ℕ) → Option (List (List ℕ))
cut_names [] [] = Some []
cut_names [] (b ∷ bytes) = None
cut_names (n ∷ lens) bytes = if nat_le n (length bytes) then option_map (λ (names : List (List ℕ)). take n bytes ∷ names) (cut_names lens (drop n bytes)) else None

-- the names of these bytes, 8 at most
abbrev pub names_in : (lens bytes : List ℕ) → Option (List (List ℕ))
names_in lens bytes = if nat_le (length lens) 8 then cut_names lens bytes else None

-- The limit of a file is that of the first of its datasets' options, and so is the budget.
abbrev pub limit_of : List H5wOptions → ℕ
limit_of [] = 0
limit_of (o ∷ os) = o.limit

abbrev pub budget_of : List H5wOptions → ℕ
budget_of [] = 0
budget_of (o ∷ os) = o.budget

-- By which names and options a file is created: 1 to 8 names of 1 to 64 bytes, of which none stands twice, options for each, and 1,024 bytes of the
-- limit for each.
pub record AreSetOptions (names : List (List ℕ)) (os : List H5wOptions) : Type 0 where
  pub counted : AreNames names
  pub named : AllNamed names
  pub many : length os ≡ length names
  pub options : AllByRecursion (λ (o : H5wOptions). AreOptions (options_of a_name o)) os
  pub room : 1024 * length names ≤ limit_of os

-- a dataset under each of the names, by the options that stand at its place
abbrev pub files_by : List (List ℕ) → List H5wOptions → List CreatedFile
files_by [] os = []
files_by (name ∷ names) [] = []
files_by (name ∷ names) (o ∷ os) = new_file (options_of name o) ∷ files_by names os

-- the form of these options, under any name
pub record IsFormOf (o : H5wOptions) (form : Form) : Type 0 where
  pub is : IsForm form
  pub made : created_by a_name form ≡ new_file (options_of a_name o)

-- those of these options are put behind others
pub record AddsForms (os : List H5wOptions) (old new : List Form) : Type 0 where
  pub forms : List Form
  pub are : AllPaired IsFormOf os forms
  pub is : new ≡ old ++ forms

-- within which bounds a file is opened
pub record AreSetBounds (names : List (List ℕ)) (limit budget : ℕ) : Type 0 where
  pub some : 1 ≤ length names
  pub few : length names ≤ 8
  pub short : All (λ (name : List ℕ). length name ≤ 512) names
  pub limit_low : 1024 ≤ limit
  pub limit_high : limit ≤ 2 ^ 40
  pub budget_low : 1024 ≤ budget
  pub budget_high : budget ≤ 2 ^ 30
