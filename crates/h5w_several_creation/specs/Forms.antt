-- By what the code creates a file of several datasets.
use Rattle.std.specs.Prelude.{◌≡◌, ℕ, ◌-◌, ◌≤◌, List, [], ◌∷◌, ◌++◌, length, replicate, take}
use Rattle.std.specs.List.{AllByRecursion}
use Rattle.h5w_model.specs.Numbers.{le}
use Rattle.h5w_model.specs.Checksum.{sealed_block}
use Rattle.h5w_creation.specs.Forms.{IsForm, a_name, created_by}
use Rattle.h5w_creation.specs.declared.form.Form.{Form}
use Rattle.h5w_creation_laws.specs.CreatedFiles.{CreatedFile}

-- a dataset under each of the names, by the form that stands at its place
abbrev pub each_by : List (List ℕ) → List Form → List CreatedFile
each_by [] forms = []
each_by (name ∷ names) [] = []
each_by (name ∷ names) (form ∷ forms) = created_by name form ∷ each_by names forms

-- a dataset of this form under each of the names
abbrev pub all_by : List (List ℕ) → Form → List CreatedFile
all_by names form = each_by names (replicate (length names) form)

-- under some name, which says nothing of the dataset's blocks
abbrev pub any_by : Form → CreatedFile
any_by form = created_by a_name form

-- 1 to 64 bytes
abbrev pub HasRoom : List ℕ → Type 0
HasRoom name = (1 ≤ length name) × (length name ≤ 64)

-- 1 to 8 names of datasets
pub record AreNames (names : List (List ℕ)) : Type 0 where
  pub some : 1 ≤ length names
  pub few : length names ≤ 8
  pub each : AllByRecursion HasRoom names

-- as many forms as names, by each of which a dataset can be created
pub record AreForms (names : List (List ℕ)) (forms : List Form) : Type 0 where
  pub many : length forms ≡ length names
  pub each : AllByRecursion IsForm forms

-- a header with another address of the index, which stands before the sum
abbrev pub with_address : List ℕ → ℕ → List ℕ
with_address b address = sealed_block (take (length b - 12) b ++ le 8 address)
