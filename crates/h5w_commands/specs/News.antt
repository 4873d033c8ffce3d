-- The making of a file by options and names.
use Rattle.std.specs.Prelude.{ℕ, List, map}
use Rattle.h5w_options.specs.declared.options.Options.{Options}
use Rattle.h5w_creation_laws.specs.CreatedFiles.{CreatedFile}
use Rattle.h5w_creation.specs.NewFiles.{new_file}

-- a dataset by these options under each of the names
abbrev pub files_of : List (List ℕ) → Options → List CreatedFile
files_of names o = map (λ (name : List ℕ). record (new_file o) { name = name }) names
