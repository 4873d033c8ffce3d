-- By what the code creates a file.
use Rattle.std.specs.Prelude.{◌≡◌, ℕ, List, [], ◌∷◌, length, IfSome}
use Rattle.h5w_model.specs.Integers.{cell_bytes}
use Rattle.h5w_model.specs.declared.cell.Cell.{Cell}
use Rattle.h5w_types.specs.Fields.{int_type_of}
use Rattle.h5w_layout.specs.Layouts.{fill_of}
use Rattle.h5w_creation_laws.specs.CreatedFiles.{CreatedFile, IsCreatable}
use Rattle.h5w_creation.specs.declared.form.Form.{Form}

-- with this name for its dataset
abbrev pub created_by : List ℕ → Form → CreatedFile
created_by name f = record {
  name = name;
  int_type = int_type_of f.int_type;
  fill = fill_of f.fill;
  chunk_rows = f.chunk.0;
  chunk_cols = f.chunk.1;
  rank = f.rank;
  columns = f.columns;
  growing = f.growing;
  index = f.index;
}

-- some name of one byte
abbrev pub a_name : List ℕ
a_name = 97 ∷ []

-- A file can be created by it, under any name that a file may have; the fill is a cell of the type's size.
pub record IsForm (f : Form) : Type 0 where
  pub creatable : IsCreatable (created_by a_name f)
  pub filled : IfSome f.fill.value (λ (c : Cell). (c.size ≡ f.int_type.size) × (length (cell_bytes c) ≡ f.int_type.size))
