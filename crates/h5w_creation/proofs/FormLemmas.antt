-- What a form says of the files that are created by it.
use Rattle.std.proofs.Common.{ℕ, ◌≤◌, List, length}
use Rattle.h5w_creation_laws.specs.CreatedFiles.{IsCreatable}
use Rattle.h5w_creation.specs.declared.form.Form.{Form}
use Rattle.h5w_creation.specs.Forms.{IsForm, created_by}

-- under any name of 1 to 64 bytes
pub creatable : (name : List ℕ) (f : Form) → IsForm f → 1 ≤ length name → length name ≤ 64 → IsCreatable (created_by name f)
creatable name f h some few =
    let c = h.creatable in
    record {
      named = some;
      name_bound = few;
      int_type = c.int_type;
      fill = c.fill;
      some_rows = c.some_rows;
      rows_bound = c.rows_bound;
      some_cols = c.some_cols;
      cols_bound = c.cols_bound;
      some_columns = c.some_columns;
      columns_bound = c.columns_bound;
      small = c.small;
      shaped = c.shaped;
      line = c.line;
      indexed = c.indexed;
    }
