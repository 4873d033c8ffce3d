-- By what options create a file.
use Rattle.std.specs.Prelude.{◌≡◌, ℕ, length, IfSome}
use Rattle.h5w_model.specs.Integers.{cell_bytes}
use Rattle.h5w_model.specs.declared.cell.Cell.{Cell}
use Rattle.h5w_layout.specs.Layouts.{fill_of}
use Rattle.h5w_layout.specs.declared.fill.Fill.{Fill}
use Rattle.h5w_options.specs.Options.{columns_in, grows_in, index_in, rank_in, width_in}
use Rattle.h5w_options.specs.declared.options.Options.{Options}
use Rattle.h5w_types.specs.Fields.{int_type_of}
use Rattle.h5w_creation_laws.specs.CreatedFiles.{CreatedFile, fill_given}

-- by what these options create a file: one dimension, or two of which the second is fixed, by an extensible array; or two that grow, by a
-- version 2 B-tree
abbrev pub new_file : Options → CreatedFile
new_file o = record {
  name = o.name;
  int_type = int_type_of o.int_type;
  fill = fill_given o.fill (int_type_of o.int_type);
  chunk_rows = o.chunk_rows;
  chunk_cols = width_in o.columns;
  rank = rank_in o.columns;
  columns = columns_in o.columns;
  growing = grows_in o.columns o.fixed;
  index = index_in o.columns o.fixed;
}

-- the cell of the options' fill
pub record IsFillOf (f : Fill) (o : Options) : Type 0 where
  pub bytes : fill_of f ≡ fill_given o.fill (int_type_of o.int_type)
  pub sized : IfSome f.value (λ (c : Cell). (c.size ≡ o.int_type.size) × (length (cell_bytes c) ≡ o.int_type.size))
