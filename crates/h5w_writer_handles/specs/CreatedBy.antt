-- How a file is created, as C says it.
use Rattle.std.specs.Prelude.{ℕ, List, ℤ, Bool, not, ◌==◌, if◌then◌else◌, Option, Some, None}
use Rattle.h5w_types.specs.declared.int_type.IntType.{IntType}
use Rattle.h5w_options.specs.declared.options.Options.{Options}
use Rattle.h5w_writer_handles.specs.declared.options.H5wOptions.{H5wOptions}

-- a flag is set if it is not 0
abbrev pub is_set : ℕ → Bool
is_set n = not (n == 0)

-- the type of the dataset's integers
abbrev pub type_by : H5wOptions → IntType
type_by o = record { size = o.size; big = is_set o.big; signed = is_set o.is_signed }

-- the columns of a row and of a chunk; none in one dimension
abbrev pub columns_by : H5wOptions → Option (ℕ × ℕ)
columns_by o = if o.columns == 0 then None else Some (o.columns, o.width)

abbrev pub fill_by : H5wOptions → Option ℤ
fill_by o = if o.filled == 0 then None else Some o.fill

-- by these options a file is created with a dataset of this name
abbrev pub options_of : List ℕ → H5wOptions → Options
options_of name o = record {
  name = name;
  int_type = type_by o;
  chunk_rows = o.chunk_rows;
  columns = columns_by o;
  fixed = is_set o.fixed;
  fill = fill_by o;
  limit = o.limit;
  budget = o.budget;
}
