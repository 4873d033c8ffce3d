-- By what a file can be created.
use Rattle.std.specs.Prelude.{ℕ, ◌*◌, ◌^◌, ◌≤◌, Bool, false, not, IsTrue, if◌then◌else◌, length, ℤ, Option, Some, None, IfSome, IsSome}
use Rattle.h5w_model.specs.Integers.{cell_bytes_of}
use Rattle.h5w_model.specs.Logs.{Cutting}
use Rattle.h5w_model.specs.declared.cell.IndexKind.{IndexKind}
use Rattle.h5w_model.specs.declared.cell.IndexKind.TheVariants.{Array, Tree}
use Rattle.h5w_model.specs.Messages.{IntTypeFields, IsIntType}
use Rattle.h5w_types.specs.Fields.{int_type_of}
use Rattle.h5w_options.specs.declared.options.Options.{Options}

-- the type has the value
abbrev pub HasValue : IntTypeFields → ℤ → Type 0
HasValue t v = IsSome (cell_bytes_of v t)

-- ---- Columns: of a row, and of a chunk

abbrev pub columns_in : Option (ℕ × ℕ) → ℕ
columns_in None = 1
columns_in (Some x) = x.0

abbrev pub width_in : Option (ℕ × ℕ) → ℕ
width_in None = 1
width_in (Some x) = x.1

-- rows of columns have two dimensions
abbrev pub rank_in : Option (ℕ × ℕ) → ℕ
rank_in None = 1
rank_in (Some x) = 2

-- of which the second has no maximum, unless it is fixed
abbrev pub grows_in : Option (ℕ × ℕ) → Bool → Bool
grows_in None fixed = false
grows_in (Some x) fixed = not fixed

-- a tree finds the chunks where it has none, else an array
abbrev pub index_in : Option (ℕ × ℕ) → Bool → IndexKind
index_in columns fixed = if grows_in columns fixed then Tree else Array

-- how the rows are cut into chunks
abbrev pub cutting_by : Options → Cutting
cutting_by o = record { chunk_rows = o.chunk_rows; chunk_columns = width_in o.columns; columns = columns_in o.columns; value_size = o.int_type.size }

pub record AreColumns (x : ℕ × ℕ) : Type 0 where
  pub some : 1 ≤ x.0
  pub bound : x.0 ≤ 65536
  pub some_wide : 1 ≤ x.1
  pub wide_bound : x.1 ≤ 65536

-- the bounds of a session's options
pub record AreOptions (o : Options) : Type 0 where
  pub named : 1 ≤ length o.name
  pub name_bound : length o.name ≤ 64
  pub typed : IsIntType (int_type_of o.int_type)
  pub some_rows : 1 ≤ o.chunk_rows
  pub chunk_bound : o.chunk_rows ≤ 65536
  pub columns : IfSome o.columns AreColumns
  pub fixed : IsTrue o.fixed → IsSome o.columns × (width_in o.columns ≤ columns_in o.columns)
  pub small : o.chunk_rows * width_in o.columns * o.int_type.size ≤ 16777216
  pub filled : IfSome o.fill (HasValue (int_type_of o.int_type))
  pub limit_low : 1024 ≤ o.limit
  pub limit_high : o.limit ≤ 2 ^ 40
  pub budget_low : 1024 ≤ o.budget
  pub budget_high : o.budget ≤ 2 ^ 30

-- the attempts of a reader's call
pub record AreAttempts (attempts : ℕ) : Type 0 where
  pub some : 1 ≤ attempts
  pub bound : attempts ≤ 1000
