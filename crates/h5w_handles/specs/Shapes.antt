-- The shape of a dataset, as C has it.
use Rattle.std.specs.Prelude.{ℕ, Bool, true, false, Option, Some, None}
use Rattle.h5w_model.specs.Datasets.{Described}
use Rattle.h5w_handles.specs.declared.shape.H5wShape.{H5wShape}

-- a flag as a number
abbrev pub flag : Bool → ℕ
flag true = 1
flag false = 0

abbrev pub shape_told : Described → H5wShape
shape_told d = record {
  rows = d.shape.rows;
  columns = d.shape.cols;
  chunk_rows = d.layout.chunk_rows;
  width = d.layout.chunk_cols;
  dimensions = d.shape.rank;
  growing = flag d.shape.growing;
  size = d.int_type.size;
  big = flag d.int_type.big;
  is_signed = flag d.int_type.signed;
}

-- a shape that a call gives, and whether it does
abbrev pub shape_if : Bool → H5wShape → Option H5wShape
shape_if true s = Some s
shape_if false s = None
