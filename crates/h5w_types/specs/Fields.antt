-- What the messages' types are as the fields that definitions speak of.
use Rattle.h5w_model.specs.Messages.{ShapeFields, IntTypeFields}
use Rattle.h5w_types.specs.declared.shape.Shape.{Shape}
use Rattle.h5w_types.specs.declared.int_type.IntType.{IntType}

-- a shape by its fields
abbrev pub shape_of : Shape → ShapeFields
shape_of s = record { rank = s.rank; rows = s.rows; cols = s.cols; growing = s.growing }

-- a type by its fields
abbrev pub int_type_of : IntType → IntTypeFields
int_type_of t = record { size = t.size; big = t.big; signed = t.signed }
