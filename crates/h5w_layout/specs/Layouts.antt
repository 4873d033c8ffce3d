-- What the messages' types are as the fields that definitions speak of.
use Rattle.std.specs.Prelude.{ℕ, ◌+◌, Option, Some, None, List, option_map}
use Rattle.h5w_model.specs.Messages.{FillFields, LayoutFields, layout_bytes}
use Rattle.h5w_model.specs.Integers.{cell_bytes, cell_of}
use Rattle.h5w_types.specs.Fields.{shape_of, int_type_of}
use Rattle.h5w_types.specs.declared.shape.Shape.{Shape}
use Rattle.h5w_types.specs.declared.int_type.IntType.{IntType}
use Rattle.h5w_model.specs.declared.cell.Cell.{Cell}
use Rattle.h5w_layout.specs.declared.fill.Fill.{Fill}
use Rattle.h5w_layout.specs.declared.layout.Layout.{Layout}

-- a fill by its bytes
abbrev pub fill_of : Fill → FillFields
fill_of f = record { value = option_map cell_bytes f.value }

-- the fill of some bytes
abbrev pub fill_with : FillFields → Fill
fill_with f = record { value = option_map cell_of f.value }

-- how many bytes a fill is written in
abbrev pub fill_length : Option Cell → ℕ
fill_length None = 2
fill_length (Some c) = 6 + c.size

-- a layout by its fields
abbrev pub layout_of : Layout → LayoutFields
layout_of l = record { chunk_rows = l.chunk.0; chunk_cols = l.chunk.1; index = l.index; address = l.address; place = l.at }

-- the spelling of a layout beside the dataset's shape and type
abbrev pub spelling_of : Layout → Shape → IntType → List ℕ
spelling_of l s t = layout_bytes (layout_of l) (shape_of s) (int_type_of t)
