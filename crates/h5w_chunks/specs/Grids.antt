-- A dataset's grid of chunks, and the cells that chunks are made of.
use Rattle.std.specs.Prelude.{ℕ, zero, suc, ◌+◌, ◌-◌, ◌*◌, ◌/◌, ◌^◌, ◌<◌, ◌≤◌, ◌≡◌, List, [], ◌++◌, length, replicate, unwrap_or, IfSome, Some, ℤ}
use Rattle.h5w_model.specs.Numbers.{range}
use Rattle.h5w_model.specs.Datasets.{Described}
use Rattle.h5w_model.specs.Tables.{chunk_number, index_key}
use Rattle.h5w_model.specs.Messages.{IsIntType, IsLayout, IsShape}
use Rattle.h5w_model.specs.Integers.{cell_bytes, cell_bytes_of}
use Rattle.h5w_model.specs.declared.cell.Cell.{Cell}
use Rattle.h5w_model.specs.declared.cell.Key.{Key}
use Rattle.h5w_types.specs.Fields.{int_type_of, shape_of}
use Rattle.h5w_types.specs.Runs.{run_bytes}
use Rattle.h5w_layout.specs.Layouts.{fill_of, layout_of}
use Rattle.h5w_chunks.specs.declared.grid.Grid.{Grid}

-- a grid as the dataset that it is of
abbrev pub dataset_of : Grid → Described
dataset_of g = record { shape = shape_of g.shape; int_type = int_type_of g.int_type; fill = fill_of g.fill; layout = layout_of g.layout }

-- shape, type and layout can be read and written, and a fill has the type's size
pub record IsGrid (g : Grid) : Type 0 where
  pub shaped : IsShape (shape_of g.shape)
  pub typed : IsIntType (int_type_of g.int_type)
  pub chunked : IsLayout (layout_of g.layout) (shape_of g.shape) (int_type_of g.int_type)
  pub filled : IfSome g.fill.value (λ (c : Cell). (c.size ≡ g.int_type.size) × (length (cell_bytes c) ≡ g.int_type.size))

-- the chunk of a row and a column, by its place in the grid
abbrev pub key_of : Described → ℕ → ℕ → Key
key_of d row column = record { i = row / d.layout.chunk_rows; j = column / d.layout.chunk_cols }

-- the number of this chunk
abbrev pub grid_number : Described → ℕ → ℕ → ℕ
grid_number d row column = chunk_number d (row / d.layout.chunk_rows) (column / d.layout.chunk_cols)

-- the key by which the index has it
abbrev pub cell_key : Described → ℕ → ℕ → Key
cell_key d row column = index_key d (grid_number d row column)

-- how many bytes a row of a chunk has
abbrev pub row_len : Described → ℕ
row_len d = d.layout.chunk_cols * d.int_type.size

-- how many bytes a chunk has
abbrev pub chunk_len : Described → ℕ
chunk_len d = d.layout.chunk_rows * row_len d

-- the bytes of the fill, zeros where no value is set
abbrev pub fill_cell : Described → List ℕ
fill_cell d = unwrap_or d.fill.value (replicate d.int_type.size 0)

-- what the writes of rows rest on
pub record IsCut (d : Described) : Type 0 where
  pub rows : 0 < d.layout.chunk_rows
  pub cols : 0 < d.layout.chunk_cols
  pub some : 0 < d.int_type.size
  pub few : d.int_type.size ≤ 8
  pub small : d.layout.chunk_rows * d.layout.chunk_cols * d.int_type.size < 2 ^ 32
  pub fill : length (fill_cell d) ≡ d.int_type.size

-- some bytes, n times
unfoldable pub copies : ℕ → List ℕ → List ℕ
copies zero bytes = []
copies (suc n) bytes = bytes ++ copies n bytes

-- a chunk whose cells all are the fill
abbrev pub filled_chunk : Described → List ℕ
filled_chunk d = copies (d.layout.chunk_rows * d.layout.chunk_cols) (fill_cell d)

-- the value is one of the dataset's type
abbrev pub FitsType : Described → ℤ → Type 0
FitsType d v = (bytes : List ℕ) × (cell_bytes_of v d.int_type ≡ Some bytes)

-- the cells of some values, one behind the other
abbrev pub cells_of : Described → List ℤ → List ℕ
cells_of d values = run_bytes d.int_type values

-- the cell of a row and a column, among the cells of rows from `first` on
abbrev pub cell_in : Described → List ℕ → ℕ → ℕ → ℕ → List ℕ
cell_in d cells first row column = range cells (((row - first) * d.shape.cols + column) * d.int_type.size) d.int_type.size
