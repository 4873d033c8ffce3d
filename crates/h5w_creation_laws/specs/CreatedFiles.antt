-- A file as a session creates it: by what, where its blocks stand, their bytes, its pieces in the order in which they are written, and
-- what the file is once all of them are shown.
use Rattle.std.specs.Prelude.{◌≡◌, ℕ, ◌+◌, ◌-◌, ◌*◌, ◌≤◌, Bool, List, [], ◌∷◌, ◌++◌, length, map, replicate, Option, None, Some, IfSome, ℤ}
use Rattle.h5w_model.specs.Numbers.{undefined}
use Rattle.h5w_model.specs.Superblock.{super_bytes}
use Rattle.h5w_model.specs.Headers.{header_bytes}
use Rattle.h5w_model.specs.Links.{link_info_bytes, group_info_bytes, link_bytes, link_info_kind, link_message_kind}
use Rattle.h5w_model.specs.Messages.{ShapeFields, IntTypeFields, FillFields, LayoutFields, IsShape, IsIntType, index_of, index_bytes, layout_width}
use Rattle.h5w_model.specs.Integers.{cell_bytes_of}
use Rattle.h5w_model.specs.Arrays.{EahdFields, EaibFields, eahd_bytes, eaib_bytes, eahd_len, eaib_len}
use Rattle.h5w_model.specs.Trees.{BthdFields, bthd_bytes, bthd_len}
use Rattle.h5w_model.specs.Datasets.{Described}
use Rattle.h5w_model.specs.Findings.{Used}
use Rattle.h5w_model.specs.Logs.{Log}
use Rattle.h5w_model.specs.declared.message.Msg.{Msg}
use Rattle.h5w_model.specs.declared.root.Super.{Super}
use Rattle.h5w_model.specs.declared.cell.Key.{Key}
use Rattle.h5w_model.specs.declared.cell.IndexKind.{IndexKind}
use Rattle.h5w_model.specs.declared.cell.IndexKind.TheVariants.{Array, Tree}
use Rattle.h5w_model.specs.declared.piece.Write.{Write}
use Rattle.h5w_step_laws.specs.Ranges.{block_at}
use Rattle.h5w_step_laws.specs.Spelled.{message, spelled_header}
use Rattle.h5w_step_laws.specs.Moments.{Moment}

-- By what a session creates a file: the dataset's name and integers, the fill, the rows and columns of a chunk, the dataset's
-- dimensions and columns, whether the second dimension grows or is fixed, and by what its chunks are found.
pub record CreatedFile : Type 0 where
  pub name : List ℕ
  pub int_type : IntTypeFields
  pub fill : FillFields
  pub chunk_rows : ℕ
  pub chunk_cols : ℕ
  pub rank : ℕ
  pub columns : ℕ
  pub growing : Bool
  pub index : IndexKind

-- no rows, and dimension 0 has no maximum
abbrev pub shape_of : CreatedFile → ShapeFields
shape_of f = record { rank = f.rank; rows = 0; cols = f.columns; growing = f.growing }

-- the bytes of a chunk
abbrev pub chunk_len : CreatedFile → ℕ
chunk_len f = f.chunk_rows * f.chunk_cols * f.int_type.size

-- what a file can be created by
pub record IsCreatable (f : CreatedFile) : Type 0 where
  pub named : 1 ≤ length f.name
  pub name_bound : length f.name ≤ 64
  pub int_type : IsIntType f.int_type
  pub fill : IfSome f.fill.value (λ bytes. length bytes ≡ f.int_type.size)
  pub some_rows : 1 ≤ f.chunk_rows
  pub rows_bound : f.chunk_rows ≤ 65536
  pub some_cols : 1 ≤ f.chunk_cols
  pub cols_bound : f.chunk_cols ≤ 65536
  pub some_columns : 1 ≤ f.columns
  pub columns_bound : f.columns ≤ 65536
  pub small : chunk_len f ≤ 16777216
  pub shaped : IsShape (shape_of f)
  pub line : f.rank ≡ 1 → f.chunk_cols ≡ 1
  pub indexed : f.index ≡ index_of (shape_of f)

-- the fill by its value, which is 0 where none is given
abbrev pub fill_given : Option ℤ → IntTypeFields → FillFields
fill_given None t = record { value = None }
fill_given (Some v) t = record { value = cell_bytes_of v t }

-- ---- Where the blocks stand, one behind the other: superblock, root header, dataset header, and the index's blocks in place

abbrev pub root_place : ℕ
root_place = 48

-- the root header has 54 bytes beside the name
abbrev pub root_len : CreatedFile → ℕ
root_len f = 54 + length f.name

abbrev pub header_place : CreatedFile → ℕ
header_place f = root_place + root_len f

-- the data of a fill value message
abbrev pub fill_len : Option (List ℕ) → ℕ
fill_len None = 2
fill_len (Some bytes) = 6 + length bytes

-- the data of the layout message: the sizes of a chunk and of an integer, the index's parameters and its address
abbrev pub layout_len : CreatedFile → ℕ
layout_len f = 5 + (f.rank + 1) * layout_width f.chunk_rows f.chunk_cols f.int_type.size + length (index_bytes f.index) + 8

-- the dataset header: the data of dataspace, datatype, fill value and layout, and 27 bytes
abbrev pub header_len : CreatedFile → ℕ
header_len f = 27 + ((4 + 16 * f.rank) + (12 + (fill_len f.fill.value + layout_len f)))

-- the header of the array or of the tree
abbrev pub index_place : CreatedFile → ℕ
index_place f = header_place f + header_len f

-- the index block of an array
abbrev pub block_place : CreatedFile → ℕ
block_place f = index_place f + eahd_len

-- the index's blocks in place
abbrev pub index_len : IndexKind → ℕ
index_len Array = eahd_len + eaib_len
index_len Tree = bthd_len

-- the end-of-file address
abbrev pub end_of : CreatedFile → ℕ
end_of f = index_place f + index_len f.index

-- ---- What the blocks say

-- a SWMR writer has the file open: flag bits 0 and 2
abbrev pub super_of : CreatedFile → Super
super_of f = record { version = 3; flags = 5; end = end_of f; root = root_place }

abbrev pub group_info_kind : ℕ
group_info_kind = 0x0a

-- link info, group info, and the link to the dataset
abbrev pub root_messages : CreatedFile → List Msg
root_messages f = message link_info_kind link_info_bytes ∷ message group_info_kind group_info_bytes ∷ message link_message_kind (link_bytes f.name (header_place f)) ∷ []

-- the index address is the last of its data
abbrev pub layout_of : CreatedFile → LayoutFields
layout_of f = record { chunk_rows = f.chunk_rows; chunk_cols = f.chunk_cols; index = f.index; address = index_place f; place = layout_len f - 8 }

abbrev pub described_of : CreatedFile → Described
described_of f = record { shape = shape_of f; int_type = f.int_type; fill = f.fill; layout = layout_of f }

-- an array without chunks, whose index block stands at a place: its header
abbrev pub empty_array : ℕ → EahdFields
empty_array place = record { numbers = 0 ∷ 0 ∷ 0 ∷ 0 ∷ 0 ∷ 4 ∷ []; block = place }

-- and its index block, where the header stands at a place
abbrev pub empty_index_block : ℕ → EaibFields
empty_index_block at = record { header = at; slots = replicate 4 undefined; first = replicate 6 undefined; second = replicate 25 undefined }

-- the header of a tree without chunks
abbrev pub empty_tree : BthdFields
empty_tree = record { depth = 0; root = undefined; records = 0; total = 0 }

-- ---- The blocks, each with its place

abbrev pub super_block : CreatedFile → ℕ × List ℕ
super_block f = (0, super_bytes (super_of f))

abbrev pub root_block : CreatedFile → ℕ × List ℕ
root_block f = (root_place, header_bytes (root_messages f))

abbrev pub header_block : CreatedFile → ℕ × List ℕ
header_block f = (header_place f, spelled_header (described_of f))

-- the index's blocks in place, each behind those that it names
abbrev pub index_blocks : IndexKind → CreatedFile → List (ℕ × List ℕ)
index_blocks Array f = (block_place f, eaib_bytes (empty_index_block (index_place f))) ∷ (index_place f, eahd_bytes (empty_array (block_place f))) ∷ []
index_blocks Tree f = (index_place f, bthd_bytes empty_tree) ∷ []

-- all of them, in the order in which they are written: the superblock, by which a reader finds the file, is the last
abbrev pub created_blocks : CreatedFile → List (ℕ × List ℕ)
created_blocks f = index_blocks f.index f ++ header_block f ∷ root_block f ∷ super_block f ∷ []

-- the pieces of a creation
abbrev pub block_write : ℕ × List ℕ → Write
block_write b = record { at = b.0; piece = b.1 }

abbrev pub created_writes : CreatedFile → List Write
created_writes f = map block_write (created_blocks f)

-- ---- The file

-- the ranges of the index's blocks in place
abbrev pub fixed_of : IndexKind → CreatedFile → List Used
fixed_of Array f = block_at (index_place f) eahd_len ∷ block_at (block_place f) eaib_len ∷ []
fixed_of Tree f = block_at (index_place f) bthd_len ∷ []

-- without rows and chunks
abbrev pub created_moment : CreatedFile → Moment
created_moment f = record {
  super = super_of f;
  place = header_place f;
  dataset = described_of f;
  root = block_at root_place (root_len f) ∷ [];
  header = block_at (header_place f) (header_len f) ∷ [];
  fixed = fixed_of f.index f;
  behind = [];
  table = [];
  values = [];
}

-- no chunk has an address
abbrev pub no_address : Key → ℕ
no_address key = undefined

-- the log of a session that creates its file, before a piece is shown: a reader finds the file once all are
abbrev pub created_log : CreatedFile → Log
created_log f = record { start = []; columns = f.columns; values = []; first = length (created_blocks f); events = [] }
