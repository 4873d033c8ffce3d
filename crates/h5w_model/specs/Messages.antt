-- The four messages that describe a dataset: dataspace, datatype, fill value, layout
-- (HDF5 File Format Specification 3.0, "Disk Format: Level 2A2 - Data Object Header Messages").
-- Each is a list of tests of the message's data, with their refusals in rising number, and the fields;
-- what follows the last field is passed over. Of a field that passes the end, the bytes that are there count.
use Rattle.std.specs.Prelude.{ℕ, ◌+◌, ◌*◌, ◌/◌, ◌%◌, ◌^◌, ◌<◌, ◌≡◌, max, Bool, not, ◌&&◌, ◌||◌, nat_eq, nat_le, nat_lt, ◌==◌, IsTrue, List, [], ◌∷◌, ◌++◌, length, drop, flat_map, Option, Some, None, Result, if◌then◌else◌}
use Rattle.std.specs.List.{starts_with}
use Rattle.h5w_model.specs.Numbers.{le, range, field, undefined, width_of}
use Rattle.h5w_model.specs.Checked.{checked}
use Rattle.h5w_model.specs.Headers.{has}
use Rattle.h5w_model.specs.declared.cell.IndexKind.{IndexKind}
use Rattle.h5w_model.specs.declared.cell.IndexKind.TheVariants.{Array, Tree}
use Rattle.h5w_model.specs.declared.refusal.Unsupported.{Unsupported}

-- a refusal by its number (docs/FORMAT.md, "Unsupported")
abbrev pub unsupported : ℕ → Unsupported
unsupported n = record { 0 = n }

-- the byte at a place
abbrev pub byte : List ℕ → ℕ → ℕ
byte b place = field b place 1

-- a dataspace of one or two dimensions ("The Dataspace Message")
pub record ShapeFields : Type 0 where
  pub rank : ℕ
  pub rows : ℕ  -- the size of dimension 0
  pub cols : ℕ  -- the size of dimension 1, and 1 without it
  pub growing : Bool  -- dimension 1 has no maximum; otherwise its size is its maximum

-- the maximum of a dimension that has none
abbrev pub unlimited : ℕ
unlimited = undefined

-- version, rank, maximums are there, simple; room for sizes and maximums; no maximum in dimension 0; in dimension 1 none,
-- or its size
unfoldable pub shape_tests : List ℕ → List (Bool × Unsupported)
shape_tests b =
    (nat_le 4 (length b), unsupported 5)
    ∷ (byte b 0 == 2, unsupported 5)
    ∷ ((byte b 1 == 1) || (byte b 1 == 2), unsupported 5)
    ∷ (has (byte b 2) 1, unsupported 5)
    ∷ (byte b 3 == 1, unsupported 5)
    ∷ (nat_le (4 + 16 * byte b 1) (length b), unsupported 5)
    ∷ (field b (4 + 8 * byte b 1) 8 == unlimited, unsupported 6)
    ∷ ((byte b 1 == 1) || (field b 28 8 == unlimited) || (field b 28 8 == field b 12 8), unsupported 6)
    ∷ []

unfoldable pub shape_fields : List ℕ → ShapeFields
shape_fields b =
    record {
      rank = byte b 1;
      rows = field b 4 8;
      cols = if byte b 1 == 1 then 1 else field b 12 8;
      growing = (byte b 1 == 2) && (field b 28 8 == unlimited);
    }

-- the shape that the data of a message say, or the first refusal
unfoldable pub shape_at : List ℕ → Result ShapeFields Unsupported
shape_at b = checked (shape_tests b) (shape_fields b)

-- one dimension, or two of which the second grows or is below the number that stands for no maximum
abbrev pub is_shape : ShapeFields → Bool
is_shape s = ((s.rank == 1) && (s.cols == 1) && not s.growing) || ((s.rank == 2) && (s.growing || not (s.cols == unlimited)))

-- a shape that can be read and written
abbrev pub IsShape : ShapeFields → Type 0
IsShape s = IsTrue (is_shape s)

-- sizes and maximums
abbrev pub shape_numbers : ℕ → ℕ → ℕ → Bool → List ℕ
shape_numbers rank rows cols growing =
    if rank == 1 then rows ∷ unlimited ∷ [] else rows ∷ cols ∷ unlimited ∷ (if growing then unlimited else cols) ∷ []

-- the one written spelling
unfoldable pub shape_bytes : ShapeFields → List ℕ
shape_bytes s = 2 ∷ s.rank ∷ 1 ∷ 1 ∷ flat_map (le 8) (shape_numbers s.rank s.rows s.cols s.growing)

-- a fixed-point datatype ("The Datatype Message", class 0)
pub record IntTypeFields : Type 0 where
  pub size : ℕ  -- in bytes
  pub big : Bool  -- the most significant byte comes first
  pub signed : Bool  -- two's complement

-- how many bytes an integer may have
abbrev pub is_int_size : ℕ → Bool
is_int_size n = (n == 1) || (n == 2) || (n == 4) || (n == 8)

-- a type that can be read and written
abbrev pub IsIntType : IntTypeFields → Type 0
IsIntType t = IsTrue (is_int_size t.size)

-- room, class, version; size, bit offset, precision
unfoldable pub int_type_tests : List ℕ → List (Bool × Unsupported)
int_type_tests b =
    (nat_le 12 (length b), unsupported 7)
    ∷ (byte b 0 % 16 == 0, unsupported 7)
    ∷ (nat_le 1 (byte b 0 / 16) && nat_le (byte b 0 / 16) 4, unsupported 7)
    ∷ (is_int_size (field b 4 4), unsupported 8)
    ∷ (field b 8 2 == 0, unsupported 8)
    ∷ (field b 10 2 == 8 * field b 4 4, unsupported 8)
    ∷ []

unfoldable pub int_type_fields : List ℕ → IntTypeFields
int_type_fields b = record { size = field b 4 4; big = has (byte b 1) 1; signed = has (byte b 1) 8 }

-- the type, or the first refusal
unfoldable pub int_type_at : List ℕ → Result IntTypeFields Unsupported
int_type_at b = checked (int_type_tests b) (int_type_fields b)

-- bit 0 is the order, bit 3 the sign
abbrev pub int_type_bits : IntTypeFields → ℕ
int_type_bits t = (if t.big then 1 else 0) + (if t.signed then 8 else 0)

-- the one written spelling, version 3
unfoldable pub int_type_bytes : IntTypeFields → List ℕ
int_type_bytes t = 0x30 ∷ int_type_bits t ∷ 0 ∷ 0 ∷ (le 4 t.size ++ (le 2 0 ++ le 2 (8 * t.size)))

-- a fill value by its bytes, in the type's order; none where it is 0 ("The Fill Value Message")
pub record FillFields : Type 0 where
  pub value : Option (List ℕ)

-- flag bit 5: a size and a value follow
abbrev pub fill_has_size : List ℕ → Bool
fill_has_size b = has (byte b 1) 0x20

-- the size of the value, 0 where none is stated
abbrev pub fill_size : List ℕ → ℕ
fill_size b = if fill_has_size b then field b 2 4 else 0

-- room for the flags, version, room for the size, the size, room for the value
unfoldable pub fill_tests : List ℕ → IntTypeFields → List (Bool × Unsupported)
fill_tests b t =
    (nat_le 2 (length b), unsupported 9)
    ∷ (byte b 0 == 3, unsupported 9)
    ∷ (not (fill_has_size b) || nat_le 6 (length b), unsupported 9)
    ∷ ((fill_size b == 0) || (fill_size b == t.size), unsupported 9)
    ∷ ((fill_size b == 0) || nat_le (6 + fill_size b) (length b), unsupported 9)
    ∷ []

unfoldable pub fill_fields : List ℕ → FillFields
fill_fields b = record { value = if fill_size b == 0 then None else Some (range b 6 (fill_size b)) }

-- the fill beside a type, or the refusal
unfoldable pub fill_at : List ℕ → IntTypeFields → Result FillFields Unsupported
fill_at b t = checked (fill_tests b t) (fill_fields b)

-- flags: space is allocated incrementally, and filled if the user set a value; bit 5 where one follows
unfoldable pub fill_value_bytes : Option (List ℕ) → List ℕ
fill_value_bytes None = 3 ∷ 0x0b ∷ []
fill_value_bytes (Some bytes) = 3 ∷ 0x2b ∷ (le 4 (length bytes) ++ bytes)

-- the one written spelling
abbrev pub fill_bytes : FillFields → List ℕ
fill_bytes f = fill_value_bytes f.value

-- a chunked layout ("The Data Layout Message", version 4, class 2)
pub record LayoutFields : Type 0 where
  pub chunk_rows : ℕ
  pub chunk_cols : ℕ  -- 1 in rank 1
  pub index : IndexKind
  pub address : ℕ  -- of the index
  pub place : ℕ  -- of the address in the data

-- the index that belongs to a shape
abbrev pub index_of : ShapeFields → IndexKind
index_of s = if s.growing then Tree else Array

-- the index type and its parameters
abbrev pub index_bytes : IndexKind → List ℕ
index_bytes Array = 4 ∷ 0x20 ∷ 4 ∷ 4 ∷ 0x10 ∷ 0x0a ∷ []
index_bytes Tree = 5 ∷ 0 ∷ 8 ∷ 0 ∷ 0 ∷ 100 ∷ 40 ∷ []

-- chunk size k in the stated width; the last is the element size
abbrev pub chunk_size : List ℕ → ℕ → ℕ
chunk_size b k = field b (5 + k * byte b 4) (byte b 4)

-- the columns of a chunk, 1 in rank 1
abbrev pub chunk_cols_at : List ℕ → ShapeFields → ℕ
chunk_cols_at b s = if s.rank == 1 then 1 else chunk_size b 1

-- the place of the index type, by the stated number of sizes and their width
abbrev pub index_place : List ℕ → ℕ
index_place b = 5 + byte b 3 * byte b 4

-- the place of the index's address
abbrev pub address_place : List ℕ → ShapeFields → ℕ
address_place b s = index_place b + length (index_bytes (index_of s))

-- room to the index type, version, class
abbrev pub layout_form_tests : List ℕ → List (Bool × Unsupported)
layout_form_tests b =
    (nat_lt (index_place b) (length b), unsupported 10)
    ∷ (byte b 0 == 4, unsupported 10)
    ∷ (byte b 1 == 2, unsupported 10)
    ∷ []

-- number of sizes, width, sizes, the last of them, product
abbrev pub chunk_tests : List ℕ → ShapeFields → IntTypeFields → List (Bool × Unsupported)
chunk_tests b s t =
    (byte b 3 == s.rank + 1, unsupported 11)
    ∷ (nat_le 1 (byte b 4) && nat_le (byte b 4) 8, unsupported 11)
    ∷ (nat_lt 0 (chunk_size b 0), unsupported 11)
    ∷ (nat_lt 0 (chunk_cols_at b s), unsupported 11)
    ∷ (chunk_size b s.rank == t.size, unsupported 11)
    ∷ (nat_lt (chunk_size b 0 * chunk_cols_at b s * t.size) (2 ^ 32), unsupported 11)
    ∷ []

-- index type and parameters, room for the address
abbrev pub index_tests : List ℕ → ℕ → IndexKind → List (Bool × Unsupported)
index_tests b place index =
    (starts_with nat_eq (drop place b) (index_bytes index), unsupported 12)
    ∷ (nat_le (place + length (index_bytes index) + 8) (length b), unsupported 12)
    ∷ []

-- all tests, in rising number
abbrev pub layout_tests : List ℕ → ShapeFields → IntTypeFields → List (Bool × Unsupported)
layout_tests b s t = layout_form_tests b ++ chunk_tests b s t ++ index_tests b (index_place b) (index_of s)

unfoldable pub layout_fields : List ℕ → ShapeFields → LayoutFields
layout_fields b s =
    record {
      chunk_rows = chunk_size b 0;
      chunk_cols = chunk_cols_at b s;
      index = index_of s;
      address = field b (address_place b s) 8;
      place = address_place b s;
    }

-- the layout beside a shape and a type, or the first refusal
unfoldable pub layout_at : List ℕ → ShapeFields → IntTypeFields → Result LayoutFields Unsupported
layout_at b s t = checked (layout_tests b s t) (layout_fields b s)

-- a layout that can be read and written beside a shape and a type
pub record IsLayout (l : LayoutFields) (s : ShapeFields) (t : IntTypeFields) : Type 0 where
  pub rows : 0 < l.chunk_rows
  pub cols : 0 < l.chunk_cols
  pub line : s.rank ≡ 1 → l.chunk_cols ≡ 1
  pub small : l.chunk_rows * l.chunk_cols * t.size < 2 ^ 32
  pub index : l.index ≡ index_of s

-- the width of the greatest size; in rank 1 chunk_cols is 1
abbrev pub layout_width : ℕ → ℕ → ℕ → ℕ
layout_width rows cols size = width_of (max rows (max cols size))

-- the sizes as they are written
abbrev pub chunk_sizes : ℕ → ℕ → ℕ → ℕ → List ℕ
chunk_sizes rank rows cols size = if rank == 1 then rows ∷ size ∷ [] else rows ∷ cols ∷ size ∷ []

-- the one written spelling
unfoldable pub layout_bytes : LayoutFields → ShapeFields → IntTypeFields → List ℕ
layout_bytes l s t =
    let width = layout_width l.chunk_rows l.chunk_cols t.size in
    4 ∷ 2 ∷ 0 ∷ (s.rank + 1) ∷ width
    ∷ (flat_map (le width) (chunk_sizes s.rank l.chunk_rows l.chunk_cols t.size) ++ (index_bytes l.index ++ le 8 l.address))
