-- The integers of a datatype and their bytes, for each size, order and sign
-- (HDF5 File Format Specification 3.0, "The Datatype Message", class 0: Fixed-Point).
use Rattle.std.specs.Prelude.{ℕ, suc, ◌++◌, length, take, replicate, ◌-◌, ◌^◌, ◌/◌, Bool, ◌&&◌, nat_le, List, reverse, ℤ, pos, negsuc, ◌-ℤ◌, neg_ℤ, int_le, int_lt, Option, Some, None, if◌then◌else◌}
use Rattle.h5w_model.specs.Numbers.{num, le}
use Rattle.h5w_model.specs.Messages.{IntTypeFields, FillFields}
use Rattle.h5w_model.specs.declared.cell.Cell.{Cell}

-- bytes from the least significant first to the type's order, or back
abbrev pub in_order : Bool → List ℕ → List ℕ
in_order big bytes = if big then reverse bytes else bytes

-- a number of m values, as two's complement where it is signed
abbrev pub signed_of : Bool → ℕ → ℕ → ℤ
signed_of signed m n = if signed && nat_le (m / 2) n then pos n -ℤ pos m else pos n

-- how many values a type has
abbrev pub span_of : IntTypeFields → ℕ
span_of t = 256 ^ t.size

-- the value of some bytes
unfoldable pub value_at : List ℕ → IntTypeFields → ℤ
value_at bytes t = signed_of t.signed (span_of t) (num (in_order t.big bytes))

-- a type of m values has the value v
abbrev pub is_in_span : Bool → ℕ → ℤ → Bool
is_in_span signed m v =
    if signed then int_le (neg_ℤ (pos (m / 2))) v && int_lt v (pos (m / 2)) else int_le (pos 0) v && int_lt v (pos m)

-- v as a number below m
abbrev pub unsigned_of : ℕ → ℤ → ℕ
unsigned_of m (pos n) = n
unsigned_of m (negsuc n) = m - suc n

-- the bytes of a value, none where it is outside the type
unfoldable pub cell_bytes_of : ℤ → IntTypeFields → Option (List ℕ)
cell_bytes_of v t =
    if is_in_span t.signed (span_of t) v
    then Some (in_order t.big (le t.size (unsigned_of (span_of t) v)))
    else None

-- the value of a fill's bytes, 0 without any
abbrev pub fill_cell_value : Option (List ℕ) → IntTypeFields → ℤ
fill_cell_value None t = pos 0
fill_cell_value (Some bytes) t = value_at bytes t

-- the value of cells that were never written
abbrev pub fill_value : FillFields → IntTypeFields → ℤ
fill_value f t = fill_cell_value f.value t

-- the bytes of a cell
abbrev pub cell_bytes : Cell → List ℕ
cell_bytes c = take c.size c.bytes

-- the cell of at most 8 bytes: behind them stand zeros, so that one list of bytes has one cell
abbrev pub cell_of : List ℕ → Cell
cell_of bytes = record { bytes = bytes ++ replicate (8 - length bytes) 0; size = length bytes }
