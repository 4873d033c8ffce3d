-- What is said of a file, and the words for what it shows.
use Rattle.std.specs.Prelude.{◌≡◌, ℕ, true, false, List, map, Option, Some, ℤ, codes}
use Rattle.h5w_model.specs.Messages.{IntTypeFields}
use Rattle.h5w_model.specs.Datasets.{Described}
use Rattle.h5w_model.specs.Tables.{Reading, Shows, Fails, format_limits, cells}
use Rattle.h5w_model.specs.Findings.{Finding, Summary, AllSummary, Valid, Finds}
use Rattle.h5w_model.specs.declared.cell.IndexKind.TheVariants.{Array, Tree}
use Rattle.h5w_model.specs.declared.refusal.ReadError.{ReadError}

-- the dataset's name
abbrev pub data_name : List ℕ
data_name = codes "data"

-- the file shows a reading, whose cells, row by row, are these values, and it is valid
pub record IsValidFile (file : List ℕ) (r : Reading) (values : List ℤ) (s : Summary) : Type 0 where
  pub shows : Shows format_limits file data_name r
  pub cells : cells file r ≡ map Some values
  pub valid : Valid file data_name s

-- it does, and a check finds this
pub record IsFoundFile (file : List ℕ) (r : Reading) (values : List ℤ) (f : Finding) : Type 0 where
  pub shows : Shows format_limits file data_name r
  pub cells : cells file r ≡ map Some values
  pub finds : Finds file data_name f

-- a reader is refused, and a check finds this
pub record IsRefusedFile (file : List ℕ) (e : ReadError) (f : Finding) : Type 0 where
  pub fails : Fails format_limits file data_name e
  pub finds : Finds file data_name f

-- the file shows a reading of a name, whose cells, row by row, are these values, and it is valid for that name
pub record IsValidFor (file name : List ℕ) (r : Reading) (values : List ℤ) (s : Summary) : Type 0 where
  pub shows : Shows format_limits file name r
  pub cells : cells file r ≡ map Some values
  pub valid : Valid file name s

-- integers of some bytes
abbrev pub signed_byte : IntTypeFields
signed_byte = record { size = 1; big = false; signed = true }

abbrev pub unsigned_byte : IntTypeFields
unsigned_byte = record { size = 1; big = false; signed = false }

abbrev pub signed_big_16 : IntTypeFields
signed_big_16 = record { size = 2; big = true; signed = true }

abbrev pub signed_32 : IntTypeFields
signed_32 = record { size = 4; big = false; signed = true }

-- rows of one integer, so many in a chunk, with this fill, and an array whose header's address stands at a place of the layout's data
abbrev pub line : ℕ → ℕ → IntTypeFields → Option (List ℕ) → ℕ → ℕ → Described
line rows chunk_rows type fill address place = record {
  shape = record { rank = 1; rows = rows; cols = 1; growing = false };
  int_type = type;
  fill = record { value = fill };
  layout = record { chunk_rows = chunk_rows; chunk_cols = 1; index = Array; address = address; place = place };
}

-- rows of some columns, in chunks of rows and columns, and a tree
abbrev pub grid : ℕ → ℕ → ℕ → ℕ → IntTypeFields → Option (List ℕ) → ℕ → Described
grid rows columns chunk_rows chunk_columns type fill address = record {
  shape = record { rank = 2; rows = rows; cols = columns; growing = true };
  int_type = type;
  fill = record { value = fill };
  layout = record { chunk_rows = chunk_rows; chunk_cols = chunk_columns; index = Tree; address = address; place = 15 };
}

-- rows of fixed columns, in chunks of rows and columns, and an array
abbrev pub fixed : ℕ → ℕ → ℕ → ℕ → IntTypeFields → Option (List ℕ) → ℕ → ℕ → Described
fixed rows columns chunk_rows chunk_columns type fill address place = record {
  shape = record { rank = 2; rows = rows; cols = columns; growing = false };
  int_type = type;
  fill = record { value = fill };
  layout = record { chunk_rows = chunk_rows; chunk_cols = chunk_columns; index = Array; address = address; place = place };
}

-- rows, chunks, blocks, end and lost bytes
abbrev pub summary_as : ℕ → ℕ → ℕ → ℕ → ℕ → Summary
summary_as rows chunks blocks end lost = record { rows = rows; chunks = chunks; blocks = blocks; end = end; lost = lost }

-- the same of several datasets, with the rows of each
abbrev pub all_summary_as : List ℕ → ℕ → ℕ → ℕ → ℕ → AllSummary
all_summary_as rows chunks blocks end lost = record { rows = rows; chunks = chunks; blocks = blocks; end = end; lost = lost }
