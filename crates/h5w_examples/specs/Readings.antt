-- What the files show, and the log that made them.
use Rattle.std.specs.Prelude.{ℕ, true, false, List, [], ◌∷◌, pos, None, codes}
use Rattle.h5w_model.specs.Numbers.{range}
use Rattle.h5w_model.specs.Logs.{Log, appends, plans, shows}
use Rattle.h5w_model.specs.Datasets.{Described}
use Rattle.h5w_model.specs.Tables.{Reading}
use Rattle.h5w_model.specs.Findings.{Summary}
use Rattle.h5w_model.specs.declared.cell.IndexKind.TheVariants.{Array}
use Rattle.h5w_model.specs.declared.piece.Write.{Write}
use Rattle.h5w_examples.specs.Files.{created_file, file_of_three, file_of_four}
use Rattle.h5w_examples.specs.OneRowFiles.{empty_of_ones, five_of_ones, six_of_ones}

-- the dataset's name
abbrev pub data_name : List ℕ
data_name = codes "data"

-- so many rows of 32-bit integers, so many of them in a chunk, and an array whose header is at this address
abbrev pub described_by : ℕ → ℕ → ℕ → Described
described_by in_chunk n header = record {
  shape = record { rank = 1; rows = n; cols = 1; growing = false };
  int_type = record { size = 4; big = false; signed = true };
  fill = record { value = None };
  layout = record { chunk_rows = in_chunk; chunk_cols = 1; index = Array; address = header; place = 13 };
}

-- two rows in a chunk
abbrev pub described_as : ℕ → ℕ → Described
described_as n header = described_by 2 n header

-- such a dataset, with the addresses of its chunks
abbrev pub reading_as : ℕ → ℕ → List ℕ → Reading
reading_as n header addresses = record { place = 106; dataset = described_as n header; table = addresses }

-- one row in a chunk
abbrev pub one_row_reading : ℕ → List ℕ → Reading
one_row_reading n addresses = record { place = 106; dataset = described_by 1 n 188; table = addresses }

abbrev pub summary_as : ℕ → ℕ → ℕ → ℕ → Summary
summary_as n count used address = record { rows = n; chunks = count; blocks = used; end = address; lost = 0 }

-- the bytes of a file at a place, as a piece
abbrev pub piece_of : List ℕ → ℕ → ℕ → Write
piece_of file place n = record { at = place; piece = range file place n }

-- the creation, the rows 1 2 3 and their flush, the row 4 and its flush; the newest first
abbrev pub two_flushes : Log
two_flushes = record {
  start = [];
  columns = 1;
  values = [];
  first = 5;
  events =
      shows (piece_of file_of_four 106 82) ∷ shows (piece_of file_of_four 570 4) ∷ plans 2 ∷ appends (pos 4 ∷ [])
      ∷ shows (piece_of file_of_three 106 82) ∷ shows (piece_of file_of_three 188 72) ∷ shows (piece_of file_of_three 260 298)
      ∷ shows (piece_of file_of_three 0 48) ∷ shows (piece_of file_of_three 566 8) ∷ shows (piece_of file_of_three 558 8)
      ∷ plans 6 ∷ appends (pos 1 ∷ pos 2 ∷ pos 3 ∷ [])
      ∷ shows (piece_of created_file 0 48) ∷ shows (piece_of created_file 48 58) ∷ shows (piece_of created_file 106 82)
      ∷ shows (piece_of created_file 188 72) ∷ shows (piece_of created_file 260 298) ∷ [];
}

-- the creation, the rows 1 2 3 4 5 and their flush, the row 6 and its flush, which copies the data block that names the
-- fifth chunk; the newest first
abbrev pub copied_block : Log
copied_block = record {
  start = [];
  columns = 1;
  values = [];
  first = 5;
  events =
      shows (piece_of six_of_ones 106 82) ∷ shows (piece_of six_of_ones 188 72) ∷ shows (piece_of six_of_ones 260 298)
      ∷ shows (piece_of six_of_ones 0 48) ∷ shows (piece_of six_of_ones 732 150) ∷ shows (piece_of six_of_ones 728 4)
      ∷ plans 6 ∷ appends (pos 6 ∷ [])
      ∷ shows (piece_of five_of_ones 106 82) ∷ shows (piece_of five_of_ones 188 72) ∷ shows (piece_of five_of_ones 260 298)
      ∷ shows (piece_of five_of_ones 0 48) ∷ shows (piece_of five_of_ones 578 150) ∷ shows (piece_of five_of_ones 574 4)
      ∷ shows (piece_of five_of_ones 570 4) ∷ shows (piece_of five_of_ones 566 4) ∷ shows (piece_of five_of_ones 562 4)
      ∷ shows (piece_of five_of_ones 558 4) ∷ plans 10 ∷ appends (pos 1 ∷ pos 2 ∷ pos 3 ∷ pos 4 ∷ pos 5 ∷ [])
      ∷ shows (piece_of empty_of_ones 0 48) ∷ shows (piece_of empty_of_ones 48 58) ∷ shows (piece_of empty_of_ones 106 82)
      ∷ shows (piece_of empty_of_ones 188 72) ∷ shows (piece_of empty_of_ones 260 298) ∷ [];
}
