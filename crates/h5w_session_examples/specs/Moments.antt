-- The files of the examples at their moments, and the log in which a place that was let go is taken again.
use Rattle.std.specs.Prelude.{ℕ, List, [], ◌∷◌, pos, ℤ}
use Rattle.h5w_model.specs.Logs.{Log, appends, plans, shows}
use Rattle.h5w_model.specs.Findings.{Used}
use Rattle.h5w_step_laws.specs.Ranges.{block_at, chunk_at}
use Rattle.h5w_examples.specs.Files.{created_file}
use Rattle.h5w_examples.specs.OneRowFiles.{empty_of_ones, five_of_ones, six_of_ones}
use Rattle.h5w_examples.specs.Readings.{described_by, piece_of, copied_block}
use Rattle.h5w_step_laws.specs.Moments.{Moment}
use Rattle.h5w_session_examples.specs.SevenOfOnes.{seventh_chunk, third_block, super_of_seven, index_of_seven, array_of_seven, header_of_seven}

-- a file of the dataset of an array whose header is at 188 and index block at 260: its rows in a chunk, its end, the ranges behind
-- the blocks in place, the needed chunks' addresses, and its values, each of them a row
abbrev pub file_at : ℕ → ℕ → ℕ → List Used → List ℕ → List ℤ → Moment
file_at in_chunk n last used addresses cells = record {
  super = record { version = 3; flags = 5; end = last; root = 48 };
  place = 106;
  dataset = described_by in_chunk n 188;
  root = block_at 48 58 ∷ [];
  header = block_at 106 82 ∷ [];
  fixed = block_at 188 72 ∷ block_at 260 298 ∷ [];
  behind = used;
  table = addresses;
  values = cells;
}

-- ---- Chunks of two rows

abbrev pub chunks_of_two : List Used
chunks_of_two = chunk_at 558 8 ∷ chunk_at 566 8 ∷ []

abbrev pub with_none : Moment
with_none = file_at 2 0 558 [] [] []

abbrev pub values_of_three : List ℤ
values_of_three = pos 1 ∷ pos 2 ∷ pos 3 ∷ []

abbrev pub values_of_four : List ℤ
values_of_four = pos 1 ∷ pos 2 ∷ pos 3 ∷ pos 4 ∷ []

abbrev pub with_three : Moment
with_three = file_at 2 3 574 chunks_of_two (558 ∷ 566 ∷ []) values_of_three

abbrev pub with_four : Moment
with_four = file_at 2 4 574 chunks_of_two (558 ∷ 566 ∷ []) values_of_four

-- the creation, before any row
abbrev pub created_twos : Log
created_twos = record {
  start = [];
  columns = 1;
  values = [];
  first = 5;
  events =
      shows (piece_of created_file 0 48) ∷ shows (piece_of created_file 48 58) ∷ shows (piece_of created_file 106 82)
      ∷ shows (piece_of created_file 188 72) ∷ shows (piece_of created_file 260 298) ∷ [];
}

-- ---- Chunks of one row

abbrev pub four_chunks : List Used
four_chunks = chunk_at 558 4 ∷ chunk_at 562 4 ∷ chunk_at 566 4 ∷ chunk_at 570 4 ∷ []

-- the fifth chunk stands behind a data block, and so do the sixth and the seventh; the data block is copied each time
abbrev pub behind_five : List Used
behind_five = chunk_at 558 4 ∷ chunk_at 562 4 ∷ chunk_at 566 4 ∷ chunk_at 570 4 ∷ block_at 578 150 ∷ chunk_at 574 4 ∷ []

abbrev pub behind_six : List Used
behind_six = chunk_at 558 4 ∷ chunk_at 562 4 ∷ chunk_at 566 4 ∷ chunk_at 570 4 ∷ block_at 732 150 ∷ chunk_at 574 4 ∷ chunk_at 728 4 ∷ []

abbrev pub behind_seven : List Used
behind_seven = chunk_at 558 4 ∷ chunk_at 562 4 ∷ chunk_at 566 4 ∷ chunk_at 570 4 ∷ block_at 578 150 ∷ chunk_at 574 4 ∷ chunk_at 728 4 ∷ chunk_at 882 4 ∷ []

abbrev pub table_of_five : List ℕ
table_of_five = 558 ∷ 562 ∷ 566 ∷ 570 ∷ 574 ∷ []

abbrev pub table_of_six : List ℕ
table_of_six = 558 ∷ 562 ∷ 566 ∷ 570 ∷ 574 ∷ 728 ∷ []

abbrev pub table_of_seven : List ℕ
table_of_seven = 558 ∷ 562 ∷ 566 ∷ 570 ∷ 574 ∷ 728 ∷ 882 ∷ []

abbrev pub values_of_five : List ℤ
values_of_five = pos 1 ∷ pos 2 ∷ pos 3 ∷ pos 4 ∷ pos 5 ∷ []

abbrev pub values_of_six : List ℤ
values_of_six = pos 1 ∷ pos 2 ∷ pos 3 ∷ pos 4 ∷ pos 5 ∷ pos 6 ∷ []

abbrev pub values_of_seven : List ℤ
values_of_seven = pos 1 ∷ pos 2 ∷ pos 3 ∷ pos 4 ∷ pos 5 ∷ pos 6 ∷ pos 7 ∷ []

abbrev pub ones_of_none : Moment
ones_of_none = file_at 1 0 558 [] [] []

abbrev pub ones_of_five : Moment
ones_of_five = file_at 1 5 728 behind_five table_of_five values_of_five

abbrev pub ones_of_six : Moment
ones_of_six = file_at 1 6 882 behind_six table_of_six values_of_six

abbrev pub ones_of_seven : Moment
ones_of_seven = file_at 1 7 886 behind_seven table_of_seven values_of_seven

-- a third flush, of the row 7: its data block takes the place of the first one again; the newest first
abbrev pub taken_again : Log
taken_again = record copied_block {
  events =
      shows (record { at = 106; piece = header_of_seven }) ∷ shows (record { at = 188; piece = array_of_seven }) ∷ shows (record { at = 260; piece = index_of_seven })
      ∷ shows (record { at = 0; piece = super_of_seven }) ∷ shows (record { at = 578; piece = third_block }) ∷ shows (record { at = 882; piece = seventh_chunk })
      ∷ plans 6 ∷ appends (pos 7 ∷ []) ∷ copied_block.events;
}

-- ---- The logs up to some of their positions

-- the creation, before any row
abbrev pub created_ones : Log
created_ones = record {
  start = [];
  columns = 1;
  values = [];
  first = 5;
  events =
      shows (piece_of empty_of_ones 0 48) ∷ shows (piece_of empty_of_ones 48 58) ∷ shows (piece_of empty_of_ones 106 82)
      ∷ shows (piece_of empty_of_ones 188 72) ∷ shows (piece_of empty_of_ones 260 298) ∷ [];
}

-- the rows 1 2 3 4 5 and their flush
abbrev pub five_flushed : Log
five_flushed = record created_ones {
  events =
      shows (piece_of five_of_ones 106 82) ∷ shows (piece_of five_of_ones 188 72) ∷ shows (piece_of five_of_ones 260 298)
      ∷ shows (piece_of five_of_ones 0 48) ∷ shows (piece_of five_of_ones 578 150) ∷ shows (piece_of five_of_ones 574 4)
      ∷ shows (piece_of five_of_ones 570 4) ∷ shows (piece_of five_of_ones 566 4) ∷ shows (piece_of five_of_ones 562 4)
      ∷ shows (piece_of five_of_ones 558 4) ∷ plans 10 ∷ appends values_of_five ∷ created_ones.events;
}

-- the row 6 is appended and its flush planned; its chunk and the copy of the data block are written
abbrev pub copied_only : Log
copied_only = record created_ones {
  events =
      shows (piece_of six_of_ones 732 150) ∷ shows (piece_of six_of_ones 728 4) ∷ plans 6 ∷ appends (pos 6 ∷ []) ∷ five_flushed.events;
}

-- the same with the superblock and the index block, which names the copy
abbrev pub copy_named : Log
copy_named = record created_ones { events = shows (piece_of six_of_ones 260 298) ∷ shows (piece_of six_of_ones 0 48) ∷ copied_only.events }

-- a flush that leaves out the blocks in place: its last piece is to be the header
abbrev pub never_named : Log
never_named = record created_ones {
  events =
      shows (piece_of six_of_ones 0 48) ∷ shows (piece_of six_of_ones 732 150) ∷ shows (piece_of six_of_ones 728 4)
      ∷ plans 4 ∷ appends (pos 6 ∷ []) ∷ five_flushed.events;
}

-- the files at them
abbrev pub ones_ended : Moment
ones_ended = file_at 1 5 882 behind_five table_of_five values_of_five

abbrev pub ones_named : Moment
ones_named = file_at 1 5 882 behind_six table_of_five values_of_five
