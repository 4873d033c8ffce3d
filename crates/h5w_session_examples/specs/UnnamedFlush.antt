-- A fourth row in a file whose array is not there yet, as the parts of a flush. Its pieces are those of a program from outside.
use Rattle.std.specs.Prelude.{◌≡◌, ℕ, false, List, [], ◌∷◌, get_or, Some, pos}
use Rattle.h5w_model.specs.Numbers.{range, undefined}
use Rattle.h5w_model.specs.Images.{apply, image}
use Rattle.h5w_model.specs.Findings.{Valid}
use Rattle.h5w_model.specs.declared.cell.Key.{Key}
use Rattle.h5w_model.specs.declared.piece.Write.{Write}
use Rattle.h5w_chunks.specs.declared.grid.ChunkPlace.{ChunkPlace}
use Rattle.h5w_examples.specs.Readings.{data_name, described_by, piece_of, summary_as}
use Rattle.h5w_step_laws.specs.Ranges.{block_at, chunk_at}
use Rattle.h5w_step_laws.specs.Moments.{Moment, Represents}
use Rattle.h5w_step_laws.specs.Steps.{Ends}
use Rattle.h5w_flush_laws.specs.Knowledge.{Knows}
use Rattle.h5w_flush_laws.specs.Parts.{Parts, flushed_to, pieces_of, IsFlush}
use Rattle.h5w_session_examples.specs.FirstFlush.{places_to}
use Rattle.h5w_first_flush_laws.specs.FirstFlushes.{no_chunk}
use Rattle.h5w_examples.specs.Files.{file_with_times as unnamed_file}
use Rattle.h5w_session_examples.specs.Bytes.{opened_super, named_file}

-- the file as it was found, and while a writer has it open; rows that have no chunk are read as the fill
abbrev pub of_three : ℕ → Moment
of_three flags = record {
  super = record { version = 3; flags = flags; end = 240; root = 48 };
  place = 106;
  dataset = described_by 2 3 undefined;
  root = block_at 48 58 ∷ [];
  header = block_at 106 134 ∷ [];
  fixed = [];
  behind = [];
  table = undefined ∷ undefined ∷ [];
  values = pos 0 ∷ pos 0 ∷ pos 0 ∷ [];
}

abbrev pub found : Moment
found = of_three 0

abbrev pub open_to_write : Moment
open_to_write = of_three 5

-- the piece by which a writer opens it
abbrev pub opening_piece : Write
opening_piece = record { at = 0; piece = opened_super }

abbrev pub opened_file : List ℕ
opened_file = apply opening_piece unnamed_file

-- the same with a fourth row: the second chunk is there, and the first is not
abbrev pub with_seven : Moment
with_seven = record {
  super = record { version = 3; flags = 5; end = 618; root = 48 };
  place = 106;
  dataset = described_by 2 4 546;
  root = block_at 48 58 ∷ [];
  header = block_at 106 134 ∷ [];
  fixed = block_at 546 72 ∷ block_at 248 298 ∷ [];
  behind = chunk_at 240 8 ∷ [];
  table = undefined ∷ 240 ∷ [];
  values = pos 0 ∷ pos 0 ∷ pos 0 ∷ pos 7 ∷ [];
}

abbrev pub second_chunk : Key → ℕ
second_chunk key = get_or (undefined ∷ 240 ∷ undefined ∷ undefined ∷ []) key.i undefined

abbrev pub new_place : List ChunkPlace
new_place = record { address = 240; stored = false } ∷ []

abbrev pub fourth_row : Parts
fourth_row = record {
  rows = 4;
  more = pos 7 ∷ [];
  writes = piece_of named_file 240 8 ∷ [];
  chunks = chunk_at 240 8 ∷ [];
  copies = (248, range named_file 248 298) ∷ (546, range named_file 546 72) ∷ [];
  supers = piece_of named_file 0 48 ∷ [];
  end = 618;
  in_place = [];
  named = Some 546;
  address = second_chunk;
  fixed = block_at 546 72 ∷ block_at 248 298 ∷ [];
  behind = chunk_at 240 8 ∷ [];
}

-- The file is valid, and a writer's superblock leaves it; it is known then, and these are parts of a flush, which leads to the file of four
-- rows by these pieces: the chunk, whose first row has the fill, the two blocks of the array, the superblock, and last the header. They
-- make the bytes of the valid file of four rows, one chunk and five blocks.
pub record IsUnnamedFlush : Type 0 where
  pub valid : Valid unnamed_file data_name (summary_as 3 0 3 240)
  pub file : Represents unnamed_file data_name found
  pub opens : Ends unnamed_file found opening_piece open_to_write
  pub known : Knows opened_file data_name open_to_write no_chunk (places_to 240)
  pub flush : IsFlush opened_file open_to_write no_chunk (places_to 240) fourth_row (places_to 618)
  pub leads : flushed_to open_to_write fourth_row ≡ with_seven
  pub pieces : pieces_of opened_file open_to_write fourth_row
      ≡ piece_of named_file 240 8 ∷ piece_of named_file 248 298 ∷ piece_of named_file 546 72 ∷ piece_of named_file 0 48 ∷ piece_of named_file 106 134 ∷ []
  pub bytes : image opened_file (pieces_of opened_file open_to_write fourth_row) ≡ named_file
  pub valid_then : Valid named_file data_name (summary_as 4 1 5 618)
