-- The first flush of a created file, as its parts: three rows in two new chunks, which an array's index block names. Its pieces are those
-- of a log from outside.
use Rattle.std.specs.Prelude.{◌≡◌, ℕ, false, List, [], ◌∷◌, get_or, None}
use Rattle.h5w_model.specs.Numbers.{undefined}
use Rattle.h5w_model.specs.declared.cell.Key.{Key}
use Rattle.h5w_space.specs.Space.{Space}
use Rattle.h5w_chunks.specs.declared.grid.ChunkPlace.{ChunkPlace}
use Rattle.h5w_examples.specs.Files.{file_of_three}
use Rattle.h5w_examples.specs.Readings.{data_name, piece_of}
use Rattle.h5w_step_laws.specs.Ranges.{block_at}
use Rattle.h5w_step_laws.specs.Logs.{image_now}
use Rattle.h5w_session_examples.specs.Moments.{chunks_of_two, with_none, with_three, created_twos, values_of_three}
use Rattle.h5w_flush_laws.specs.Knowledge.{Knows}
use Rattle.h5w_flush_laws.specs.Parts.{Parts, flushed_to, pieces_of, IsFlush}

-- places that end there, with nothing free
abbrev pub places_to : ℕ → Space
places_to last = record { end = last; limit = 2048; free = []; retired = []; spare = 0 }

-- an index without chunks, and one with two
abbrev pub no_address : Key → ℕ
no_address key = undefined

abbrev pub two_addresses : Key → ℕ
two_addresses key = get_or (558 ∷ 566 ∷ undefined ∷ undefined ∷ []) key.i undefined

-- the two chunks, both new
abbrev pub two_places : List ChunkPlace
two_places = record { address = 558; stored = false } ∷ record { address = 566; stored = false } ∷ []

abbrev pub first_parts : Parts
first_parts = record {
  rows = 3;
  more = values_of_three;
  writes = piece_of file_of_three 558 8 ∷ piece_of file_of_three 566 8 ∷ [];
  chunks = chunks_of_two;
  copies = [];
  supers = piece_of file_of_three 0 48 ∷ [];
  end = 574;
  in_place = piece_of file_of_three 260 298 ∷ piece_of file_of_three 188 72 ∷ [];
  named = None;
  address = two_addresses;
  fixed = block_at 188 72 ∷ block_at 260 298 ∷ [];
  behind = chunks_of_two;
}

-- The created file is known, these are parts of a flush, which leads to the file of three rows, and its pieces are these.
pub record IsFirstFlush : Type 0 where
  pub known : Knows (image_now created_twos) data_name with_none no_address (places_to 558)
  pub flush : IsFlush (image_now created_twos) with_none no_address (places_to 558) first_parts (places_to 574)
  pub leads : flushed_to with_none first_parts ≡ with_three
  pub pieces : pieces_of (image_now created_twos) with_none first_parts
      ≡ piece_of file_of_three 558 8 ∷ piece_of file_of_three 566 8 ∷ piece_of file_of_three 0 48 ∷ piece_of file_of_three 260 298 ∷ piece_of file_of_three 188 72 ∷ piece_of file_of_three 106 82 ∷ []
