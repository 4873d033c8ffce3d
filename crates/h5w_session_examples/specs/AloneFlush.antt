-- A fourth row in a file whose array is a header alone, by the calls of the array.
use Rattle.std.specs.Prelude.{◌≡◌, ℕ, true, false, List, [], ◌∷◌, pos, ℤ}
use Rattle.h5w_model.specs.Numbers.{undefined}
use Rattle.h5w_model.specs.Images.{apply}
use Rattle.h5w_model.specs.Findings.{Valid}
use Rattle.h5w_model.specs.declared.piece.Write.{Write}
use Rattle.h5w_chunks.specs.declared.grid.ChunkPlace.{ChunkPlace}
use Rattle.h5w_examples.specs.Readings.{data_name, described_by, summary_as}
use Rattle.h5w_step_laws.specs.Ranges.{block_at}
use Rattle.h5w_space.specs.Space.{Space}
use Rattle.h5w_cache.specs.Stores.{Store, is_changed}
use Rattle.h5w_cache.specs.declared.moves.Move.{Move}
use Rattle.h5w_step_laws.specs.Moments.{Moment, Represents}
use Rattle.h5w_step_laws.specs.Steps.{Ends}
use Rattle.h5w_array_laws.specs.Parts.{holder, number_of}
use Rattle.h5w_array_laws.specs.ArrayStores.{IsArray, IsCreated}
use Rattle.h5w_array_laws.specs.ArrayPlans.{IsArrayPlan}
use Rattle.h5w_ea_index.specs.Steps.{IsHeld, IsSet}
use Rattle.h5w_flush_laws.specs.Parts.{AreEnded}
use Rattle.h5w_session_examples.specs.FirstFlush.{places_to}
use Rattle.h5w_first_flush_laws.specs.StartFlushes.{IsStarted}
use Rattle.h5w_first_flush_laws.specs.HeaderAlone.{AloneKnows}
use Rattle.h5w_first_flush_laws.specs.BlockFlushes.{block_parts_for}
use Rattle.h5w_first_flush_laws.specs.BlockCalls.{CallsBlock}
use Rattle.h5w_session_examples.specs.AloneBytes.{alone_file, alone_super}

-- the file as it was found, and while a writer has it open; rows that have no chunk are read as the fill
abbrev pub alone_with : ℕ → Moment
alone_with flags = record {
  super = record { version = 3; flags = flags; end = 312; root = 48 };
  place = 106;
  dataset = described_by 2 3 240;
  root = block_at 48 58 ∷ [];
  header = block_at 106 134 ∷ [];
  fixed = block_at 240 72 ∷ [];
  behind = [];
  table = undefined ∷ undefined ∷ [];
  values = pos 0 ∷ pos 0 ∷ pos 0 ∷ [];
}

abbrev pub alone_found : Moment
alone_found = alone_with 0

abbrev pub alone_to_write : Moment
alone_to_write = alone_with 5

-- the piece by which a writer opens it
abbrev pub alone_piece : Write
alone_piece = record { at = 0; piece = alone_super }

abbrev pub alone_opened : List ℕ
alone_opened = apply alone_piece alone_file

-- The file is valid, and a writer's superblock leaves it; it is known then.
pub record IsAloneFile : Type 0 where
  pub valid : Valid alone_file data_name (summary_as 3 0 4 312)
  pub file : Represents alone_file data_name alone_found
  pub opens : Ends alone_file alone_found alone_piece alone_to_write
  pub known : AloneKnows alone_opened data_name alone_to_write (places_to 312)

-- The fourth row, whose chunk is at 610: its first row has the fill.
abbrev pub seven : List ℤ
seven = pos 7 ∷ []

abbrev pub seven_place : List ChunkPlace
seven_place = record { address = 610; stored = false } ∷ []

abbrev pub seven_writes : List Write
seven_writes = record { at = 610; piece = 0 ∷ 0 ∷ 0 ∷ 0 ∷ 7 ∷ 0 ∷ 0 ∷ 0 ∷ [] } ∷ []

-- The array is made, its index block at 312; the second chunk's slot is held, and gets the address 610; and the changed blocks are planned.
pub record AreAloneCalls (u h v : Store) (ms : List Move) (cs fixed : List Write) (w : Store) (t : Space) : Type 0 where
  pub made : IsCreated 240 312 u
  pub held : IsHeld u h
  pub changed : is_changed h (number_of (holder 1)) ≡ true
  pub named : IsSet 1 610 h v
  pub array : IsArray v
  pub plan : IsArrayPlan v (places_to 618) ms cs fixed w t

-- they are such a flush of this file, and lead to the file with the fourth row
pub record BlockIt (u v : Store) (ms : List Move) (cs fixed supers : List Write) (w : Store) (t : Space) : Type 0 where
  pub calls : CallsBlock alone_opened data_name alone_to_write (places_to 312) (places_to 618) u v ms w t 4 seven seven_writes seven_place cs fixed supers
  pub started : IsStarted alone_opened data_name alone_to_write alone_to_write.behind t w (block_parts_for alone_to_write w 4 seven seven_writes seven_place calls.copies supers t.end)

abbrev pub BlockStarts : Type 0
BlockStarts = (u h v w : Store) (ms : List Move) (cs fixed supers : List Write) (t : Space) → AreAloneCalls u h v ms cs fixed w t → AreEnded alone_to_write.super t.end supers → BlockIt u v ms cs fixed supers w t
