-- The same flush by the calls of an array: what they give is what the laws of a first flush ask.
use Rattle.std.specs.Prelude.{◌≡◌, true, List}
use Rattle.h5w_model.specs.declared.piece.Write.{Write}
use Rattle.h5w_space.specs.Space.{Space}
use Rattle.h5w_cache.specs.Stores.{Store, is_changed}
use Rattle.h5w_cache.specs.declared.moves.Move.{Move}
use Rattle.h5w_examples.specs.Readings.{data_name}
use Rattle.h5w_array_laws.specs.Parts.{holder, number_of}
use Rattle.h5w_array_laws.specs.ArrayStores.{IsArray, IsCreated}
use Rattle.h5w_array_laws.specs.ArrayPlans.{IsArrayPlan}
use Rattle.h5w_ea_index.specs.Steps.{IsHeld, IsSet}
use Rattle.h5w_flush_laws.specs.Parts.{AreEnded}
use Rattle.h5w_session_examples.specs.FirstFlush.{places_to}
use Rattle.h5w_first_flush_laws.specs.StartFlushes.{IsStarted, parts_for}
use Rattle.h5w_first_flush_laws.specs.StartCalls.{CallsStart}
use Rattle.h5w_session_examples.specs.UnnamedFlush.{open_to_write, opened_file, fourth_row, new_place}

-- The array is made, its index block at 248 and its header at 546; the second chunk's slot is held, and gets the address 240; and the changed
-- blocks are planned.
pub record AreCalls (u h v : Store) (ms : List Move) (cs fixed : List Write) (w : Store) (t : Space) : Type 0 where
  pub made : IsCreated 546 248 u
  pub held : IsHeld u h
  pub changed : is_changed h (number_of (holder 1)) ≡ true
  pub named : IsSet 1 240 h v
  pub array : IsArray v
  pub plan : IsArrayPlan v (places_to 618) ms cs fixed w t

-- they start the array of this file, and lead to the file with the fourth row
pub record StartIt (u v : Store) (ms : List Move) (cs fixed supers : List Write) (w : Store) (t : Space) : Type 0 where
  pub calls : CallsStart opened_file data_name open_to_write (places_to 240) (places_to 618) u v ms w t 4 fourth_row.more fourth_row.writes new_place cs fixed supers
  pub started : IsStarted opened_file data_name open_to_write open_to_write.behind t w (parts_for open_to_write w 4 fourth_row.more fourth_row.writes new_place calls.copies supers t.end)

abbrev pub ArrayStarts : Type 0
ArrayStarts = (u h v w : Store) (ms : List Move) (cs fixed supers : List Write) (t : Space) → AreCalls u h v ms cs fixed w t → AreEnded open_to_write.super t.end supers → StartIt u v ms cs fixed supers w t
