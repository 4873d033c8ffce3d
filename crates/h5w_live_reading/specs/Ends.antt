-- What comes of the readers of a run in threads: their lines, reader after reader, and a note of what each seat had seen in the end.
use Rattle.std.specs.Prelude.{◌≡◌, ℕ, ◌+◌, ◌*◌, ◌<◌, List, length, take, drop, get_or, IfOk, Result, Err}
use Rattle.h5w_model.specs.Unfinished.{ReaderRules}
use Rattle.h5w_model.specs.declared.piece.Write.{Write}
use Rattle.h5w_model.specs.declared.report.PollLine.{PollLine}
use Rattle.h5w_shared.specs.Seats.{ImageId, NoteView}
use Rattle.h5w_live_reading.specs.Reading.{Polled, Strays}
use Rattle.h5w_live_reading.specs.declared.actors.Ended.{Ended}
use Rattle.h5w_live_reading.specs.declared.actors.AllEnded.{AllEnded}
use Rattle.h5w_live_reading.specs.declared.actors.Cut.{Cut}
use Rattle.h5w_live_reading.specs.declared.actors.Cut.TheVariants as cuts

-- The reader of this number, whose seat had seen these pieces, made its calls, of which the lines tell. The note is of what its seat had
-- seen in the end.
pub record EndsWith (g : ReaderRules) (i : ImageId) (reader : ℕ) (seen : List Write) (note : NoteView) (lines : List PollLine) : Type 0 where
  pub image : note.image ≡ i
  pub polled : Polled g i.start reader seen note.seen lines

-- a call of some reader was refused as none is over the log of a writer
pub record StraysWith (g : ReaderRules) (i : ImageId) (seen : List Write) (note : NoteView) : Type 0 where
  pub image : note.image ≡ i
  pub reader : ℕ
  pub strays : Strays g i.start reader seen note.seen

-- what comes of one reader
pub record ReaderEnds (g : ReaderRules) (i : ImageId) (calls reader : ℕ) (seen : List Write) (r : Result Ended Cut) : Type 0 where
  pub count : IfOk r (λ e. length e.lines.items ≡ calls)
  pub ends : IfOk r (λ e. EndsWith g i reader seen e.note e.lines.items)
  pub stray : (note : NoteView) → r ≡ Err (cuts.Stray note) → StraysWith g i seen note

-- the lines and notes of so many readers behind those before them
pub record EndWith (g : ReaderRules) (i : ImageId) (before calls readers : ℕ) (seen : List Write) (notes : List NoteView) (lines : List PollLine) : Type 0 where
  pub notes_count : length notes ≡ readers
  pub lines_count : length lines ≡ readers * calls
  pub each : (k : ℕ) (d : NoteView) → k < readers → EndsWith g i (before + k + 1) seen (get_or notes k d) (take calls (drop (k * calls) lines))

-- what comes of them
pub record ReadersEnd (g : ReaderRules) (i : ImageId) (before calls readers : ℕ) (seen : List Write) (r : Result AllEnded Cut) : Type 0 where
  pub end : IfOk r (λ e. EndWith g i before calls readers seen e.notes.items e.lines.items)
  pub stray : (note : NoteView) → r ≡ Err (cuts.Stray note) → StraysWith g i seen note
