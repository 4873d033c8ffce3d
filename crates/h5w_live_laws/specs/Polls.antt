-- What a reader's calls through one seat come to: its looks, at the pieces that the seat had seen, and the lines that tell of them.
use Rattle.std.specs.Prelude.{◌≡◌, ℕ, ◌+◌, ◌-◌, List, [], ◌∷◌, length, map, min, Option, Some, Result, Ok, Err, ℤ, ◌+ℤ◌}
use Rattle.std.specs.Int.{int_wrap, w128}
use Rattle.h5w_model.specs.Agrees.{total}
use Rattle.h5w_model.specs.Calls.{rows_seen}
use Rattle.h5w_model.specs.Programs.{Look, Prog, Takes}
use Rattle.h5w_model.specs.Tables.{Reading}
use Rattle.h5w_model.specs.Unfinished.{ReaderRules, rows_program, values_program}
use Rattle.h5w_model.specs.declared.piece.Write.{Write}
use Rattle.h5w_model.specs.declared.refusal.ReadError.{ReadError}
use Rattle.h5w_model.specs.declared.refusal.ReadError.TheVariants as refusals
use Rattle.h5w_model.specs.declared.report.Poll.{Poll}
use Rattle.h5w_model.specs.declared.report.Poll.TheVariants as polls
use Rattle.h5w_model.specs.declared.report.PollLine.{PollLine}
use Rattle.h5w_shared.specs.Threads.{Sight, Sights, seen_after}

abbrev pub looks_in : List Sight → List Look
looks_in ss = map (λ s. s.look) ss

-- Looks through a seat that had seen these pieces, of an image that began with these bytes, after which it has seen those.
pub record LooksThrough (start : List ℕ) (before after : List Write) (ss : List Sight) : Type 0 where
  pub sights : Sights start before ss
  pub ends : after ≡ seen_after before ss

-- so many rows of a reading were known before it
abbrev pub old_rows : Option Reading → Reading → ℕ
old_rows known r = min (rows_seen known) r.dataset.shape.rows

-- The values of the rows of a reading that were not known before it.
abbrev pub new_values : Option Reading → Reading → Prog (Result (List ℤ) ReadError)
new_values known r = values_program (Some r) (old_rows known r) (r.dataset.shape.rows - old_rows known r)

-- The call for rows found a reading, and a read of its new rows gave values. The sum of these and of what was told before them is told, as the
-- signed numbers of 128 bits count.
pub record FindsRows (g : ReaderRules) (start : List ℕ) (known : Option Reading) (told : ℤ) (before after : List Write) (next : Option Reading) (rows : ℕ) (sum : ℤ) : Type 0 where
  pub between : List Write
  pub looks : List Sight
  pub looked : LooksThrough start before between looks
  pub reading : Reading
  pub answer : Takes (rows_program g known) (looks_in looks) (Ok reading)
  pub reads : List Sight
  pub read : LooksThrough start between after reads
  pub values : List ℤ
  pub gives : Takes (new_values known reading) (looks_in reads) (Ok values)
  pub knows : next ≡ Some reading
  pub rows_are : rows ≡ reading.dataset.shape.rows
  pub sums : sum ≡ int_wrap w128 (told +ℤ total values)

-- The call gave up, and what was known is known.
pub record GivesUpAfter (g : ReaderRules) (start : List ℕ) (known : Option Reading) (before after : List Write) (next : Option Reading) (attempts : ℕ) : Type 0 where
  pub looks : List Sight
  pub looked : LooksThrough start before after looks
  pub place : ℕ
  pub first : ℕ
  pub last : ℕ
  pub answer : Takes (rows_program g known) (looks_in looks) (Err (refusals.Again attempts place first last))
  pub knows : next ≡ known

abbrev pub AnswersPoll : ReaderRules → List ℕ → Option Reading → ℤ → (before after : List Write) → Option Reading → Poll → Type 0
AnswersPoll g start known told before after next (polls.Rows rows sum) = FindsRows g start known told before after next rows sum
AnswersPoll g start known told before after next (polls.Again attempts) = GivesUpAfter g start known before after next attempts

-- the sum that was told last, after an answer and after all lines
abbrev pub told_after : ℤ → Poll → ℤ
told_after told (polls.Rows rows sum) = sum
told_after told (polls.Again attempts) = told

abbrev pub sum_after : ℤ → List PollLine → ℤ
sum_after told [] = told
sum_after told (line ∷ lines) = sum_after (told_after told line.answer) lines

-- a line tells of a reader's call
pub record TellsPoll (g : ReaderRules) (start : List ℕ) (reader call : ℕ) (known : Option Reading) (told : ℤ) (before : List Write) (line : PollLine) (next : Option Reading) (after : List Write) : Type 0 where
  pub reader_is : line.reader ≡ reader
  pub call_is : line.poll ≡ call
  pub before_is : line.before ≡ length before
  pub after_is : line.after ≡ length after
  pub answers : AnswersPoll g start known told before after next line.answer

-- The lines tell of a reader's calls, this one and those behind it: each begins with what the one before it left known, told and seen.
abbrev pub TellPolls : ReaderRules → List ℕ → (reader call : ℕ) → Option Reading → ℤ → List Write → List PollLine → Option Reading → List Write → Type 0
TellPolls g start reader call known told before [] next after = (next ≡ known) × (after ≡ before)
TellPolls g start reader call known told before (line ∷ lines) next after =
    (k : Option Reading) × (seen : List Write) × TellsPoll g start reader call known told before line k seen × TellPolls g start reader (call + 1) k (told_after told line.answer) seen lines next after
