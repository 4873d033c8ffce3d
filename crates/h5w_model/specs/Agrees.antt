-- What a run in threads reports of its writer and its readers, and when it agrees with the batches of rows that were handed to it.
use Rattle.std.specs.Prelude.{◌≡◌, ℕ, ◌+◌, ◌*◌, ◌/◌, ◌<◌, ◌≤◌, List, [], ◌∷◌, ◌++◌, length, take, drop, ℤ, pos, ◌+ℤ◌, nat_le, nat_lt, ◌&&◌, if◌then◌else◌}
use Rattle.h5w_model.specs.declared.report.FlushLine.{FlushLine}
use Rattle.h5w_model.specs.declared.report.Poll.{Poll}
use Rattle.h5w_model.specs.declared.report.Poll.TheVariants as polls
use Rattle.h5w_model.specs.declared.report.PollLine.{PollLine}

-- the values of all batches, one batch after another
abbrev pub values_in : List (List ℤ) → List ℤ
values_in [] = []
values_in (vs ∷ batches) = vs ++ values_in batches

-- Batches of so many columns behind so many pieces and rows, and their flushes: one for each batch that is not empty, behind more pieces
-- than the one before, with the rows up to its batch.
abbrev pub FlushesAgree : (columns pieces rows : ℕ) → List (List ℤ) → List FlushLine → Type 0
FlushesAgree columns pieces rows [] [] = Unit {0}
FlushesAgree columns pieces rows [] (f ∷ fs) = ⊥
FlushesAgree columns pieces rows ([] ∷ batches) fs = FlushesAgree columns pieces rows batches fs
FlushesAgree columns pieces rows ((v ∷ vs) ∷ batches) [] = ⊥
FlushesAgree columns pieces rows ((v ∷ vs) ∷ batches) (f ∷ fs) =
    (pieces < f.pieces) × (f.rows ≡ rows + length (v ∷ vs) / columns) × FlushesAgree columns f.pieces f.rows batches fs

-- the rows of the last flush that was whole once so many pieces were visible, and `before` where none was
abbrev pub rows_after : ℕ → ℕ → List FlushLine → ℕ
rows_after before p [] = before
rows_after before p (f ∷ fs) = rows_after (if nat_le f.pieces p then f.rows else before) p fs

-- how many flushes became whole behind `before` pieces, and by `after`
abbrev pub flushes_within : ℕ → ℕ → List FlushLine → ℕ
flushes_within before after [] = 0
flushes_within before after (f ∷ fs) = (if nat_lt before f.pieces && nat_le f.pieces after then 1 else 0) + flushes_within before after fs

abbrev pub total : List ℤ → ℤ
total [] = pos 0
total (v ∷ vs) = v +ℤ total vs

-- What a run was asked for: columns, attempts of a call, readers, calls of each reader; and what it did: the pieces of the creation, all
-- values and the flushes.
pub record Run : Type 0 where
  pub columns : ℕ
  pub attempts : ℕ
  pub readers : ℕ
  pub calls : ℕ
  pub first : ℕ
  pub values : List ℤ
  pub flushes : List FlushLine

-- rows of a flush that was the last one at some moment of the call, no fewer than the reader had seen, and the sum of their values
pub record IsRowsOf (run : Run) (seen : ℕ) (line : PollLine) (rows : ℕ) (sum : ℤ) : Type 0 where
  pub moment : ℕ
  pub from : line.before ≤ moment
  pub to : moment ≤ line.after
  pub is : rows ≡ rows_after 0 moment run.flushes
  pub since : seen ≤ rows
  pub sums : sum ≡ total (take (rows * run.columns) run.values)

-- a flush became whole at least once an attempt during the call
pub record IsAgainOf (run : Run) (line : PollLine) (attempts : ℕ) : Type 0 where
  pub is : attempts ≡ run.attempts
  pub changes : attempts ≤ flushes_within line.before line.after run.flushes

abbrev pub AnswerAgrees : Run → ℕ → PollLine → Poll → Type 0
AnswerAgrees run seen line (polls.Rows rows sum) = IsRowsOf run seen line rows sum
AnswerAgrees run seen line (polls.Again attempts) = IsAgainOf run line attempts

-- the rows that a reader has seen after an answer
abbrev pub seen_after : ℕ → Poll → ℕ
seen_after seen (polls.Rows rows sum) = rows
seen_after seen (polls.Again attempts) = seen

-- a reader's call: which one it is, behind so many pieces and rows that the reader had seen
pub record IsPoll (run : Run) (reader call pieces seen : ℕ) (line : PollLine) : Type 0 where
  pub reader_is : line.reader ≡ reader
  pub call_is : line.poll ≡ call
  pub later : pieces ≤ line.before
  pub ends : line.before ≤ line.after
  pub answer : AnswerAgrees run seen line line.answer

-- the calls of a reader from this one on
abbrev pub ReaderAgrees : Run → (reader call pieces seen : ℕ) → List PollLine → Type 0
ReaderAgrees run reader call pieces seen [] = Unit {0}
ReaderAgrees run reader call pieces seen (line ∷ lines) =
    IsPoll run reader call pieces seen line × ReaderAgrees run reader (call + 1) line.after (seen_after seen line.answer) lines

-- The flushes are those of the batches, and of each reader in turn there is a line for each call, which agrees with them. The first
-- calls come once the creation is visible.
pub record Agrees (run : Run) (batches : List (List ℤ)) (lines : List PollLine) : Type 0 where
  pub values : run.values ≡ values_in batches
  pub flushes : FlushesAgree run.columns run.first 0 batches run.flushes
  pub count : length lines ≡ run.readers * run.calls
  pub each : (k : ℕ) → k < run.readers → ReaderAgrees run (k + 1) 1 run.first 0 (take run.calls (drop (k * run.calls) lines))
