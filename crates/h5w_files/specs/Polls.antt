-- What a poll of a file tells.
use Rattle.std.specs.Prelude.{◌≡◌, ◌⊎◌, ℕ, zero, suc, ◌-◌, ◌/◌, ◌≤◌, Bool, ◌&&◌, List, [], ◌∷◌, ◌++◌, length, codes, nat_lt, if◌then◌else◌, Option, Some, None, IfSome, IfErr, Result, Ok, Err, ℤ}
use Rattle.h5w_model.specs.Causes.{Rose}
use Rattle.h5w_model.specs.Checked.{viewed}
use Rattle.h5w_model.specs.Datasets.{refused_as, then_also}
use Rattle.h5w_model.specs.Programs.{eval}
use Rattle.h5w_model.specs.Tables.{Reading, reading}
use Rattle.h5w_model.specs.Unfinished.{ReaderRules, values_program}
use Rattle.h5w_model.specs.declared.refusal.ReadError.{ReadError}
use Rattle.h5w_image.specs.View.{DiskView, file}
use Rattle.h5w_reader.specs.Readers.{reader_rules}
use Rattle.h5w_text.specs.Errors.{error_text}
use Rattle.h5w_text.specs.Streams.{SinkView}
use Rattle.h5w_text.specs.Table.{numbers_text, rows_text}
use Rattle.h5w_text.specs.declared.error.ErrorLine.{ErrorLine}
use Rattle.h5w_text.specs.declared.error.ErrorLine.TheVariants as errors
use Rattle.h5w_text.specs.declared.status.Status.{Status}
use Rattle.h5w_files.specs.Images.{LeavesFiles}
use Rattle.h5w_files.specs.Ends.{IsGivenBy, EndsBy}

-- ---- Its lines

-- how many rows there are
abbrev pub count_text : ℕ → List ℕ
count_text rows = numbers_text (codes "rows") (rows ∷ [])

-- so many rows, each of as many values
abbrev pub values_text : ℕ → List ℤ → List ℕ
values_text rows values = rows_text rows (length values / rows) values

-- The lines of the rows of a reading behind the first so many, where values are asked for, or the refusal of their read.
abbrev pub new_lines : Bool → List ℕ → Reading → ℕ → Result (List ℕ) ReadError
new_lines values img r printed =
    if values && nat_lt printed r.dataset.shape.rows
    then viewed (values_text (r.dataset.shape.rows - printed)) (eval img (values_program (Some r) printed (r.dataset.shape.rows - printed)))
    else Ok []

-- lines that come behind the first count alone
abbrev pub at_first : List ℕ → ℕ → List ℕ
at_first lines zero = lines
at_first lines (suc k) = []

-- so many polls of a file that stays as it is: the count each time, and the rows behind the first
abbrev pub polled_text : ℕ → List ℕ → ℕ → List ℕ
polled_text rows lines zero = []
polled_text rows lines (suc k) = polled_text rows lines k ++ (count_text rows ++ at_first lines k)

-- ---- What is written of a file that stays as it is

-- The bytes show this, by what a reader of this name reads.
abbrev pub Shown : List ℕ → ReaderRules → Reading → Type 0
Shown img g r = eval img (reading g.limits g.name) ≡ Ok r

-- behind so many whole polls, or behind a count whose rows are not there yet
pub data PollBegins (img : List ℕ) (g : ReaderRules) (values : Bool) (times : ℕ) : List ℕ → Type 0 where
  nothing : PollBegins img g values times []
  counted : (r : Reading) → Shown img g r → PollBegins img g values times (count_text r.dataset.shape.rows)
  polled : (r : Reading) (lines : List ℕ) (k : ℕ) → k ≤ times → Shown img g r → new_lines values img r 0 ≡ Ok lines → PollBegins img g values times (polled_text r.dataset.shape.rows lines k)

-- What is written by an answer: all polls; the refusal of the open; the count and the refusal of the read of its rows; or what
-- was told before the disk failed, or memory was wanting.
pub data PollWrites (img : List ℕ) (g : ReaderRules) (values : Bool) (times : ℕ) : Result (Unit {0}) ErrorLine → List ℕ → Type 0 where
  whole : (r : Reading) (lines : List ℕ) → Shown img g r → new_lines values img r 0 ≡ Ok lines → PollWrites img g values times (Ok tt) (polled_text r.dataset.shape.rows lines times)
  unopened : (e : ReadError) → eval img (reading g.limits g.name) ≡ Err e → PollWrites img g values times (Err (errors.Read e)) (error_text (errors.Read e))
  unread : (r : Reading) (e : ReadError) → Shown img g r → new_lines values img r 0 ≡ Err e → PollWrites img g values times (Err (errors.Read e)) (count_text r.dataset.shape.rows ++ error_text (errors.Read e))
  broken : (e : ErrorLine) (text : List ℕ) → (e ≡ errors.Disk) ⊎ (e ≡ errors.Memory) → PollBegins img g values times text → PollWrites img g values times (Err e) (text ++ error_text e)

-- there is no file of the name, unless the disk failed, or memory was wanting
pub record PollWritesNone (answer : Result (Unit {0}) ErrorLine) (text : List ℕ) : Type 0 where
  pub error : ErrorLine
  pub is : answer ≡ Err error
  pub gives : IsGivenBy {A = Unit {0}} (Err errors.Missing) (Err error)
  pub text_is : text ≡ error_text error

abbrev pub PollWritesOf : ReaderRules → Bool → ℕ → Option (List ℕ) → Result (Unit {0}) ErrorLine → List ℕ → Type 0
PollWritesOf g values times None answer text = PollWritesNone answer text
PollWritesOf g values times (Some img) answer text = PollWrites img g values times answer text

-- the errors of a poll
abbrev pub IsOfPoll : ErrorLine → Type 0
IsOfPoll errors.Missing = Unit {0}
IsOfPoll (errors.Read e) = Unit {0}
IsOfPoll errors.Disk = Unit {0}
IsOfPoll errors.Memory = Unit {0}
IsOfPoll e = ⊥

-- What a poll writes between two states of a disk, by an answer.
pub record PollsTo (name at : List ℕ) (times attempts : ℕ) (values : Bool) (v w : DiskView) (answer : Result (Unit {0}) ErrorLine) (text : List ℕ) : Type 0 where
  pub disk : LeavesFiles v.told v w
  pub exact : IfSome v.told (λ d. PollWritesOf (reader_rules at attempts) values times (file d name) answer text)
  pub kinds : IfErr answer IsOfPoll
  pub cause : answer ≡ Err errors.Disk → Rose v.faults w.faults

-- how a poll ends
abbrev pub PollEnds : List ℕ → List ℕ → ℕ → ℕ → Bool → DiskView → DiskView → Status → SinkView → SinkView → Type 0
PollEnds name at times attempts values v w status k l = EndsBy {A = Unit {0}} (λ answer text. PollsTo name at times attempts values v w answer text) status k l

-- The answer that a file's bytes give, where it is there.
abbrev pub poll_of : ReaderRules → Bool → Option (List ℕ) → Result (Unit {0}) ErrorLine
poll_of g values None = Err errors.Missing
poll_of g values (Some img) = then_also (refused_as errors.Read (eval img (reading g.limits g.name))) (λ r. then_also (refused_as errors.Read (new_lines values img r 0)) (λ lines. Ok tt))
