-- What a reader's calls of a poll find, call by call.
use Rattle.std.specs.Prelude.{◌≡◌, ◌⊎◌, ℕ, zero, suc, Bool, true, false, List, [], ◌++◌, IfErr, IfSome, Option, Some, None, Result, Ok, Err, ℤ}
use Rattle.h5w_model.specs.Causes.{Rose}
use Rattle.h5w_model.specs.Programs.{Prog, eval}
use Rattle.h5w_model.specs.Tables.{Reading, reading}
use Rattle.h5w_model.specs.Unfinished.{Reader, ReaderRules, rows_left, rows_program, values_program}
use Rattle.h5w_model.specs.declared.refusal.ReadError.{ReadError}
use Rattle.h5w_model.specs.declared.refusal.ReadError.TheVariants as reads
use Rattle.h5w_image.specs.View.{DiskView, ImageView, file}
use Rattle.h5w_looks.specs.Still.{IsStill}
use Rattle.h5w_reader.specs.Readers.{new_reader, reader_rules}
use Rattle.h5w_text.specs.Streams.{SinkView, Gave, GaveSome}
use Rattle.h5w_text.specs.declared.error.ErrorLine.{ErrorLine}
use Rattle.h5w_text.specs.declared.error.ErrorLine.TheVariants as errors
use Rattle.h5w_files.specs.Ends.{IsGivenBy}
use Rattle.h5w_files.specs.Images.{LeavesFiles}
use Rattle.h5w_files.specs.Polls.{PollBegins, IsOfPoll, Shown, count_text, new_lines, polled_text}
use Rattle.h5w_files.specs.declared.polling.Ending.{Ending}
use Rattle.h5w_files.specs.declared.polling.Ending.TheVariants as endings

-- the line of a refusal; want of memory has its own
abbrev pub read_line : ReadError → ErrorLine
read_line reads.NotHdf5 = errors.Read reads.NotHdf5
read_line (reads.Super e) = errors.Read (reads.Super e)
read_line (reads.NotSwmr flags) = errors.Read (reads.NotSwmr flags)
read_line (reads.Header at e) = errors.Read (reads.Header at e)
read_line (reads.Link e) = errors.Read (reads.Link e)
read_line (reads.Unsupported n) = errors.Read (reads.Unsupported n)
read_line (reads.TooManyChunks needed limit) = errors.Read (reads.TooManyChunks needed limit)
read_line (reads.Damaged at fault) = errors.Read (reads.Damaged at fault)
read_line (reads.Again attempts at first last) = errors.Read (reads.Again attempts at first last)
read_line (reads.Shrunk seen found) = errors.Read (reads.Shrunk seen found)
read_line reads.OutOfMemory = errors.Memory

-- the errors of a call
abbrev pub IsOfCall : ErrorLine → Type 0
IsOfCall (errors.Read e) = Unit {0}
IsOfCall errors.Disk = Unit {0}
IsOfCall errors.Memory = Unit {0}
IsOfCall e = ⊥

-- bytes half written may give the refusal; some of these also come of bytes whose sum is right
abbrev pub may_pass : ReadError → Bool
may_pass reads.NotHdf5 = true
may_pass (reads.Super e) = true
may_pass (reads.Header at e) = true
may_pass (reads.Unsupported n) = true
may_pass (reads.Damaged at fault) = true
may_pass e = false

-- a call is refused, and bytes half written may give that refusal
abbrev pub is_doubtful : Result ℕ ErrorLine → Bool
is_doubtful (Err (errors.Read e)) = may_pass e
is_doubtful found = false

-- a refusal is what is given, unless the disk failed, or memory was wanting
abbrev pub RefusedBy : {A : Type 0} → Result A ReadError → ErrorLine → Type 0
RefusedBy given (errors.Read e) = given ≡ Err e
RefusedBy given errors.Disk = Unit {0}
RefusedBy given errors.Memory = Unit {0}
RefusedBy given e = ⊥

-- a reader that knows this, and has no call
abbrev pub knowing : ReaderRules → Reading → Reader
knowing g r = record { rules = g; known = Some r; left = None }

-- the reader's call for rows has just begun
abbrev pub HasJustBegun : Reader → Type 0
HasJustBegun r = r.left ≡ Some (rows_left (rows_program r.rules r.known))

-- the rows that an image gives a call
abbrev pub FindsRows : List ℕ → Reader → Result ℕ ErrorLine → Reader → Type 0
FindsRows img old (Ok rows) new =
    (p : Prog (Result Reading ReadError)) → old.left ≡ Some (rows_left p) → (r : Reading) × (eval img p ≡ Ok r) × (rows ≡ r.dataset.shape.rows) × (new ≡ knowing old.rules r)
FindsRows img old (Err e) new = (p : Prog (Result Reading ReadError)) → old.left ≡ Some (rows_left p) → RefusedBy (eval img p) e

-- the values that an image gives a read of what is known
abbrev pub FindsValues : List ℕ → ℕ → ℕ → Reader → Result (List ℤ) ErrorLine → Reader → Type 0
FindsValues img from count old (Ok vs) new = (r : Reading) → old.known ≡ Some r → old.left ≡ None → (eval img (values_program (Some r) from count) ≡ Ok vs) × (new ≡ old)
FindsValues img from count old (Err e) new = (r : Reading) → old.known ≡ Some r → old.left ≡ None → RefusedBy (eval img (values_program (Some r) from count)) e

-- ---- What is written

-- by an answer: this text, or some first part of it where the sink failed
abbrev pub WroteBy : {A : Type 0} → Result A Ending → List ℕ → SinkView → SinkView → Type 0
WroteBy (Ok a) text k l = Gave text k l
WroteBy (Err (endings.Error e)) text k l = Gave text k l
WroteBy (Err endings.Sink) text k l = Rose k.faults l.faults × GaveSome text k l

-- a text was written, unless memory for it was wanting, or the sink failed behind some first part of it
abbrev pub ToldBy : {A : Type 0} → Result A Ending → List ℕ → SinkView → SinkView → Type 0
ToldBy (Ok a) text k l = Gave text k l
ToldBy (Err (endings.Error e)) text k l = (e ≡ errors.Memory) × (l ≡ k)
ToldBy (Err endings.Sink) text k l = Rose k.faults l.faults × GaveSome text k l

abbrev pub IsOfEnding : Ending → Type 0
IsOfEnding (endings.Error e) = IsOfCall e
IsOfEnding endings.Sink = Unit {0}

-- of one call that is refused
pub data OnceRefused (img : List ℕ) (values : Bool) (printed : ℕ) (p : Prog (Result Reading ReadError)) : ErrorLine → List ℕ → Type 0 where
  unopened : (e : ReadError) → eval img p ≡ Err e → OnceRefused img values printed p (errors.Read e) []
  unread : (r : Reading) (e : ReadError) → eval img p ≡ Ok r → new_lines values img r printed ≡ Err e → OnceRefused img values printed p (errors.Read e) (count_text r.dataset.shape.rows)
  before : (e : ErrorLine) → (e ≡ errors.Disk) ⊎ (e ≡ errors.Memory) → OnceRefused img values printed p e []
  behind : (r : Reading) (e : ErrorLine) → (e ≡ errors.Disk) ⊎ (e ≡ errors.Memory) → eval img p ≡ Ok r → OnceRefused img values printed p e (count_text r.dataset.shape.rows)

-- of one whose sink failed
pub data OnceBroken (img : List ℕ) (values : Bool) (printed : ℕ) (p : Prog (Result Reading ReadError)) : List ℕ → Type 0 where
  in_count : (r : Reading) → eval img p ≡ Ok r → OnceBroken img values printed p (count_text r.dataset.shape.rows)
  in_lines : (r : Reading) (lines : List ℕ) → eval img p ≡ Ok r → new_lines values img r printed ≡ Ok lines → OnceBroken img values printed p (count_text r.dataset.shape.rows ++ lines)

-- of one that is answered with rows
pub record OnceWhole (img : List ℕ) (values : Bool) (printed : ℕ) (p : Prog (Result Reading ReadError)) (rules : ReaderRules) (rows : ℕ) (new : Reader) (text : List ℕ) : Type 0 where
  pub found : Reading
  pub lines : List ℕ
  pub gives : eval img p ≡ Ok found
  pub lines_are : new_lines values img found printed ≡ Ok lines
  pub rows_are : rows ≡ found.dataset.shape.rows
  pub known : new ≡ knowing rules found
  pub text_is : text ≡ count_text found.dataset.shape.rows ++ lines

abbrev pub OnceText : List ℕ → Bool → ℕ → Prog (Result Reading ReadError) → Reader → Result ℕ Ending → Reader → List ℕ → Type 0
OnceText img values printed p old (Ok rows) new text = OnceWhole img values printed p old.rules rows new text
OnceText img values printed p old (Err (endings.Error e)) new text = OnceRefused img values printed p e text
OnceText img values printed p old (Err endings.Sink) new text = OnceBroken img values printed p text

-- One call, whose count and rows are written.
pub record OnceGives (values : Bool) (printed : ℕ) (v w : ImageView) (old : Reader) (result : Result ℕ Ending) (new : Reader) (k l : SinkView) : Type 0 where
  pub text : List ℕ
  pub wrote : WroteBy result text k l
  pub kinds : IfErr result IsOfEnding
  pub cause : result ≡ Err (endings.Error errors.Disk) → Rose v.faults w.faults
  pub still : (img : List ℕ) → IsStill v img → (p : Prog (Result Reading ReadError)) → old.left ≡ Some (rows_left p) → OnceText img values printed p old result new text

-- ---- Several calls

-- of calls that are refused
pub data TimesRefused (img : List ℕ) (g : ReaderRules) (values : Bool) (times : ℕ) : ErrorLine → List ℕ → Type 0 where
  unopened : (e : ReadError) → eval img (reading g.limits g.name) ≡ Err e → TimesRefused img g values times (errors.Read e) []
  unread : (r : Reading) (e : ReadError) → Shown img g r → new_lines values img r 0 ≡ Err e → TimesRefused img g values times (errors.Read e) (count_text r.dataset.shape.rows)
  free : (e : ErrorLine) (text : List ℕ) → (e ≡ errors.Disk) ⊎ (e ≡ errors.Memory) → PollBegins img g values times text → TimesRefused img g values times e text

pub record TimesWhole (img : List ℕ) (g : ReaderRules) (values : Bool) (times : ℕ) (text : List ℕ) : Type 0 where
  pub found : Reading
  pub lines : List ℕ
  pub shown : Shown img g found
  pub lines_are : new_lines values img found 0 ≡ Ok lines
  pub text_is : text ≡ polled_text found.dataset.shape.rows lines times

abbrev pub TimesText : List ℕ → ReaderRules → Bool → ℕ → Result (Unit {0}) Ending → List ℕ → Type 0
TimesText img g values times (Ok a) text = TimesWhole img g values times text
TimesText img g values times (Err (endings.Error e)) text = TimesRefused img g values times e text
TimesText img g values times (Err endings.Sink) text = PollBegins img g values times text

-- So many calls of a new reader, whose counts and rows are written.
pub record TimesGive (times : ℕ) (values : Bool) (v w : ImageView) (first : Reader) (result : Result (Unit {0}) Ending) (k l : SinkView) : Type 0 where
  pub text : List ℕ
  pub wrote : WroteBy result text k l
  pub kinds : IfErr result IsOfEnding
  pub cause : result ≡ Err (endings.Error errors.Disk) → Rose v.faults w.faults
  pub still : (img : List ℕ) → IsStill v img → (g : ReaderRules) → first ≡ new_reader g → TimesText img g values times result text

-- ---- A loop over the calls

-- after so many calls
abbrev pub After : List ℕ → ReaderRules → Bool → ℕ → ℕ → Reader → List ℕ → Type 0
After img g values zero printed r text = (printed ≡ 0) × (r ≡ new_reader g) × (text ≡ [])
After img g values (suc k) printed r text =
    (found : Reading) × (lines : List ℕ) × Shown img g found × (new_lines values img found 0 ≡ Ok lines) × (printed ≡ found.dataset.shape.rows) × (r ≡ knowing g found)
    × (text ≡ polled_text found.dataset.shape.rows lines (suc k))

-- ---- A file

-- without a file nothing is written
abbrev pub MissingBy : Result (Unit {0}) Ending → Type 0
MissingBy (Err (endings.Error e)) = IsGivenBy {A = Unit {0}} (Err errors.Missing) (Err e)
MissingBy (Err endings.Sink) = ⊥
MissingBy (Ok a) = ⊥

abbrev pub PolledOf : ReaderRules → Bool → ℕ → Option (List ℕ) → Result (Unit {0}) Ending → List ℕ → Type 0
PolledOf g values times None result text = (text ≡ []) × MissingBy result
PolledOf g values times (Some img) result text = TimesText img g values times result text

abbrev pub IsOfPollEnding : Ending → Type 0
IsOfPollEnding (endings.Error e) = IsOfPoll e
IsOfPollEnding endings.Sink = Unit {0}

pub record PollGives (name at : List ℕ) (times attempts : ℕ) (values : Bool) (v w : DiskView) (result : Result (Unit {0}) Ending) (k l : SinkView) : Type 0 where
  pub text : List ℕ
  pub wrote : WroteBy result text k l
  pub disk : LeavesFiles v.told v w
  pub kinds : IfErr result IsOfPollEnding
  pub cause : result ≡ Err (endings.Error errors.Disk) → Rose v.faults w.faults
  pub exact : IfSome v.told (λ d. PolledOf (reader_rules at attempts) values times (file d name) result text)
