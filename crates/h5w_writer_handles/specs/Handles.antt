-- What a call of a writer leaves in a handle.
use Rattle.std.specs.Prelude.{◌≡◌, ◌≢◌, ◌⊎◌, ℕ, ◌^◌, ◌≤◌, List, length, true, false, is_some, Option, Some, None, Result, Ok, Err, ℤ, IfOk, IfErr}
use Rattle.h5w_model.specs.Findings.{Summary, Valid}
use Rattle.h5w_model.specs.Tables.{Reads}
use Rattle.h5w_options.specs.Options.{AreOptions}
use Rattle.h5w_creation_laws.specs.CreatedFiles.{created_log}
use Rattle.h5w_text.specs.Errors.{error_text}
use Rattle.h5w_opening.specs.Errors.{IsOpenKind}
use Rattle.h5w_opening.specs.declared.error.OpenError.{OpenError}
use Rattle.h5w_opening.specs.declared.error.OpenError.TheVariants as failing
use Rattle.h5w_writer.specs.Creations.{IsCreated}
use Rattle.h5w_creation.specs.NewFiles.{new_file}
use Rattle.h5w_writer.specs.Openings.{opened_log}
use Rattle.h5w_writer.specs.Sessions.{Session}
use Rattle.h5w_writer.specs.Stands.{Stands}
use Rattle.h5w_writer_open.specs.OpenAnswers.{HasBegun, IsOpenAnswer}
use Rattle.h5w_writer_lines.specs.Lines.{open_line}
use Rattle.h5w_handles.specs.Codes.{busy, misuse, no_memory, told}
use Rattle.h5w_handles.specs.Handles.{has_writer}
use Rattle.h5w_handles.specs.declared.code.H5wCode.TheVariants as codes
use Rattle.h5w_handles.specs.declared.code.H5wTold.{H5wTold}
use Rattle.h5w_handles.specs.declared.held.Held.{Held}
use Rattle.h5w_handles.specs.declared.held.Held.TheVariants.{Writer}
use Rattle.h5w_writer_handles.specs.CreatedBy.{options_of}
use Rattle.h5w_writer_handles.specs.Tellings.{PutsLine, open_told}
use Rattle.h5w_writer_handles.specs.declared.options.H5wOptions.{H5wOptions}

-- A call of a writer: where the handle holds one, this is so of its session, of the answer and of the session that the handle holds then. Of a
-- handle that holds none `none` is the answer, and it stays as it is.
pub record OnWriter {A : Type 0} (none : A) (IsSo : Session → A → Session → Type 0) (old : Option Held) (answer : A) (new : Option Held) : Type 0 where
  pub called : (s t : Session) → old ≡ Some (Writer s) → new ≡ Some (Writer t) → IsSo s answer t
  pub stays : has_writer new ≡ has_writer old
  pub other : has_writer old ≡ false → (answer ≡ none) × (new ≡ old)

-- ---- Creating

-- A session that creates a file by these options, and stands for the log without events.
pub record IsNewWriter (name : List ℕ) (o : H5wOptions) (s : Session) : Type 0 where
  pub session : IsCreated (new_file (options_of name o)) o.limit s
  pub budget : s.budget ≡ o.budget
  pub stands : Stands s (created_log (new_file (options_of name o)))

-- a session is held, and its pending pieces are told; or memory is wanting, and none is held
abbrev pub Holds : Session → H5wTold → Option Held → Type 0
Holds s answer new = ((answer ≡ told codes.Done 0 (length s.pending)) × (new ≡ Some (Writer s))) ⊎ ((answer ≡ no_memory) × (new ≡ None))

-- A handle that holds something is busy, and one that holds nothing is misused exactly if an option is out of its bounds. Else it holds a new
-- writer, of which so many pieces are pending, or memory is wanting.
pub record CreatesWriter (name : List ℕ) (o : H5wOptions) (old : Option Held) (answer : H5wTold) (new : Option Held) : Type 0 where
  pub taken : is_some old ≡ true → (answer ≡ busy) × (new ≡ old)
  pub bounds : old ≡ None → (AreOptions (options_of name o) → ⊥) → (answer ≡ misuse) × (new ≡ None)
  pub either : old ≡ None → AreOptions (options_of name o) → (has_writer new ≡ true) ⊎ (answer ≡ no_memory)
  pub created : old ≡ None → (s : Session) → new ≡ Some (Writer s) → (answer ≡ told codes.Done 0 (length s.pending)) × IsNewWriter name o s
  pub refused : answer ≡ no_memory → new ≡ None

-- ---- Opening

-- The answer of a session for a file of these bytes.
pub record IsOpened (bytes name : List ℕ) (limit budget : ℕ) (given : Result Session OpenError) : Type 0 where
  pub exact : IsOpenAnswer bytes (length bytes) name limit budget given
  pub kinds : IfErr given IsOpenKind
  pub never : given ≢ Err failing.Failed
  pub begun : IfOk given (HasBegun name limit budget)
  -- where the file is valid, the session stands for the log over it to which nothing happened yet
  pub stands : IfOk given (λ s. (rows columns : ℕ) (values : List ℤ) (sm : Summary) → Valid bytes name sm → Reads bytes name rows columns values → Stands s (opened_log bytes columns values))

-- why a file is not opened is told, and its line is put; or memory is wanting for the line, which is not put
abbrev pub Refuses : OpenError → (text : List ℕ) → H5wTold → List ℕ → Type 0
Refuses e text answer left = (answer ≡ open_told e) × PutsLine (error_text (open_line e)) text left

-- A session is held from now on, and no text is put; or it is told why the file is not opened, and nothing is held.
abbrev pub TellsOpen : Result Session OpenError → (text : List ℕ) → H5wTold → List ℕ → Option Held → Type 0
TellsOpen (Ok s) text answer left new = (answer ≡ told codes.Done 0 (length s.pending)) × (new ≡ Some (Writer s)) × (left ≡ text)
TellsOpen (Err e) text answer left new = Refuses e text answer left × (new ≡ None)

-- the answer for a file of these bytes
pub record AnswersOpen (bytes name : List ℕ) (limit budget : ℕ) (text : List ℕ) (answer : H5wTold) (left : List ℕ) (new : Option Held) : Type 0 where
  pub given : Result Session OpenError
  pub opened : IsOpened bytes name limit budget given
  pub tells : TellsOpen given text answer left new

-- within which bounds a file is opened
pub record AreBounds (name : List ℕ) (limit budget : ℕ) : Type 0 where
  pub short : length name ≤ 512
  pub limit_low : 1024 ≤ limit
  pub limit_high : limit ≤ 2 ^ 40
  pub budget_low : 1024 ≤ budget
  pub budget_high : budget ≤ 2 ^ 30

-- nothing is put, and nothing is held
abbrev pub TellsOnly : H5wTold → (text : List ℕ) → H5wTold → List ℕ → Option Held → Type 0
TellsOnly told text answer left new = (answer ≡ told) × (left ≡ text) × (new ≡ None)

-- A handle that holds something is busy, and one that holds nothing is misused exactly if a number is out of its bounds. Else it is answered as the
-- session, and holds that; or memory is wanting. The line of a refusal goes in front of `text`.
pub record OpensWriter (bytes name : List ℕ) (limit budget : ℕ) (text : List ℕ) (old : Option Held) (answer : H5wTold) (left : List ℕ) (new : Option Held) : Type 0 where
  pub taken : is_some old ≡ true → (answer ≡ busy) × (left ≡ text) × (new ≡ old)
  pub bounds : old ≡ None → (AreBounds name limit budget → ⊥) → TellsOnly misuse text answer left new
  pub opened : old ≡ None → AreBounds name limit budget → TellsOnly no_memory text answer left new ⊎ AnswersOpen bytes name limit budget text answer left new
