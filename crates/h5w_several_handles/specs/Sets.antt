-- A session of several datasets as a handle holds it, and how it begins.
use Rattle.std.specs.Prelude.{◌≡◌, ◌≢◌, ◌⊎◌, ℕ, Bool, true, false, List, [], ◌∷◌, length, Some, Result, Ok, Err, IfOk, IfErr}
use Rattle.h5w_model.specs.Findings.{AllSummary, AllValid}
use Rattle.h5w_model.specs.Relations.{AllPaired}
use Rattle.h5w_model.specs.Several.{Begun}
use Rattle.h5w_model.specs.declared.piece.Write.{Write}
use Rattle.h5w_opening.specs.Errors.{IsOpenKind}
use Rattle.h5w_opening.specs.declared.error.OpenError.{OpenError}
use Rattle.h5w_opening.specs.declared.error.OpenError.TheVariants as failing
use Rattle.h5w_several_creation_laws.specs.SeveralFiles.{created_writes}
use Rattle.h5w_several_creating.specs.Created.{IsCreatedAll, created_file, led, shown_file}
use Rattle.h5w_several_open.specs.Begins.{ReadsIt}
use Rattle.h5w_several_open.specs.Sessions.{HasBegunAll, IsSessionAnswer}
use Rattle.h5w_several_open.specs.Stands.{opened_file}
use Rattle.h5w_several_open.specs.Taken.{HasTakenAll, IsTakenAnswer}
use Rattle.h5w_several_writer_laws.specs.Sessions.{Sessions, all_pending}
use Rattle.h5w_several_writer_laws.specs.Standing.{StandsAll}
use Rattle.h5w_handles.specs.declared.several.SeveralState.{SeveralState}
use Rattle.h5w_writer_handles.specs.declared.options.H5wOptions.{H5wOptions}
use Rattle.h5w_several_handles.specs.Names.{budget_of, files_by, limit_of}

-- ---- Pieces

-- pieces of the creation; once none is left, those of the session
abbrev pub pending_in : List Write → List Write → List Write
pending_in [] ws = ws
pending_in (u ∷ us) ws = u ∷ us

-- what is pending
unfoldable pub pending_of : SeveralState → List Write
pending_of s = pending_in s.first.items (all_pending s.session.parts)

-- ---- Creating

-- A session that creates a file by these names and options: the pieces of the creation are pending, and nothing else.
pub record IsNewSet (names : List (List ℕ)) (os : List H5wOptions) (s : SeveralState) : Type 0 where
  pub writes : s.first.items ≡ created_writes (files_by names os)
  pub session : IsCreatedAll (files_by names os) (limit_of os) (budget_of os) (led s.first.items s.session)
  pub begins : StandsAll (led s.first.items s.session) (created_file (files_by names os))
  pub stands : StandsAll s.session (shown_file (files_by names os))
  pub idle : all_pending s.session.parts ≡ []

-- ---- Opening

-- the answer for a file of these bytes: it is opened, or taken over from a session that left it open
abbrev pub IsAnswerBy : (takes : Bool) → List ℕ → ℕ → List (List ℕ) → (limit budget : ℕ) → Result Sessions OpenError → Type 0
IsAnswerBy false bytes size names limit budget given = IsSessionAnswer bytes size names limit budget given
IsAnswerBy true bytes size names limit budget given = IsTakenAnswer bytes size names limit budget given

-- what such a session begins with
abbrev pub HasBegunBy : (takes : Bool) → List (List ℕ) → (limit budget : ℕ) → Sessions → Type 0
HasBegunBy false names limit budget S = HasBegunAll names limit budget S
HasBegunBy true names limit budget S = HasTakenAll names limit budget S

-- where the file is valid for all names, the session stands for the log over it to which nothing happened yet
abbrev pub StandsOver : (bytes : List ℕ) → List (List ℕ) → Sessions → Type 0
StandsOver bytes names S = (t : AllSummary) (sets : List Begun) → AllValid bytes names t → AllPaired (ReadsIt bytes) names sets → StandsAll S (opened_file bytes sets)

-- The answer of a session for a file of these bytes.
pub record IsOpenedSet (takes : Bool) (bytes : List ℕ) (names : List (List ℕ)) (limit budget : ℕ) (given : Result Sessions OpenError) : Type 0 where
  pub exact : IsAnswerBy takes bytes (length bytes) names limit budget given
  pub kinds : IfErr given IsOpenKind
  pub never : given ≢ Err failing.Failed
  pub begun : IfOk given (HasBegunBy takes names limit budget)
  pub stands : IfOk given (StandsOver bytes names)
