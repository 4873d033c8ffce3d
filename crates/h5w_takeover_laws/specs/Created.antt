-- A takeover of a file of several datasets that a session created.
use Rattle.std.specs.Prelude.{◌≡◌, ℕ, List, [], ◌++◌, length, Some, None, Result, IfErr, slice_get}
use Rattle.h5w_model.specs.Images.{image}
use Rattle.h5w_model.specs.Several.{FileLog, pieces_in}
use Rattle.h5w_model.specs.declared.piece.Write.{Write}
use Rattle.h5w_creation_laws.specs.CreatedFiles.{CreatedFile}
use Rattle.h5w_several_creation_laws.specs.SeveralFiles.{AreCreatable, created_writes}
use Rattle.h5w_opening.specs.Errors.{refusal_of}
use Rattle.h5w_opening.specs.declared.error.OpenError.{OpenError}
use Rattle.h5w_writer.specs.Sessions.{Session}
use Rattle.h5w_several_writer_laws.specs.Sessions.{AreSessions, Sessions}
use Rattle.h5w_several_writer_laws.specs.Standing.{StandsAll}
use Rattle.h5w_several_writer_laws.specs.Valid.{names_in}
use Rattle.h5w_several_open.specs.Taken.{IsTakenAnswer}
use Rattle.h5w_takeover_laws.specs.Refused.{IsLeftOpen}

-- The log began with the creation of these datasets, all of whose pieces are shown; the parts have their names.
pub record IsCreatedFor (ss : List Session) (log : FileLog) : Type 0 where
  pub files : List CreatedFile
  pub are : AreCreatable files
  pub start : log.start ≡ []
  pub first : log.first ≡ length (created_writes files)
  pub later : List Write
  pub pieces : pieces_in log.events ≡ created_writes files ++ later
  pub sets : length log.sets ≡ length files
  pub names : (d : ℕ) (f : CreatedFile) (s : Session) → slice_get files d ≡ Some f → slice_get ss d ≡ Some s → s.name ≡ f.name

-- ---- Laws

-- A takeover of the image of now, with both flags of a writer, by the session's names answers a session, unless the image fails or memory runs out.
abbrev pub AnswersAll : Type 0
AnswersAll = (S : Sessions) (log : FileLog) (limit budget : ℕ) (r : Result Sessions OpenError) → StandsAll S log → AreSessions S → IsCreatedFor S.parts log → IsLeftOpen (image log.start (pieces_in log.events))
    → IsTakenAnswer (image log.start (pieces_in log.events)) (length (image log.start (pieces_in log.events))) (names_in S.parts) limit budget r → IfErr r (λ e. refusal_of e ≡ None)
