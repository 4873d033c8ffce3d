-- What keeps a file as one that says that it is written: the pieces of a session whose superblock says so.
use Rattle.std.specs.Prelude.{◌≡◌, ℕ, false, List, [], ◌∷◌, length, ℤ}
use Rattle.h5w_model.specs.Images.{apply, image}
use Rattle.h5w_model.specs.Logs.{Log, and_now, plans}
use Rattle.h5w_model.specs.Several.{FileLog}
use Rattle.h5w_model.specs.declared.piece.Write.{Write}
use Rattle.h5w_creation_laws.specs.CreatedFiles as one
use Rattle.h5w_creation_laws.specs.CreatedFiles.{CreatedFile, IsCreatable}
use Rattle.h5w_several_creation_laws.specs.SeveralFiles.{AreCreatable, created_writes, super_of}
use Rattle.h5w_writer.specs.Early.{WrittenEarly}
use Rattle.h5w_writer.specs.Flushes.{SameBut}
use Rattle.h5w_writer.specs.Sessions.{AfterPiece, Session, stopped_of}
use Rattle.h5w_writer.specs.Stands.{Stands}
use Rattle.h5w_writer.specs.Starts.{HasFlushed}
use Rattle.h5w_several_writer_laws.specs.Sessions.{AfterPieceOf, AppendsTo, FlushesAll, SameButHeld, Sessions, all_pending, stopped_all}
use Rattle.h5w_several_writer_laws.specs.Standing.{StandsAll}
use Rattle.h5w_front_laws.specs.Fronts.{AllKeepFront, IsLeftOpen, KeepsFront, SaysWritten}

-- the file says so after such a piece, and after such pieces
pub record FrontStays : Type 0 where
  pub piece : (w : Write) (img : List ℕ) → KeepsFront w → IsLeftOpen img → IsLeftOpen (apply w img)
  pub pieces : (ws : List Write) (img : List ℕ) → AllKeepFront ws → IsLeftOpen img → IsLeftOpen (image img ws)

-- ---- One dataset

-- The superblock of the session says so, and so do the pieces that are pending.
pub record KeepsWritten (s : Session) : Type 0 where
  pub root : SaysWritten s.root
  pub pieces : AllKeepFront s.pending

-- what each call makes of such a session is one, and a piece that became visible keeps the front
pub record CallsKeepFront : Type 0 where
  pub flush : (s t : Session) (log : Log) → HasFlushed s t → s.stopped ≡ false → s.pending ≡ [] → Stands s log → Stands t (and_now (plans (length t.pending)) log) → SaysWritten s.root → KeepsWritten t
  pub early : (s t : Session) (log : Log) → WrittenEarly s t → s.pending ≡ [] → Stands t log → SaysWritten s.root → KeepsWritten t
  pub refused : (s t : Session) → SameBut s t → KeepsWritten s → KeepsWritten t
  pub shown : (s t : Session) (w : Write) (ws : List Write) → s.pending ≡ w ∷ ws → AfterPiece s ws t → KeepsWritten s → KeepsFront w × KeepsWritten t
  pub stopped : (s : Session) → KeepsWritten s → KeepsWritten (stopped_of s)

-- ---- Several datasets

pub record AllKeepWritten (S : Sessions) : Type 0 where
  pub root : SaysWritten S.root
  pub pieces : AllKeepFront (all_pending S.parts)

pub record CallsKeepAll : Type 0 where
  pub flush : (S T : Sessions) (log : FileLog) → StandsAll S log → S.stopped ≡ false → all_pending S.parts ≡ [] → FlushesAll S T → SaysWritten S.root → AllKeepWritten T
  pub append : (S T : Sessions) (d : ℕ) (values : List ℤ) → AppendsTo d values S T → AllKeepWritten S → AllKeepWritten T
  pub refused : (S T : Sessions) → SameButHeld S T → AllKeepWritten S → AllKeepWritten T
  pub shown : (S T : Sessions) (w : Write) → AfterPieceOf w S T → AllKeepWritten S → KeepsFront w × AllKeepWritten T
  pub stopped : (S : Sessions) → AllKeepWritten S → AllKeepWritten (stopped_all S)

-- ---- New files

-- once all pieces of a creation are shown the file says so, and so does its session's superblock
pub record NewFronts : Type 0 where
  pub one : (f : CreatedFile) → IsCreatable f → IsLeftOpen (image [] (one.created_writes f)) × SaysWritten (one.super_of f)
  pub several : (fs : List CreatedFile) → AreCreatable fs → IsLeftOpen (image [] (created_writes fs)) × SaysWritten (super_of 5 fs)
