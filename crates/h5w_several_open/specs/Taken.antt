-- The session with which another writer takes over a file of several datasets that was not closed.
use Rattle.std.specs.Prelude.{◌≡◌, ◌^◌, ◌≤◌, ℕ, true, false, List, [], None, Result, Ok, Err, length}
use Rattle.std.specs.List.{AllByRecursion}
use Rattle.h5w_model.specs.Findings.{AllSummary, AllValid}
use Rattle.h5w_model.specs.Numbers.{range}
use Rattle.h5w_model.specs.Programs.{eval}
use Rattle.h5w_model.specs.Relations.{AllPaired}
use Rattle.h5w_model.specs.Several.{Begun}
use Rattle.h5w_model.specs.Superblock.{super_at}
use Rattle.h5w_model.specs.declared.root.Super.{Super}
use Rattle.h5w_opening.specs.Errors.{refusal_of}
use Rattle.h5w_opening.specs.Fronts.{FrontFields, written_front}
use Rattle.h5w_opening.specs.Openings.{DatasetHeaderFields, dataset_found, is_written, place_found, refused_dataset}
use Rattle.h5w_opening.specs.declared.error.OpenError.{OpenError}
use Rattle.h5w_writer.specs.Sessions.{Session, cleared}
use Rattle.h5w_writer_open.specs.OpenAnswers.{IfRefusal}
use Rattle.h5w_writer_open.specs.OpenParts.{opened_at}
use Rattle.h5w_several_writer_laws.specs.Sessions.{AreSessions, Sessions, all_pending}
use Rattle.h5w_several_writer_laws.specs.Standing.{StandsAll}
use Rattle.h5w_several_writer.specs.Opened.{sessions_at_rest}
use Rattle.h5w_several_open.specs.Answers.{CanRead, FirstUnfit, FirstUnread, HaveBegun}
use Rattle.h5w_several_open.specs.Begins.{ReadsIt}
use Rattle.h5w_several_open.specs.Progress.{AreSessionsAt}
use Rattle.h5w_several_open.specs.Sessions.{BeginsWith}
use Rattle.h5w_several_open.specs.Stands.{opened_file}

-- the superblock as it is once nobody writes the file
abbrev pub closed_front : Super → Super
closed_front s = record s { flags = cleared s.flags }

-- Why a file of these bytes is not taken over by these names: something before the first dataset header; the first dataset that is not read; or, once
-- all were read, the first to which no rows are appended.
pub data IsNotTakenBy (img : List ℕ) (size : ℕ) (names : List (List ℕ)) : OpenError → Type 0 where
  no_front : (e : OpenError) → eval img (written_front size names) ≡ Err e → IsNotTakenBy img size names e
  unread : (f : FrontFields) (e : OpenError) → eval img (written_front size names) ≡ Ok f → FirstUnread img (closed_front f.root) f.places e → IsNotTakenBy img size names e
  unfit : (f : FrontFields) (e : OpenError) → eval img (written_front size names) ≡ Ok f → AllByRecursion (CanRead img (closed_front f.root)) f.places → FirstUnfit img (closed_front f.root) f.places e → IsNotTakenBy img size names e

-- The dataset to which the link of this name leads, to which rows may be appended.
pub record HasDatasetOf (img : List ℕ) (root : Super) (name : List ℕ) (s : Session) : Type 0 where
  pub header : DatasetHeaderFields
  pub place : place_found name root.root img ≡ Ok s.place
  pub read : dataset_found s.place img ≡ Ok header
  pub dataset : s.dataset ≡ header.dataset
  pub unrefused : refused_dataset (opened_at root s.place header) ≡ None

-- The session over a file of these bytes, of which no two names lead to one dataset header. Its superblock is the file's.
pub record IsTakenAll (img : List ℕ) (size : ℕ) (names : List (List ℕ)) (limit budget : ℕ) (s : Sessions) : Type 0 where
  pub front : FrontFields
  pub is : eval img (written_front size names) ≡ Ok front
  pub super : super_at (range img 0 48) ≡ Ok front.root
  pub version : front.root.version ≡ 3
  pub written : is_written front.root.flags ≡ true
  pub parts : List Session
  pub each : AreSessionsAt img (closed_front front.root) limit budget names front.places parts
  pub session : s ≡ sessions_at_rest front.root limit parts
  pub datasets : AllPaired (HasDatasetOf img front.root) names s.parts

-- the session, or the first refusal; a failed image and want of memory are neither
abbrev pub IsTakenAnswer : List ℕ → ℕ → List (List ℕ) → (limit budget : ℕ) → Result Sessions OpenError → Type 0
IsTakenAnswer img size names limit budget (Ok s) = IsTakenAll img size names limit budget s
IsTakenAnswer img size names limit budget (Err e) = IfRefusal (refusal_of e) (IsNotTakenBy img size names)

-- What a session has that took a file over, whatever the image is: it is that of sessions that begin together, and nothing is pending.
pub record HasTakenAll (names : List (List ℕ)) (limit budget : ℕ) (s : Sessions) : Type 0 where
  pub parts : List Session
  pub begun : HaveBegun names limit budget parts
  pub session : s ≡ sessions_at_rest begun.root limit parts
  pub sessions : AreSessions s
  pub idle : all_pending s.parts ≡ []
  pub each : AllPaired (BeginsWith budget s.root) names s.parts
  pub end : s.places.end ≡ s.root.end
  pub limited : s.places.limit ≡ limit
  pub going : s.stopped ≡ false

-- ---- Laws

-- Where the file is valid for all names the session stands for the log over it to which nothing happened yet.
abbrev pub TakesStanding : Type 0
TakesStanding = (img : List ℕ) (size : ℕ) (names : List (List ℕ)) (t : AllSummary) (bs : List Begun) (limit budget : ℕ) (s : Sessions) → AllValid img names t → AllPaired (ReadsIt img) names bs → IsTakenAll img size names limit budget s
    → HasTakenAll names limit budget s → 1 ≤ length names → 1024 ≤ limit → limit ≤ 2 ^ 40 → StandsAll s (opened_file img bs)
