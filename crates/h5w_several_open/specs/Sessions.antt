-- The session of several datasets with which a file is opened.
use Rattle.std.specs.Prelude.{◌≡◌, ℕ, false, List, [], ◌∷◌, None, Result, Ok, Err}
use Rattle.h5w_model.specs.Numbers.{range}
use Rattle.h5w_model.specs.Programs.{eval}
use Rattle.h5w_model.specs.Relations.{AllPaired}
use Rattle.h5w_model.specs.Superblock.{super_at, super_bytes}
use Rattle.h5w_model.specs.declared.root.Super.{Super}
use Rattle.h5w_opening.specs.Errors.{refusal_of}
use Rattle.h5w_opening.specs.Openings.{Opened, is_open, looked_for, refused_dataset}
use Rattle.h5w_opening.specs.declared.error.OpenError.{OpenError}
use Rattle.h5w_writer.specs.PartLaws.{super_piece}
use Rattle.h5w_writer.specs.Sessions.{Session, cleared}
use Rattle.h5w_writer_open.specs.OpenAnswers.{IfRefusal}
use Rattle.h5w_several_writer_laws.specs.Sessions.{AreSessions, Sessions, all_pending}
use Rattle.h5w_several_writer.specs.Opened.{sessions_over}
use Rattle.h5w_several_open.specs.Answers.{HaveBegun, IsNotOpenedBy, IsOpenedBy}
use Rattle.h5w_several_open.specs.Progress.{writing_root}

-- What a part has where a session begins: rows that are committed alone, and the superblock of all.
pub record BeginsWith (budget : ℕ) (root : Super) (name : List ℕ) (s : Session) : Type 0 where
  pub named : s.name ≡ name
  pub root_is : s.root ≡ root
  pub committed : s.committed ≡ s.dataset.shape.rows
  pub waiting : s.waiting ≡ []
  pub waits : s.waits ≡ 0
  pub running : s.stopped ≡ false
  pub budgeted : s.budget ≡ budget
  pub early : s.early ≡ 0
  pub flushing : s.flushing ≡ false

-- What a session has that was opened, whatever the image is: it is that of sessions that begin together. The superblock is pending, and nothing else.
pub record HasBegunAll (names : List (List ℕ)) (limit budget : ℕ) (s : Sessions) : Type 0 where
  pub parts : List Session
  pub begun : HaveBegun names limit budget parts
  pub is : s ≡ sessions_over begun.root limit parts
  pub sessions : AreSessions s
  pub pending : all_pending s.parts ≡ super_piece s.root ∷ []
  pub each : AllPaired (BeginsWith budget s.root) names s.parts
  pub end : s.places.end ≡ s.root.end
  pub limited : s.places.limit ≡ limit
  pub going : s.stopped ≡ false
  pub reads : super_at (super_bytes s.root) ≡ Ok s.root

-- The dataset to which the link of this name leads, to which rows may be appended.
pub record HasDatasetAt (img : List ℕ) (size : ℕ) (name : List ℕ) (s : Session) : Type 0 where
  pub found : Opened
  pub is : eval img (looked_for size name) ≡ Ok found
  pub place : s.place ≡ found.place
  pub dataset : s.dataset ≡ found.header.dataset
  pub unrefused : refused_dataset found ≡ None

-- The session of the sessions that are opened by these names. Its superblock is the file's, with the flags of a writer, which a close takes away again.
pub record IsOpenedAll (img : List ℕ) (size : ℕ) (names : List (List ℕ)) (limit budget : ℕ) (s : Sessions) : Type 0 where
  pub root : Super
  pub parts : List Session
  pub opened : IsOpenedBy img size names limit budget parts
  pub is : s ≡ sessions_over root limit parts
  pub root_is : root ≡ writing_root opened.front.root
  pub super : super_at (range img 0 48) ≡ Ok opened.front.root
  pub version : opened.front.root.version ≡ 3
  pub closed : is_open opened.front.root.flags ≡ false
  pub clears : cleared s.root.flags ≡ opened.front.root.flags
  pub datasets : AllPaired (HasDatasetAt img size) names s.parts

-- the session, or the first refusal; a failed image and want of memory are neither
abbrev pub IsSessionAnswer : List ℕ → ℕ → List (List ℕ) → (limit budget : ℕ) → Result Sessions OpenError → Type 0
IsSessionAnswer img size names limit budget (Ok s) = IsOpenedAll img size names limit budget s
IsSessionAnswer img size names limit budget (Err e) = IfRefusal (refusal_of e) (IsNotOpenedBy img size names)
