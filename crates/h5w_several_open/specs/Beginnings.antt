-- How a session over a file begins: what is found of the file, what the session has, and why there is none.
use Rattle.std.specs.Prelude.{◌≡◌, ℕ, ◌/◌, ◌%◌, false, List, [], ◌∷◌, None, Some, Result, Ok, Err}
use Rattle.h5w_model.specs.Datasets.{then_also}
use Rattle.h5w_model.specs.Numbers.{range}
use Rattle.h5w_model.specs.Programs.{eval}
use Rattle.h5w_model.specs.Relations.{AllPaired}
use Rattle.h5w_model.specs.Superblock.{super_at}
use Rattle.h5w_model.specs.declared.piece.Write.{Write}
use Rattle.h5w_model.specs.declared.refusal.BlockFault.{BlockFault}
use Rattle.h5w_model.specs.declared.refusal.ReadError.TheVariants.{Damaged}
use Rattle.h5w_model.specs.declared.root.Super.{Super}
use Rattle.h5w_step_laws.specs.Files.{chunk_0}
use Rattle.h5w_index.specs.Views.{IndexView}
use Rattle.h5w_opening.specs.Errors.{refusal_of}
use Rattle.h5w_opening.specs.Openings.{Opened, dataset_found, looked_for, place_found, refused_dataset, super_by, written_super}
use Rattle.h5w_opening.specs.declared.error.OpenError.{OpenError}
use Rattle.h5w_opening.specs.declared.error.OpenError.TheVariants.{Read}
use Rattle.h5w_writer.specs.PartLaws.{super_piece}
use Rattle.h5w_writer.specs.Sessions.{Session}
use Rattle.h5w_writer_open.specs.declared.index.NoIndex.{NoIndex}
use Rattle.h5w_writer_open.specs.OpenAnswers.{IfRefusal, IsBadBlock, IsIndexOf, IsKeptIndexOf, opened_session, session_over, writing_flags}
use Rattle.h5w_writer_open.specs.OpenParts.{opened_at}
use Rattle.h5w_writer_open.specs.OpenRanges.{refused_open}
use Rattle.h5w_several_writer.specs.Opened.{sessions_at_rest, sessions_over}
use Rattle.h5w_several_writer_laws.specs.Sessions.{AreSessions, Sessions, all_pending}
use Rattle.h5w_several_open.specs.Answers.{HaveBegun, IsNotOpenedBy}
use Rattle.h5w_several_open.specs.Sessions.{BeginsWith}
use Rattle.h5w_several_open.specs.Taken.{IsNotTakenBy, closed_front}
use Rattle.h5w_several_open.specs.declared.beginning.Beginning.{Beginning}
use Rattle.h5w_several_open.specs.declared.beginning.Beginning.TheVariants as beginnings

-- by a takeover
abbrev pub taken_over : Beginning
taken_over = beginnings.TakenOver

-- ---- The file

-- the superblock of a file of this size that another session left, and the place of the dataset header, by the link of this name
abbrev pub written_at : ℕ → List ℕ → List ℕ → Result (Super × ℕ) OpenError
written_at size name img = then_also (super_by (written_super size) img) (λ s. then_also (place_found name s.root img) (λ place. Ok (s, place)))

-- and what the header says
abbrev pub written_found : ℕ → List ℕ → List ℕ → Result Opened OpenError
written_found size name img = then_also (written_at size name img) (λ x. then_also (dataset_found x.1 img) (λ h. Ok (opened_at x.0 x.1 h)))

-- what is found of a file, up to the index, where a session begins so
abbrev pub found_by : Beginning → ℕ → List ℕ → List ℕ → Result Opened OpenError
found_by beginnings.Opened size name img = eval img (looked_for size name)
found_by beginnings.TakenOver size name img = written_found size name img

-- the flags of a writer, bits 0 and 2, that a file has where a session begins so: none, or both
abbrev pub bit_by : Beginning → ℕ
bit_by beginnings.Opened = 0
bit_by beginnings.TakenOver = 1

pub record HadFlags (by : Beginning) (flags : ℕ) : Type 0 where
  pub writing : flags % 2 ≡ bit_by by
  pub swmr : flags / 4 % 2 ≡ bit_by by

-- the superblock with which a session begins: with the flags of a writer
abbrev pub root_by : Beginning → Super → Super
root_by beginnings.Opened s = record s { flags = writing_flags s.flags }
root_by beginnings.TakenOver s = s

-- and that of the file once the session was closed, but for its end: an opened file gets back the flags that it had
abbrev pub shut_by : Beginning → Super → Super
shut_by beginnings.Opened s = s
shut_by beginnings.TakenOver s = closed_front s

-- what is pending at first: the superblock by which an opened file says that it is written
abbrev pub first_pieces : Beginning → Super → List Write
first_pieces beginnings.Opened root = super_piece root ∷ []
first_pieces beginnings.TakenOver root = []

-- ---- One dataset

-- a session over what was found, with chunk 0 of the dataset header: nothing happened yet
abbrev pub session_by : Beginning → Opened → List ℕ → IndexView → List ℕ → (limit budget : ℕ) → Session
session_by beginnings.Opened o header v name limit budget = opened_session o header v name limit budget
session_by beginnings.TakenOver o header v name limit budget = session_over o header v name limit budget

-- The session over a file of these bytes, which nothing refuses.
pub record IsBegunOver (by : Beginning) (img : List ℕ) (size : ℕ) (name : List ℕ) (limit budget : ℕ) (s : Session) : Type 0 where
  pub found : Opened
  pub is : found_by by size name img ≡ Ok found
  pub flags : HadFlags by found.root.flags
  pub super : super_at (range img 0 48) ≡ Ok found.root
  pub index : Result IndexView NoIndex
  pub is_index : IsIndexOf img found.header.dataset index
  pub unrefused : refused_open found index ≡ None
  pub kept : IndexView
  pub is_kept : IsKeptIndexOf found.header.dataset index kept
  pub session : s ≡ session_by by found (chunk_0 img found.place) kept name limit budget

-- Why no session begins so over a file of these bytes: something before the index; a block of the index that is refused; or, once all was read, a range
-- or the dataset.
pub data IsNotBegun (by : Beginning) (img : List ℕ) (size : ℕ) (name : List ℕ) : OpenError → Type 0 where
  not_found : (e : OpenError) → found_by by size name img ≡ Err e → IsNotBegun by img size name e
  is_damaged : (o : Opened) (at : ℕ) (f : BlockFault) → found_by by size name img ≡ Ok o → IsBadBlock img o.header.dataset at f → IsNotBegun by img size name (Read (Damaged at f))
  is_refused : (o : Opened) (a : Result IndexView NoIndex) (e : OpenError) → found_by by size name img ≡ Ok o → IsIndexOf img o.header.dataset a → refused_open o a ≡ Some e → IsNotBegun by img size name e

-- the session, or the first refusal; a failed image and want of memory are neither
abbrev pub IsBeginAnswer : Beginning → List ℕ → ℕ → List ℕ → (limit budget : ℕ) → Result Session OpenError → Type 0
IsBeginAnswer by img size name limit budget (Ok s) = IsBegunOver by img size name limit budget s
IsBeginAnswer by img size name limit budget (Err e) = IfRefusal (refusal_of e) (IsNotBegun by img size name)

-- What a session has that begins so, whatever the image is: no row waits and none was written early, the rows that it has are committed, nothing is
-- free, both flags of a writer are set, and the pieces of its beginning are pending, of no flush.
pub record HasBegunBy (by : Beginning) (name : List ℕ) (limit budget : ℕ) (s : Session) : Type 0 where
  pub named : s.name ≡ name
  pub limited : s.places.limit ≡ limit
  pub end : s.root.end ≡ s.places.end
  pub free : s.places.free ≡ []
  pub retired : s.places.retired ≡ []
  pub committed : s.committed ≡ s.dataset.shape.rows
  pub waiting : s.waiting ≡ []
  pub waits : s.waits ≡ 0
  pub writing : s.root.flags % 2 ≡ 1
  pub swmr : s.root.flags / 4 % 2 ≡ 1
  pub pending : s.pending ≡ first_pieces by s.root
  pub running : s.stopped ≡ false
  pub frees : s.keeps ≡ false
  pub budgeted : s.budget ≡ budget
  pub early : s.early ≡ 0
  pub chunks : s.chunks ≡ []
  pub flushing : s.flushing ≡ false

-- ---- Several datasets

-- The dataset to which the link of this name leads, to which rows may be appended.
pub record HasDatasetBy (by : Beginning) (img : List ℕ) (size : ℕ) (name : List ℕ) (s : Session) : Type 0 where
  pub found : Opened
  pub is : found_by by size name img ≡ Ok found
  pub place : s.place ≡ found.place
  pub dataset : s.dataset ≡ found.header.dataset
  pub unrefused : refused_dataset found ≡ None

-- One session over all of them, with the superblock of a writer.
pub record IsBegunAll (by : Beginning) (img : List ℕ) (size : ℕ) (names : List (List ℕ)) (S : Sessions) : Type 0 where
  pub root : Super
  pub super : super_at (range img 0 48) ≡ Ok root
  pub flags : HadFlags by root.flags
  pub root_is : S.root ≡ root_by by root
  pub datasets : AllPaired (HasDatasetBy by img size) names S.parts

-- why no session begins so
abbrev pub IsNoneBegun : Beginning → List ℕ → ℕ → List (List ℕ) → OpenError → Type 0
IsNoneBegun beginnings.Opened img size names = IsNotOpenedBy img size names
IsNoneBegun beginnings.TakenOver img size names = IsNotTakenBy img size names

-- the session, or the first refusal; a failed image and want of memory are neither
abbrev pub IsAllAnswer : Beginning → List ℕ → ℕ → List (List ℕ) → (limit budget : ℕ) → Result Sessions OpenError → Type 0
IsAllAnswer by img size names limit budget (Ok S) = IsBegunAll by img size names S
IsAllAnswer by img size names limit budget (Err e) = IfRefusal (refusal_of e) (IsNoneBegun by img size names)

-- the session of sessions that begin together
abbrev pub sessions_by : Beginning → Super → ℕ → List Session → Sessions
sessions_by beginnings.Opened root limit ss = sessions_over root limit ss
sessions_by beginnings.TakenOver root limit ss = sessions_at_rest root limit ss

-- What it has, whatever the image is.
pub record HaveBegunBy (by : Beginning) (names : List (List ℕ)) (limit budget : ℕ) (S : Sessions) : Type 0 where
  pub parts : List Session
  pub begun : HaveBegun names limit budget parts
  pub session : S ≡ sessions_by by begun.root limit parts
  pub sessions : AreSessions S
  pub pending : all_pending S.parts ≡ first_pieces by S.root
  pub each : AllPaired (BeginsWith budget S.root) names S.parts
  pub end : S.places.end ≡ S.root.end
  pub limited : S.places.limit ≡ limit
  pub going : S.stopped ≡ false
