-- What is answered where a file is opened by several names.
use Rattle.std.specs.Prelude.{◌≡◌, ℕ, ◌<◌, ◌≤◌, List, [], get_or, length, take, Some, None, Result, Ok, Err}
use Rattle.std.specs.List.{AllByRecursion}
use Rattle.h5w_model.specs.Programs.{eval}
use Rattle.h5w_model.specs.Relations.{AllPaired}
use Rattle.h5w_model.specs.Superblock.{super_at, super_bytes}
use Rattle.h5w_model.specs.declared.root.Super.{Super}
use Rattle.h5w_index.specs.Views.{IndexView}
use Rattle.h5w_opening.specs.Errors.{refusal_of}
use Rattle.h5w_opening.specs.Fronts.{FrontFields, front_for}
use Rattle.h5w_opening.specs.Openings.{Opened}
use Rattle.h5w_opening.specs.declared.error.OpenError.{OpenError}
use Rattle.h5w_writer.specs.Sessions.{Session}
use Rattle.h5w_writer_open.specs.declared.index.NoIndex.{NoIndex}
use Rattle.h5w_writer_open.specs.OpenAnswers.{HasBegun, IfRefusal, IsOpenedOver}
use Rattle.h5w_writer_open.specs.OpenParts.{IsReadAt, IsUnread, refused_part}

-- ---- Datasets, each by the place of its header

-- all of it is read
pub record CanRead (img : List ℕ) (root : Super) (place : ℕ) : Type 0 where
  pub found : Opened
  pub index : Result IndexView NoIndex
  pub read : IsReadAt img root place found index

-- and rows are appended to it
pub record IsFit (img : List ℕ) (root : Super) (place : ℕ) : Type 0 where
  pub found : Opened
  pub index : Result IndexView NoIndex
  pub read : IsReadAt img root place found index
  pub fit : refused_part found index ≡ None

-- the first that is not read, and why
pub record FirstUnread (img : List ℕ) (root : Super) (places : List ℕ) (e : OpenError) : Type 0 where
  pub number : ℕ
  pub inside : number < length places
  pub before : AllByRecursion (CanRead img root) (take number places)
  pub why : IsUnread img root (get_or places number 0) e

-- the first that is read and to which no rows are appended, and why
pub record FirstUnfit (img : List ℕ) (root : Super) (places : List ℕ) (e : OpenError) : Type 0 where
  pub number : ℕ
  pub inside : number < length places
  pub before : AllByRecursion (IsFit img root) (take number places)
  pub found : Opened
  pub index : Result IndexView NoIndex
  pub read : IsReadAt img root (get_or places number 0) found index
  pub why : refused_part found index ≡ Some e

-- ---- The answer

-- Why a file of these bytes is not opened by these names: something before the first dataset header; the first dataset that is not read; or, once all
-- were read, the first to which no rows are appended.
pub data IsNotOpenedBy (img : List ℕ) (size : ℕ) (names : List (List ℕ)) : OpenError → Type 0 where
  no_front : (e : OpenError) → eval img (front_for size names) ≡ Err e → IsNotOpenedBy img size names e
  unread : (f : FrontFields) (e : OpenError) → eval img (front_for size names) ≡ Ok f → FirstUnread img f.root f.places e → IsNotOpenedBy img size names e
  unfit : (f : FrontFields) (e : OpenError) → eval img (front_for size names) ≡ Ok f → AllByRecursion (CanRead img f.root) f.places → FirstUnfit img f.root f.places e → IsNotOpenedBy img size names e

-- The sessions over a file of these bytes, of which no two names lead to one dataset header; each is the session that is opened by its name.
pub record IsOpenedBy (img : List ℕ) (size : ℕ) (names : List (List ℕ)) (limit budget : ℕ) (ss : List Session) : Type 0 where
  pub front : FrontFields
  pub is : eval img (front_for size names) ≡ Ok front
  pub each : AllPaired (λ (name : List ℕ) (s : Session). IsOpenedOver img size name limit budget s) names ss

-- the sessions, or the first refusal; a failed image and want of memory are neither
abbrev pub IsOpenAnswerOf : List ℕ → ℕ → List (List ℕ) → (limit budget : ℕ) → Result (List Session) OpenError → Type 0
IsOpenAnswerOf img size names limit budget (Ok ss) = IsOpenedBy img size names limit budget ss
IsOpenAnswerOf img size names limit budget (Err e) = IfRefusal (refusal_of e) (IsNotOpenedBy img size names)

-- What a session has that was opened with others, whatever the image is: beside what each has that was opened, the superblock and the places of all.
pub record HasBegunWith (limit budget : ℕ) (root : Super) (name : List ℕ) (s : Session) : Type 0 where
  pub begun : HasBegun name limit budget s
  pub root_is : s.root ≡ root
  pub places : s.places ≡ record { end = root.end; limit = limit; free = []; retired = []; spare = 0 }
  pub reads : super_at (super_bytes root) ≡ Ok root
  pub long : 48 ≤ root.end

-- all have one superblock
pub record HaveBegun (names : List (List ℕ)) (limit budget : ℕ) (ss : List Session) : Type 0 where
  pub root : Super
  pub version : root.version ≡ 3
  pub each : AllPaired (HasBegunWith limit budget root) names ss
