-- The datasets of a file that is opened by several names, one after another.
use Rattle.std.specs.Prelude.{◌≡◌, ℕ, List, [], ◌∷◌, ◌++◌, take, Option, Some, None, IfSome, Result, Ok, Err}
use Rattle.h5w_model.specs.Numbers.{range}
use Rattle.h5w_model.specs.Superblock.{super_at}
use Rattle.std.specs.List.{AllByRecursion}
use Rattle.h5w_model.specs.Causes.{Rose}
use Rattle.h5w_model.specs.Relations.{AllPaired}
use Rattle.h5w_model.specs.declared.root.Super.{Super}
use Rattle.h5w_image.specs.View.{ImageView, Looked}
use Rattle.h5w_looks.specs.Still.{IsStill}
use Rattle.h5w_index.specs.Views.{IndexView}
use Rattle.h5w_opening.specs.Errors.{IsOpenKind, refusal_of}
use Rattle.h5w_opening.specs.Openings.{Opened}
use Rattle.h5w_opening.specs.declared.error.OpenError.{OpenError}
use Rattle.h5w_opening.specs.declared.error.OpenError.TheVariants.{Failed}
use Rattle.h5w_writer.specs.Sessions.{Session}
use Rattle.h5w_writer_open.specs.declared.index.NoIndex.{NoIndex}
use Rattle.h5w_writer_open.specs.OpenAnswers.{IfRefusal, writing_flags}
use Rattle.h5w_writer_open.specs.OpenParts.{IsPartOver, IsReadAt, refused_part}
use Rattle.h5w_writer_open.specs.OpenSteps.{Says}
use Rattle.h5w_several_open.specs.Answers.{CanRead, FirstUnfit, FirstUnread, HasBegunWith, IsFit}

-- the superblock by which a file says that it is written
abbrev pub writing_root : Super → Super
writing_root s = record s { version = 3; flags = writing_flags s.flags }

-- a dataset that was read, and the session over it or why it is refused
pub record IsPartAt (img : List ℕ) (root : Super) (place : ℕ) (name : List ℕ) (limit budget : ℕ) (r : Result Session OpenError) : Type 0 where
  pub found : Opened
  pub index : Result IndexView NoIndex
  pub read : IsReadAt img root place found index
  pub says : Says (IsPartOver img found index name limit budget) (λ e. refused_part found index ≡ Some e) r

-- a session is put behind others, or the first refusal is kept
abbrev pub first_refusal : Option OpenError → Result Session OpenError → Option OpenError
first_refusal (Some e) r = Some e
first_refusal None (Ok s) = None
first_refusal None (Err e) = Some e

abbrev pub joined : List Session → Result Session OpenError → List Session
joined ss (Ok s) = ss ++ s ∷ []
joined ss (Err e) = ss

-- A dataset whose header stands there, all of which was read, and the session over it.
pub record IsSessionAt (img : List ℕ) (root : Super) (limit budget : ℕ) (name : List ℕ) (place : ℕ) (s : Session) : Type 0 where
  pub found : Opened
  pub index : Result IndexView NoIndex
  pub read : IsReadAt img root place found index
  pub over : IsPartOver img found index name limit budget s

-- one for each name and place
pub data AreSessionsAt (img : List ℕ) (root : Super) (limit budget : ℕ) : List (List ℕ) → List ℕ → List Session → Type 0 where
  no_session : AreSessionsAt img root limit budget [] [] []
  a_session : (name : List ℕ) (place : ℕ) (s : Session) (names : List (List ℕ)) (places : List ℕ) (ss : List Session) → IsSessionAt img root limit budget name place s → AreSessionsAt img root limit budget names places ss
      → AreSessionsAt img root limit budget (name ∷ names) (place ∷ places) (s ∷ ss)

-- Why one of the datasets is refused: the first that is not read; or, once all were read, the first to which no rows are appended.
pub data IsRefusedAt (img : List ℕ) (root : Super) (places : List ℕ) : OpenError → Type 0 where
  unread_at : (e : OpenError) → FirstUnread img root places e → IsRefusedAt img root places e
  unfit_at : (e : OpenError) → AllByRecursion (CanRead img root) places → FirstUnfit img root places e → IsRefusedAt img root places e

-- what is told of the first datasets
abbrev pub AreTold : List ℕ → Super → List (List ℕ) → List ℕ → (limit budget : ℕ) → ℕ → Option OpenError → List Session → Type 0
AreTold img root names places limit budget i None ss = AreSessionsAt img root limit budget (take i names) (take i places) ss × AllByRecursion (IsFit img root) (take i places)
AreTold img root names places limit budget i (Some e) ss = IfRefusal (refusal_of e) (FirstUnfit img root places)

-- So many datasets were read, and the sessions over them are these, or the first refusal was this.
pub record SoFar (v w : ImageView) (root : Super) (names : List (List ℕ)) (places : List ℕ) (limit budget : ℕ) (i : ℕ) (refused : Option OpenError) (ss : List Session) : Type 0 where
  pub looked : Looked v w
  pub cause : refused ≡ Some Failed → Rose v.faults w.faults
  pub kinds : IfSome refused IsOpenKind
  pub begun : refused ≡ None → AllPaired (HasBegunWith limit budget (writing_root root)) (take i names) ss
  pub exact : (img : List ℕ) → IsStill v img → AllByRecursion (CanRead img root) (take i places) × AreTold img root names places limit budget i refused ss

-- what is said of all datasets, in a file that begins with a superblock
abbrev pub ArePartsAnswer : List ℕ → Super → List (List ℕ) → List ℕ → (limit budget : ℕ) → Result (List Session) OpenError → Type 0
ArePartsAnswer img root names places limit budget (Ok ss) = AreSessionsAt img root limit budget names places ss
ArePartsAnswer img root names places limit budget (Err e) = (s : Super) → super_at (range img 0 48) ≡ Ok s → IfRefusal (refusal_of e) (IsRefusedAt img root places)
