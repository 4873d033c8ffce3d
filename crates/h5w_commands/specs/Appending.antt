-- What an append to a file leaves, by how many datasets it names, and when it ends well.
use Rattle.std.specs.Prelude.{◌≡◌, ◌⊎◌, ℕ, ◌≤◌, Bool, true, false, List, [], ◌∷◌, length, slice_get, Option, Some, None, Ok, ℤ}
use Rattle.std.specs.List.{All}
use Rattle.h5w_model.specs.Causes.{Rose}
use Rattle.h5w_model.specs.Datasets.{Described}
use Rattle.h5w_model.specs.Lawful.{first_outside}
use Rattle.h5w_model.specs.Relations.{AllPaired}
use Rattle.h5w_image.specs.View.{DiskView}
use Rattle.h5w_opening.specs.Openings.{Opened}
use Rattle.h5w_opening.specs.declared.error.OpenError.{OpenError}
use Rattle.h5w_input.specs.Lines.{lines_of}
use Rattle.h5w_input.specs.Scripts.{number_line_of}
use Rattle.h5w_text.specs.Streams.{SourceView, SinkView}
use Rattle.h5w_text.specs.declared.status.Status.{Status}
use Rattle.h5w_text.specs.declared.status.Status.TheVariants as statuses
use Rattle.h5w_files.specs.Images.{told_bytes}
use Rattle.h5w_batches.specs.Inputs.{input_limit}
use Rattle.h5w_appending.specs.Appends.{AppendEnds}
use Rattle.h5w_appending.specs.Tells.{IsDatasetIn, TellsEnd}
use Rattle.h5w_several_open.specs.Beginnings.{IsNoneBegun, IsNotBegun, found_by}
use Rattle.h5w_several_open.specs.declared.beginning.Beginning.{Beginning}
use Rattle.h5w_several_open.specs.declared.beginning.Beginning.TheVariants as beginnings
use Rattle.h5w_several_batches.specs.SetLines.{set_line_of, used_after}
use Rattle.h5w_several_batches.specs.declared.line.SetLine.{SetLine}
use Rattle.h5w_several_batches.specs.declared.line.SetLine.TheVariants.{Numbers, Use}
use Rattle.h5w_several_appending.specs.Taken.{columns_of}
use Rattle.h5w_several_appending.specs.Ends.{SeveralTellsEnd}
use Rattle.h5w_several_appending.specs.Tells.{SeveralEnds}

-- how a session begins: it takes the file over where that is asked for
abbrev pub beginning_of : Bool → Beginning
beginning_of true = beginnings.TakenOver
beginning_of false = beginnings.Opened

-- a line of numbers has rows of a dataset, and each value is in the range of its type
abbrev pub HasRows : Described → List ℕ → Type 0
HasRows d line = (values : List ℤ) × (number_line_of d.shape.cols line ≡ Some values) × (first_outside d.int_type 0 values ≡ None)

-- A disk tells a file of this name, which nothing refuses, and a source tells an input, which is not too long; each of its
-- lines has rows of the file's dataset.
pub record HasInput (by : Beginning) (name at : List ℕ) (s : SourceView) (v : DiskView) : Type 0 where
  pub bytes : List ℕ
  pub told : told_bytes v.told name ≡ Some bytes
  pub unrefused : (e : OpenError) → IsNotBegun by bytes (length bytes) at e → ⊥
  pub found : Opened
  pub is : found_by by (length bytes) at bytes ≡ Ok found
  pub input : List ℕ
  pub given : s.left ≡ Some input
  pub bound : length input ≤ input_limit
  pub lines : All (HasRows found.header.dataset) (lines_of input)

-- An append in which neither disk nor source nor sink failed ends when all is done, or where there is no place for a chunk or a block,
-- or for want of memory.
abbrev pub AppendEndsWell : Beginning → List ℕ → List ℕ → Status → SourceView → SourceView → SinkView → SinkView → DiskView → DiskView → Type 0
AppendEndsWell by name at status s t k l v w =
    HasInput by name at s v → (Rose s.faults t.faults → ⊥) → (Rose k.faults l.faults → ⊥) → (Rose v.faults w.faults → ⊥) → (status ≡ statuses.Done) ⊎ ((status ≡ statuses.Limit) ⊎ (status ≡ statuses.Memory))

-- ---- Several datasets

-- what a line says where this dataset is in use is within the types: each value is in the range of that dataset's
abbrev pub IsWithin : List Described → ℕ → SetLine → Type 0
IsWithin ds used (Numbers values) = (d : Described) → slice_get ds used ≡ Some d → first_outside d.int_type 0 values ≡ None
IsWithin ds used (Use d) = Unit {0}

-- Lines say something, one after another, where this dataset is in use before them: rows of the dataset in use, of values of its type, or which
-- is in use next.
abbrev pub AllSay : List Described → ℕ → List (List ℕ) → Type 0
AllSay ds used [] = Unit {0}
AllSay ds used (line ∷ lines) = (said : SetLine) × (set_line_of (columns_of ds) used line ≡ Some said) × IsWithin ds used said × AllSay ds (used_after used said) lines

-- A disk tells a file of this name, which nothing refuses by all of these names, and a source tells an input, which is not too long; its
-- lines say something of the file's datasets, of which the first is in use at first.
pub record HasSeveralInput (by : Beginning) (name : List ℕ) (names : List (List ℕ)) (s : SourceView) (v : DiskView) : Type 0 where
  pub bytes : List ℕ
  pub told : told_bytes v.told name ≡ Some bytes
  pub unrefused : (e : OpenError) → IsNoneBegun by bytes (length bytes) names e → ⊥
  pub ds : List Described
  pub are : AllPaired (IsDatasetIn by bytes) names ds
  pub input : List ℕ
  pub given : s.left ≡ Some input
  pub bound : length input ≤ input_limit
  pub lines : AllSay ds 0 (lines_of input)

-- the same of an append to several datasets
abbrev pub SeveralEndsWell : Beginning → List ℕ → List (List ℕ) → Status → SourceView → SourceView → SinkView → SinkView → DiskView → DiskView → Type 0
SeveralEndsWell by name names status s t k l v w =
    HasSeveralInput by name names s v → (Rose s.faults t.faults → ⊥) → (Rose k.faults l.faults → ⊥) → (Rose v.faults w.faults → ⊥) → (status ≡ statuses.Done) ⊎ ((status ≡ statuses.Limit) ⊎ (status ≡ statuses.Memory))

-- ---- By how many names there are

-- the name, where it is the only one
abbrev pub only_of : List (List ℕ) → Option (List ℕ)
only_of (name ∷ []) = Some name
only_of names = None

-- what an append leaves: to the dataset of one name, or to those of several
abbrev pub AppendTells : Beginning → List ℕ → List (List ℕ) → (limit : ℕ) → SourceView → SourceView → DiskView → DiskView → Status → SinkView → SinkView → Type 0
AppendTells by file (name ∷ []) limit s t v w status k l = TellsEnd by file name limit s t v w status k l
AppendTells by file names limit s t v w status k l = SeveralTellsEnd by file names limit s t v w status k l

-- the same by the state of the session, too
abbrev pub AppendTellsInside : Beginning → List ℕ → List (List ℕ) → (limit budget : ℕ) → Bool → SourceView → SourceView → DiskView → DiskView → Status → SinkView → SinkView → Type 0
AppendTellsInside by file (name ∷ []) limit budget keeps s t v w status k l = AppendEnds by file name limit budget keeps s t v w status k l
AppendTellsInside by file names limit budget keeps s t v w status k l = SeveralEnds by file names limit s t v w status k l

-- that it ends well
abbrev pub AppendTellsWhole : Beginning → List ℕ → List (List ℕ) → Status → SourceView → SourceView → SinkView → SinkView → DiskView → DiskView → Type 0
AppendTellsWhole by file (name ∷ []) status s t k l v w = AppendEndsWell by file name status s t k l v w
AppendTellsWhole by file names status s t k l v w = SeveralEndsWell by file names status s t k l v w
