-- What a writer takes of a file's headers, and that each step of a file leaves it so.
use Rattle.std.specs.Prelude.{◌≡◌, ℕ, ◌<◌, ◌≤◌, true, false, ◌==◌, List, [], ◌∷◌, length, None, Ok}
use Rattle.h5w_model.specs.Numbers.{undefined}
use Rattle.h5w_model.specs.Images.{image}
use Rattle.h5w_model.specs.Programs.{eval}
use Rattle.h5w_model.specs.Datasets.{HeaderFields}
use Rattle.h5w_model.specs.Findings.{Used, chunk_bytes}
use Rattle.h5w_model.specs.Tables.{Reading}
use Rattle.h5w_model.specs.Prefixed.{Stays, root_address}
use Rattle.h5w_model.specs.declared.root.Super.{Super}
use Rattle.h5w_step_laws.specs.Files.{LayoutInChunk0}
use Rattle.h5w_step_laws.specs.Moments.{Moment, Represents, reading_of}
use Rattle.h5w_creation_laws.specs.CreatedFiles.{CreatedFile, IsCreatable, created_moment, created_writes}
use Rattle.h5w_several_creation_laws.specs.SeveralFiles as several
use Rattle.h5w_several_creation_laws.specs.SeveralFiles.{AreCreatable, end_behind, first_place, moment_at, root_ranges, super_of}
use Rattle.h5w_headers.specs.Walks.{dataset_header_for, root_header_for}
use Rattle.h5w_opening.specs.Openings.{Opened, is_open, looked_for, most_chunk_bytes, refused_dataset}

-- Neither header has a message that asks whoever writes the file to know it; and the layout stands in chunk 0, as long as it names no index.
pub record CanBeWritten (img : List ℕ) (r : Reading) : Type 0 where
  pub root : (h : HeaderFields) × (eval img (root_header_for true (root_address img)) ≡ Ok h)
  pub header : (h : HeaderFields) × (eval img (dataset_header_for true r.place) ≡ Ok h)
  pub layout : r.dataset.layout.address ≡ undefined → LayoutInChunk0 img r.place

-- all up to the index is found of a file at a moment, and its dataset is not refused
pub record IsFoundSo (img name : List ℕ) (m : Moment) : Type 0 where
  pub found : Opened
  pub is : eval img (looked_for (length img) name) ≡ Ok found
  pub unrefused : refused_dataset found ≡ None
  pub dataset : found.header.dataset ≡ m.dataset
  pub root : found.root ≡ m.super

-- ---- Laws

-- what stays for readers stays for a writer, too
abbrev pub WritableStays : Type 0
WritableStays = (img new name : List ℕ) (m n : Moment) → Represents img name m → Represents new name n → Stays img (reading_of m) new (reading_of n)
    → CanBeWritten img (reading_of m) → CanBeWritten new (reading_of n)

-- a created file can be written once all of its pieces are shown
abbrev pub CreatedWritable : Type 0
CreatedWritable = (f : CreatedFile) → IsCreatable f → CanBeWritten (image [] (created_writes f)) (reading_of (created_moment f))

-- So it is of a created file of several datasets: of each of them, the first of which stands at a place.
abbrev pub EachWritable : List ℕ → Super → List Used → ℕ → List CreatedFile → Type 0
EachWritable img s root place [] = Unit {0}
EachWritable img s root place (f ∷ fs) = CanBeWritten img (reading_of (moment_at s root place f)) × EachWritable img s root (end_behind place f) fs

abbrev pub SeveralWritable : Type 0
SeveralWritable = (fs : List CreatedFile) → AreCreatable fs → EachWritable (image [] (several.created_writes fs)) (super_of 5 fs) (root_ranges fs) (first_place fs) fs

-- with a superblock of version 3 and no writer's flags, with columns and chunks that are not too large, all is found
abbrev pub WritableFound : Type 0
WritableFound = (img name : List ℕ) (m : Moment) → Represents img name m → CanBeWritten img (reading_of m) → (m.super.version == 2) ≡ false → is_open m.super.flags ≡ false
    → chunk_bytes m.dataset ≤ most_chunk_bytes → 0 < m.dataset.shape.cols → IsFoundSo img name m
