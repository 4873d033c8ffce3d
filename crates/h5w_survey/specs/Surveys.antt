-- What is found in a file that is to be written anew, and why one is refused.
use Rattle.std.specs.Prelude.{◌≡◌, ℕ, ◌≤◌, ◌%◌, ◌/◌, Bool, true, false, not, ◌||◌, ◌&&◌, ◌==◌, List, length, map, Ok}
use Rattle.std.specs.List.{AllByRecursion}
use Rattle.h5w_model.specs.Messages.{is_shape}
use Rattle.h5w_model.specs.Numbers.{range}
use Rattle.h5w_model.specs.Programs.{eval}
use Rattle.h5w_model.specs.Superblock.{super_at}
use Rattle.h5w_model.specs.Tables.{Reading, format_limits, limit_of, needed}
use Rattle.h5w_model.specs.Findings.{AllFinds, found, overlap}
use Rattle.h5w_model.specs.Relations.{AllPaired}
use Rattle.h5w_model.specs.declared.root.Super.{Super}
use Rattle.h5w_several_laws.specs.Together.{IsAllValid}
use Rattle.h5w_chunks.specs.Grids.{IsGrid, dataset_of}
use Rattle.h5w_survey.specs.Lookups.{behind_root}
use Rattle.h5w_survey.specs.declared.error.SurveyError.{SurveyError}
use Rattle.h5w_survey.specs.declared.error.SurveyError.TheVariants.{Finding, Overlap, Flags, Failed, OutOfMemory}
use Rattle.h5w_packing.specs.Plans.{wanted_of}
use Rattle.h5w_packing.specs.Whole.{AllShow, AllWanted}
use Rattle.h5w_packing.specs.declared.source.Source.{Source}

-- somebody writes the file, or did not close it: flag bit 0 or 2 is set; of version 2 the flags say nothing
abbrev pub is_written : Super → Bool
is_written s = not (s.version == 2) && (not (s.flags % 2 == 0) || not (s.flags / 4 % 2 == 0))

-- Its grid is one, and its table has the needed chunks, which are within the limit, whatever the image was.
pub record IsSurveyed (s : Source) : Type 0 where
  pub grid : IsGrid s.grid
  pub listed : length s.table.items ≡ needed (dataset_of s.grid)
  pub few : needed (dataset_of s.grid) ≤ limit_of format_limits (dataset_of s.grid).layout.index

-- datasets under these names
pub record IsSurvey (names : List (List ℕ)) (ss : List Source) : Type 0 where
  pub named : map (λ (s : Source). s.name) ss ≡ names
  pub each : AllByRecursion IsSurveyed ss

-- a valid file that nobody writes, its superblock, and what it shows by each name
pub record IsClosedFile (img : List ℕ) (names : List (List ℕ)) (rs : List Reading) : Type 0 where
  pub valid : IsAllValid img names
  pub super : Super
  pub decoded : super_at (range img 0 48) ≡ Ok super
  pub closed : is_written super ≡ false
  pub shows : AllShow img names rs

-- It is what such a file shows.
pub record IsSurveyOf (img : List ℕ) (names : List (List ℕ)) (ss : List Source) : Type 0 where
  pub shown : List Reading
  pub file : IsClosedFile img names shown
  pub are : AllWanted names shown (map wanted_of ss)

-- a valid file that somebody writes, by its flags
pub record IsOpenFile (img : List ℕ) (names : List (List ℕ)) (flags : ℕ) : Type 0 where
  pub valid : IsAllValid img names
  pub super : Super
  pub decoded : super_at (range img 0 48) ≡ Ok super
  pub opened : is_written super ≡ true
  pub flags_are : super.flags ≡ flags

-- why a file is refused: the first finding, or its flags; a failed image and want of memory say nothing of it
abbrev pub IsRefusedFor : List ℕ → List (List ℕ) → SurveyError → Type 0
IsRefusedFor img names (Finding kind at) = AllFinds img names (found kind at)
IsRefusedFor img names (Overlap at len other other_len) = AllFinds img names (overlap at len other other_len)
IsRefusedFor img names (Flags flags) = IsOpenFile img names flags
IsRefusedFor img names Failed = Unit {0}
IsRefusedFor img names OutOfMemory = Unit {0}

-- ---- Its steps

-- the superblock of a file that nobody writes
pub record ClosedSuper (img : List ℕ) (s : Super) : Type 0 where
  pub decoded : super_at (range img 0 48) ≡ Ok s
  pub closed : is_written s ≡ false

-- why there is none in a valid file
abbrev pub RefusedSuper : List ℕ → SurveyError → Type 0
RefusedSuper img e = (names : List (List ℕ)) → IsAllValid img names → IsRefusedFor img names e

-- a reading that a file shows: its dataset is read and written, and its table has the needed chunks, within the limit
pub record IsWhole (r : Reading) : Type 0 where
  pub shaped : is_shape r.dataset.shape ≡ true
  pub listed : length r.table ≡ needed r.dataset
  pub few : needed r.dataset ≤ limit_of format_limits r.dataset.layout.index

-- the survey is what the root header at a place shows
pub record ReadsAs (img : List ℕ) (root : ℕ) (name : List ℕ) (s : Source) : Type 0 where
  pub named : s.name ≡ name
  pub shown : Reading
  pub shows : eval img (behind_root root name) ≡ Ok shown
  pub dataset : dataset_of s.grid ≡ shown.dataset
  pub table : s.table.items ≡ shown.table

-- a failed image, or want of memory
abbrev pub IsOutside : SurveyError → Type 0
IsOutside Failed = Unit {0}
IsOutside OutOfMemory = Unit {0}
IsOutside e = ⊥

-- where it shows a whole reading there is no other error
abbrev pub RefusedReading : List ℕ → ℕ → List ℕ → SurveyError → Type 0
RefusedReading img root name e = (r : Reading) → eval img (behind_root root name) ≡ Ok r → IsWhole r → IsOutside e

-- ---- Of all names

abbrev pub AllReadAs : List ℕ → ℕ → List (List ℕ) → List Source → Type 0
AllReadAs img root names ss = AllPaired (ReadsAs img root) names ss

-- a name by which it shows a whole reading
pub record IsRead (img : List ℕ) (root : ℕ) (name : List ℕ) (r : Reading) : Type 0 where
  pub shows : eval img (behind_root root name) ≡ Ok r
  pub whole : IsWhole r

-- where it shows one by each name there is no other error
abbrev pub RefusedAll : List ℕ → ℕ → List (List ℕ) → SurveyError → Type 0
RefusedAll img root names e = (rs : List Reading) → AllPaired (IsRead img root) names rs → IsOutside e
