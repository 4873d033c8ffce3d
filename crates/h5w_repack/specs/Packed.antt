-- A file that has what another one has of some datasets, and why there is none.
use Rattle.std.specs.Prelude.{◌≡◌, ℕ, ◌≤◌, List, length}
use Rattle.std.specs.List.{AllByRecursion}
use Rattle.h5w_model.specs.Tables.{Fails, Reading, format_limits}
use Rattle.h5w_model.specs.Tiles.{TileFields}
use Rattle.h5w_model.specs.declared.refusal.ReadError.TheVariants.{NotHdf5}
use Rattle.h5w_space.specs.declared.Full.{Full}
use Rattle.h5w_packing.specs.Plans.{IsOut, IsPlanned, Wanted}
use Rattle.h5w_packing.specs.Jobs.{PackingView}
use Rattle.h5w_packing.specs.Whole.{AllWanted, IsPackedBy}
use Rattle.h5w_packing.specs.Shown.{EndsPast, ShowsCopies}
use Rattle.h5w_survey.specs.Surveys.{IsClosedFile, IsRefusedFor}
use Rattle.h5w_survey.specs.declared.error.SurveyError.TheVariants as surveys
use Rattle.h5w_repack.specs.declared.error.RepackError.{RepackError}
use Rattle.h5w_repack.specs.declared.error.RepackError.TheVariants.{Finding, Overlap, Flags, Space, From, To, OutOfMemory}

-- The file is what was planned for a valid source that nobody writes, by what the source shows by each name: it reads as the source does, it is
-- valid, and these ranges are its blocks and chunks.
pub record IsPacked (img : List ℕ) (names : List (List ℕ)) (limit : ℕ) (ranges : List TileFields) (to : List ℕ) : Type 0 where
  pub source : List Reading
  pub file : IsClosedFile img names source
  pub wanted : List Wanted
  pub are : AllWanted names source wanted
  pub packing : PackingView
  pub planned : IsPlanned wanted limit packing
  pub ranges_are : ranges ≡ packing.ranges
  pub packed : IsPackedBy img names source packing to

-- No reader finds a file in it, for whatever name.
abbrev pub IsNoFile : List ℕ → Type 0
IsNoFile b = (name : List ℕ) → Fails format_limits b name NotHdf5

-- A range of a file that packs a valid file that nobody writes would end past the limit.
pub record IsOutOf (img : List ℕ) (names : List (List ℕ)) (limit : ℕ) (full : Full) : Type 0 where
  pub source : List Reading
  pub file : IsClosedFile img names source
  pub wanted : List Wanted
  pub are : AllWanted names source wanted
  pub out : IsOut wanted limit full

-- Why a file is not packed, where the source tells its bytes and nobody else writes it.
abbrev pub IsNotPacked : List ℕ → List (List ℕ) → ℕ → RepackError → Type 0
IsNotPacked img names limit (Finding kind at) = IsRefusedFor img names (surveys.Finding kind at)
IsNotPacked img names limit (Overlap at len other other_len) = IsRefusedFor img names (surveys.Overlap at len other other_len)
IsNotPacked img names limit (Flags flags) = IsRefusedFor img names (surveys.Flags flags)
IsNotPacked img names limit (Space full) = IsOutOf img names limit full
IsNotPacked img names limit From = Unit {0}
IsNotPacked img names limit To = Unit {0}
IsNotPacked img names limit OutOfMemory = Unit {0}

-- ---- The same in words of the bytes of both files

-- The source is valid and nobody writes it. The new file ends by the limit, and has copies of all that the source shows.
pub record HasCopies (img : List ℕ) (names : List (List ℕ)) (limit : ℕ) (ranges : List TileFields) (to : List ℕ) : Type 0 where
  pub source : List Reading
  pub file : IsClosedFile img names source
  pub copies : ShowsCopies img names source ranges to
  pub within : length to ≤ limit

-- the source is valid and nobody writes it, and a range of the new file would end past the limit
pub record PassesLimit (img : List ℕ) (names : List (List ℕ)) (limit : ℕ) (full : Full) : Type 0 where
  pub source : List Reading
  pub file : IsClosedFile img names source
  pub past : EndsPast limit full

-- ---- Names

-- 1 to 8 names of at most 255 bytes
pub record ArePacks (names : List (List ℕ)) : Type 0 where
  pub some : 1 ≤ length names
  pub few : length names ≤ 8
  pub each : AllByRecursion (λ (name : List ℕ). length name ≤ 255) names

-- the errors that may come once something is written
abbrev pub MayBeLate : RepackError → Type 0
MayBeLate From = Unit {0}
MayBeLate To = Unit {0}
MayBeLate e = ⊥
