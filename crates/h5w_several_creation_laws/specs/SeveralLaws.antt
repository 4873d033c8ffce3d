-- The laws of a created file of several datasets.
use Rattle.std.specs.Prelude.{◌≡◌, ℕ, ◌+◌, ◌*◌, ◌≤◌, List, [], ◌∷◌, ◌++◌, length}
use Rattle.h5w_model.specs.Images.{image, Holds, AllSized}
use Rattle.h5w_model.specs.Findings.{Used, AllValid}
use Rattle.h5w_model.specs.declared.root.Super.{Super}
use Rattle.h5w_step_laws.specs.Moments.{Represents}
use Rattle.h5w_creation_laws.specs.CreatedFiles as one
use Rattle.h5w_creation_laws.specs.CreatedFiles.{CreatedFile, IsCreatable, header_len, block_write}
use Rattle.h5w_creation_laws.specs.CreationLaws.{WritesEndBy}
use Rattle.h5w_several_creation_laws.specs.SeveralFiles.{AreCreatable, names_of, end_behind, root_len, end_of, super_of, all_sets, root_bytes, root_block, super_block, created_writes, closed_writes, header_at, moment_at, root_ranges, new_summary}

-- ---- Sizes

-- each dataset's header has the length that is reckoned with
abbrev pub AllLong : ℕ → List CreatedFile → Type 0
AllLong place [] = Unit {0}
AllLong place (f ∷ fs) = (length (header_at place f).1 ≡ header_len f) × AllLong (end_behind place f) fs

-- So has the root header. Each piece has a piece's size, and ends within the end-of-file address; and the whole fits the least limit of a
-- file of so many datasets.
pub record AreLaidOut (fs : List CreatedFile) : Type 0 where
  pub root : length (root_bytes fs) ≡ root_len fs
  pub headers : AllLong (one.root_place + root_len fs) fs
  pub sized : AllSized (created_writes fs)
  pub within : WritesEndBy (end_of fs) (created_writes fs)
  pub end : end_of fs ≤ 1024 * length fs

abbrev pub SeveralSizes : Type 0
SeveralSizes = (fs : List CreatedFile) → AreCreatable fs → AreLaidOut fs

-- ---- The file

-- each dataset by itself is at its first moment: without rows, and with an index in which no chunk has an address
abbrev pub EachStands : List ℕ → Super → List Used → ℕ → List CreatedFile → Type 0
EachStands img s root place [] = Unit {0}
EachStands img s root place (f ∷ fs) = Represents img f.name (moment_at s root place f) × EachStands img s root (end_behind place f) fs

-- The image is the blocks up to the end-of-file address. Each dataset by itself is at its first moment. And no finding applies to all of
-- them together: each name is found, no two lead to one header, and no range meets another.
pub record AreNewFiles (flags : ℕ) (fs : List CreatedFile) (img : List ℕ) : Type 0 where
  pub blocks : Holds img (all_sets fs ++ root_block fs ∷ super_block flags fs ∷ [])
  pub size : length img ≡ end_of fs
  pub stands : EachStands img (super_of flags fs) (root_ranges fs) (one.root_place + root_len fs) fs
  pub valid : AllValid img (names_of fs) (new_summary fs)

-- once all pieces of a creation are shown, and once the session is closed
pub record SeveralStand (fs : List CreatedFile) : Type 0 where
  pub created : AreNewFiles 5 fs (image [] (created_writes fs))
  pub closed : AreNewFiles 0 fs (image [] (closed_writes fs))

abbrev pub SeveralStands : Type 0
SeveralStands = (fs : List CreatedFile) → AreCreatable fs → SeveralStand fs

-- ---- One dataset

-- for one name it is the created file of one dataset, piece by piece, and the moment of that
pub record IsOneDataset (f : CreatedFile) : Type 0 where
  pub end : end_of (f ∷ []) ≡ one.end_of f
  pub writes : created_writes (f ∷ []) ≡ one.created_writes f
  pub moment : moment_at (super_of 5 (f ∷ [])) (root_ranges (f ∷ [])) (one.root_place + root_len (f ∷ [])) f ≡ one.created_moment f

abbrev pub OneDataset : Type 0
OneDataset = (f : CreatedFile) → IsCreatable f → IsOneDataset f
