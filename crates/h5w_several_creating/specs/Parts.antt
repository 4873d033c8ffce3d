-- The sessions over the datasets of a new file, as they begin once its pieces are visible.
use Rattle.std.specs.Prelude.{◌≡◌, ◌^◌, ℕ, ◌≤◌, List, [], ◌∷◌, ◌++◌}
use Rattle.h5w_chunks.specs.Grids.{IsGrid, dataset_of}
use Rattle.h5w_index.specs.Views.{IndexView, IsSound}
use Rattle.h5w_creation.specs.Forms.{IsForm}
use Rattle.h5w_creation.specs.Made.{IsNewIndex}
use Rattle.h5w_creation_laws.specs.CreatedFiles.{CreatedFile, described_of, header_len}
use Rattle.h5w_several_creation_laws.specs.SeveralFiles.{block_behind, end_behind, index_behind}
use Rattle.h5w_several_creation.specs.Forms.{any_by}
use Rattle.h5w_writer.specs.Creations.{places_to}
use Rattle.h5w_writer.specs.PartLaws.{super_piece}
use Rattle.h5w_writer.specs.Sessions.{Session}
use Rattle.h5w_several_creating.specs.Created.{AreIndexes, created_part}
use Rattle.h5w_several_creating.specs.declared.parts.Mold.{Mold}
use Rattle.h5w_several_creating.specs.declared.parts.Shared.{Shared}

-- the dataset of its form, and how long its header is
pub record IsMold (m : Mold) : Type 0 where
  pub form : IsForm m.form
  pub grid : IsGrid m.grid
  pub dataset : dataset_of m.grid ≡ described_of (any_by m.form)
  pub long : m.header_len ≡ header_len (any_by m.form)

-- the superblock of a small file, and bounds of a session
pub record IsShared (t : Shared) : Type 0 where
  pub version : t.root.version ≡ 3
  pub small : t.root.end ≤ 8192
  pub limit : t.limit ≤ 2 ^ 40
  pub budget_low : 1024 ≤ t.budget
  pub budget_high : t.budget ≤ 2 ^ 30

-- the session of this dataset: the superblock is pending
abbrev pub over_part : Shared → ℕ → CreatedFile → IndexView → Session
over_part t place f v = record (created_part t.root (places_to t.root.end t.limit) t.budget place f v) { pending = super_piece t.root ∷ [] }

pub record IsPartOver (t : Shared) (place : ℕ) (f : CreatedFile) (s : Session) : Type 0 where
  pub index : IndexView
  pub sound : IsSound index
  pub new : IsNewIndex f.index (index_behind place f) (block_behind place f) index
  pub is : s ≡ over_part t place f index

abbrev pub over_parts : Shared → ℕ → List CreatedFile → List IndexView → List Session
over_parts t place [] vs = []
over_parts t place (f ∷ fs) [] = []
over_parts t place (f ∷ fs) (v ∷ vs) = over_part t place f v ∷ over_parts t (end_behind place f) fs vs

-- those of these datasets are put behind others
pub record AddsParts (t : Shared) (place : ℕ) (fs : List CreatedFile) (old new : List Session) : Type 0 where
  pub indexes : List IndexView
  pub are : AreIndexes place fs indexes
  pub is : new ≡ old ++ over_parts t place fs indexes
