-- What the index of a session is for its file.
use Rattle.std.specs.Prelude.{◌≡◌, ◌⊎◌, ℕ, true, List}
use Rattle.h5w_model.specs.Numbers.{undefined}
use Rattle.h5w_model.specs.Datasets.{Described}
use Rattle.h5w_model.specs.declared.cell.Key.{Key}
use Rattle.h5w_space.specs.Space.{Space}
use Rattle.h5w_step_laws.specs.Moments.{Moment}
use Rattle.h5w_first_flush_laws.specs.Starting as arrays
use Rattle.h5w_first_flush_laws.specs.HeaderAlone.{IsHeaderAlone}
use Rattle.h5w_bt_index.specs.Index.{no_tree}
use Rattle.h5w_index.specs.Views.{IndexView, an_array, a_tree, IsSound, address_in, kind_of}
use Rattle.h5w_index.specs.Flushes.{Rests}
use Rattle.h5w_index.specs.Blocks.{has_no_block}

-- an index without chunks, of which nothing was written
abbrev pub IsBlank : IndexView → Type 0
IsBlank (an_array v) = arrays.IsBlank v
IsBlank (a_tree place v) = v ≡ no_tree

-- What the file lacks of its index: all of it, since its layout names none, or all of an array but the header, which names no index block.
pub data Lacks (img : List ℕ) (d : Described) (v : IndexView) : Type 0 where
  an_index : d.layout.address ≡ undefined → Lacks img d v
  a_block : IsHeaderAlone img d → has_no_block v ≡ true → Lacks img d v

-- The file lacks that, so no chunk has an address; and a blank index of its kind is kept, of which nothing is written.
pub record IsStarting (img : List ℕ) (m : Moment) (address : Key → ℕ) (v : IndexView) : Type 0 where
  pub kind : m.dataset.layout.index ≡ kind_of v
  pub lacks : Lacks img m.dataset v
  pub sound : IsSound v
  pub blank : IsBlank v
  pub map : (key : Key) → address key ≡ address_in v key

-- the file's index is this one, or the file lacks it
abbrev pub IsKeptIndex : List ℕ → Moment → (Key → ℕ) → Space → IndexView → Type 0
IsKeptIndex img m address s v = Rests img m address s v ⊎ IsStarting img m address v
