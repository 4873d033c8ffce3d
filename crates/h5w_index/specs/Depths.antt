-- Where no key is too much for an index, whichever its kind.
use Rattle.std.specs.Prelude.{ℕ, ◌*◌, ◌<◌, ◌≤◌, List}
use Rattle.h5w_model.specs.declared.cell.Key.{Key}
use Rattle.h5w_model.specs.declared.piece.Write.{Write}
use Rattle.h5w_space.specs.Space.{Space}
use Rattle.h5w_cache.specs.declared.moves.Move.{Move}
use Rattle.h5w_bt_index.specs.Index.{Index, IsFilled, no_tree}
use Rattle.h5w_tree_index_laws.specs.TreeDepths.{KeysWithin}
use Rattle.h5w_index.specs.Views.{IndexView, an_array, a_tree, HasSlot, IsSound}
use Rattle.h5w_index.specs.Steps.{IsDeep, IsHeld, IsPlan, IsSet, IsUnset}

-- Only keys of the first so many bands, each of so many chunks, have records; and each node but the root has two fifths of its capacity.
pub record IsShallowTree (bands across : ℕ) (v : Index) : Type 0 where
  pub keys : KeysWithin bands across v
  pub filled : IsFilled v

-- It is such a tree, as each that was made here for such keys. A valid file may have others.
abbrev pub AreWithin : ℕ → ℕ → IndexView → Type 0
AreWithin bands across (an_array v) = Unit {0}
AreWithin bands across (a_tree place v) = IsShallowTree bands across v

-- It is so of a tree without records, and of more bands; each call for such a key leaves it so. Where the keys are at most 1,114,348, as
-- where a dataset has chunks within the limit, no place is refused for want of depth.
pub record DepthLaws : Type 0 where
  pub none : (bands across place : ℕ) → AreWithin bands across (a_tree place no_tree)
  pub more : (bands across later : ℕ) (v : IndexView) → bands ≤ later → AreWithin bands across v → AreWithin later across v
  pub held : (bands across : ℕ) (key : Key) (v w : IndexView) → IsSound v → key.i < bands → key.j < across → IsHeld key v w → AreWithin bands across v → AreWithin bands across w
  pub set : (bands across : ℕ) (key : Key) (address : ℕ) (v w : IndexView) → IsSound v → key.i < bands → key.j < across → IsSet key address v w → AreWithin bands across v → AreWithin bands across w
  pub unset : (bands across : ℕ) (key : Key) (v w : IndexView) → IsSound v → HasSlot v key → IsUnset key v w → AreWithin bands across v → AreWithin bands across w
  pub planned : (bands across : ℕ) (v : IndexView) (s : Space) (ms : List Move) (copies fixed : List Write) (w : IndexView) (t : Space) → IsPlan v s ms copies fixed w t → AreWithin bands across v → AreWithin bands across w
  pub shallow : (bands across : ℕ) (key : Key) (v : IndexView) → IsSound v → AreWithin bands across v → bands * across ≤ 1114348 → IsDeep v key → ⊥
