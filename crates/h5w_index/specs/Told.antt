-- What the calls of an index tell a session, whichever its kind.
use Rattle.std.specs.Prelude.{◌≡◌, ◌≢◌, ℕ, true, List, ◌∷◌, if◌then◌else◌}
use Rattle.h5w_model.specs.Numbers.{undefined}
use Rattle.h5w_model.specs.declared.cell.Key.{Key}
use Rattle.h5w_space.specs.Space.{Space}
use Rattle.h5w_cache.specs.Stores.{is_changed, place_of}
use Rattle.h5w_step_laws.specs.Ranges.{chunk_at}
use Rattle.h5w_array_laws.specs.Among.{AreAmong}
use Rattle.h5w_bt_index.specs.Index.{IsClean, KeepsShares}
use Rattle.h5w_bt_index.specs.Marks.{Part}
use Rattle.h5w_tree_index_laws.specs.TreeImages.{AreSame, SameNodes}
use Rattle.h5w_index.specs.Views.{IndexView, an_array, a_tree, HasSlot, IsSound, StandsOn, Stays, TakesKey, address_in, behind_of, fixed_of, header_place, is_key, kind_of}
use Rattle.h5w_index.specs.Steps.{IsHeld, IsSet, IsUnset}

-- the blocks are where they were
abbrev pub SameBlocks : IndexView → IndexView → Type 0
SameBlocks (an_array v) (an_array w) = (n : ℕ) → place_of w n ≡ place_of v n
SameBlocks (a_tree p v) (a_tree q w) = SameNodes v w
SameBlocks (an_array v) (a_tree q w) = ⊥
SameBlocks (a_tree p v) (an_array w) = ⊥

-- no mark of a change is lost: what is clean was so before
abbrev pub KeepsMarks : IndexView → IndexView → Type 0
KeepsMarks (an_array v) (an_array w) = (n : ℕ) → is_changed v n ≡ true → is_changed w n ≡ true
KeepsMarks (a_tree p v) (a_tree q w) = (part : Part) → IsClean part w → IsClean part v
KeepsMarks (an_array v) (a_tree q w) = ⊥
KeepsMarks (a_tree p v) (an_array w) = ⊥

-- whatever share of their capacity the nodes of a tree have, all but the root, they keep
abbrev pub SameShares : IndexView → IndexView → Type 0
SameShares (an_array v) (an_array w) = Unit {0}
SameShares (a_tree p v) (a_tree q w) = KeepsShares v w
SameShares (an_array v) (a_tree q w) = ⊥
SameShares (a_tree p v) (an_array w) = ⊥

-- It is as it was, but for the map: its kind, where its blocks are, which of them changed, the shares of its nodes, the keys for which
-- places are held, and what stands.
pub record IsLike (v w : IndexView) : Type 0 where
  pub kind : kind_of w ≡ kind_of v
  pub place : header_place w ≡ header_place v
  pub fixed : fixed_of w ≡ fixed_of v
  pub blocks : SameBlocks v w
  pub marks : KeepsMarks v w
  pub shares : SameShares v w
  pub sound : IsSound w
  pub takes : (key : Key) → TakesKey v key → TakesKey w key
  pub one : (key other : Key) → is_key w key other ≡ is_key v key other
  pub slots : (key : Key) → HasSlot v key → HasSlot w key
  pub stays : (s : Space) → Stays v s → Stays w s
  pub stands : (img : List ℕ) → StandsOn v img → StandsOn w img

abbrev pub SameMap : IndexView → IndexView → Type 0
SameMap v w = (key : Key) → address_in w key ≡ address_in v key

-- the map is another at one key
abbrev pub MapsTo : Key → ℕ → IndexView → IndexView → Type 0
MapsTo key address v w = (other : Key) → address_in w other ≡ (if is_key v key other then address else address_in v other)

-- the blocks on the way to a key are there: the map stays
pub record HeldTold (v w : IndexView) : Type 0 where
  pub like : IsLike v w
  pub map : SameMap v w

-- a chunk got an address, and the place for it is held: of ranges there is its own more, and none other
pub record SetTold (key : Key) (address : ℕ) (v w : IndexView) : Type 0 where
  pub like : IsLike v w
  pub slot : HasSlot w key
  pub map : MapsTo key address v w
  pub behind : (bytes : ℕ) → AreAmong (behind_of bytes w) (chunk_at address bytes ∷ behind_of bytes v)

-- a chunk has no address any more: of ranges there is none other
pub record UnsetTold (key : Key) (v w : IndexView) : Type 0 where
  pub like : IsLike v w
  pub map : MapsTo key undefined v w
  pub behind : (bytes : ℕ) → AreAmong (behind_of bytes w) (behind_of bytes v)

-- ---- Laws

abbrev pub HeldTells : Type 0
HeldTells = (key : Key) (v w : IndexView) → IsSound v → IsHeld key v w → HeldTold v w

abbrev pub SetTells : Type 0
SetTells = (key : Key) (address : ℕ) (v w : IndexView) → IsSound v → address ≢ undefined → IsSet key address v w → SetTold key address v w

abbrev pub UnsetTells : Type 0
UnsetTells = (key : Key) (v w : IndexView) → IsSound v → HasSlot v key → IsUnset key v w → UnsetTold key v w

-- an index is like itself, and likeness goes on
pub record LikeLaws : Type 0 where
  pub itself : (v : IndexView) → IsSound v → IsLike v v
  pub onward : (u v w : IndexView) → IsLike u v → IsLike v w → IsLike u w

-- Where the map is the same too, so are the ranges, perhaps in another order: so once a refused flush has taken back what it set.
abbrev pub SameRanges : Type 0
SameRanges = (v w : IndexView) (bytes : ℕ) → IsSound v → IsLike v w → SameMap v w → AreSame (behind_of bytes w) (behind_of bytes v)
