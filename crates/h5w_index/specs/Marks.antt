-- Which blocks of an index changed since they were written, and what a plan of them takes at most, whichever its kind.
use Rattle.std.specs.Prelude.{◌≡◌, ℕ, ◌+◌, ◌*◌, ◌<◌, ◌≤◌, max, true, List, length}
use Rattle.h5w_model.specs.Datasets.{Described}
use Rattle.h5w_model.specs.declared.cell.Key.{Key}
use Rattle.h5w_model.specs.declared.piece.Write.{Write}
use Rattle.h5w_space.specs.Space.{Space}
use Rattle.h5w_space.specs.declared.Full.{Full}
use Rattle.h5w_cache.specs.Plans.{IsRefused}
use Rattle.h5w_cache.specs.Stores.{Store, is_changed, times}
use Rattle.h5w_cache.specs.declared.moves.Move.{Move}
use Rattle.h5w_chunks.specs.Shares.{touched, touched_key}
use Rattle.h5w_array_laws.specs.Parts.{holder}
use Rattle.h5w_ea_index.specs.Steps.{OnWay}
use Rattle.h5w_bt_index.specs.Index.{Index}
use Rattle.h5w_bt_nodes.specs.Blocks.{changes}
use Rattle.h5w_tree_index_laws.specs.TreeMarks.{HasChanged}
use Rattle.h5w_index.specs.Views.{IndexView, an_array, a_tree, IsClean, IsSound}
use Rattle.h5w_index.specs.Steps.{HasNoPlace, IsHeld, IsPlan, IsSet, IsUnset}

-- Some of the rows `from` up to but not including `to` go into the chunk of this key: the number of the chunk among those that they touch.
pub record IsTouched (d : Described) (from to : ℕ) (key : Key) : Type 0 where
  pub number : ℕ
  pub inside : number < touched d from to
  pub is : key ≡ touched_key d from number

-- each changed block of an array is on the way to such a chunk
abbrev pub ArrayMarked : Described → ℕ → ℕ → Store → Type 0
ArrayMarked d from to v = (n : ℕ) → is_changed v n ≡ true → (key : Key) × IsTouched d from to key × OnWay (holder key.i) n

-- Some of these chunks, none twice, have their records under changed nodes alone, and for each of them at most seven nodes are changed: so
-- many as a record more changes.
pub record TreeMarked (d : Described) (from to : ℕ) (v : Index) : Type 0 where
  pub numbers : List ℕ
  pub once : (k : ℕ) → times k numbers ≤ 1
  pub inside : (k : ℕ) → 0 < times k numbers → k < touched d from to
  pub changed : (k : ℕ) → 0 < times k numbers → HasChanged v (touched_key d from k)
  pub few : changes v.depth v.root ≤ 7 * length numbers

-- The blocks of the index that changed did so for chunks that these rows go into.
abbrev pub IsMarked : Described → ℕ → ℕ → IndexView → Type 0
IsMarked d from to (an_array v) = ArrayMarked d from to v
IsMarked d from to (a_tree place v) = TreeMarked d from to v

-- It is so of a clean index, and where more rows wait; and each call for a chunk that the rows go into leaves it so, also one that was
-- refused.
pub record MarkLaws : Type 0 where
  pub clean : (d : Described) (from to : ℕ) (v : IndexView) → IsClean v → IsMarked d from to v
  pub more : (d : Described) (from to more : ℕ) (v : IndexView) → to ≤ more → IsMarked d from to v → IsMarked d from more v
  pub held : (d : Described) (from to : ℕ) (key : Key) (v w : IndexView) → IsSound v → IsTouched d from to key → IsHeld key v w → IsMarked d from to v → IsMarked d from to w
  pub set : (d : Described) (from to : ℕ) (key : Key) (address : ℕ) (v w : IndexView) → IsSound v → IsTouched d from to key → IsSet key address v w → IsMarked d from to v → IsMarked d from to w
  pub unset : (d : Described) (from to : ℕ) (key : Key) (v w : IndexView) → IsSound v → IsTouched d from to key → IsUnset key v w → IsMarked d from to v → IsMarked d from to w

-- ---- What a plan takes

-- The end rose by so many bytes at most, and not past the limit.
pub record IsRaised (old new : Space) (most : ℕ) : Type 0 where
  pub rises : old.end ≤ new.end
  pub bound : new.end ≤ old.end + most
  pub limit : new.limit ≡ old.limit
  pub fits : new.end ≤ max old.end new.limit

-- For each chunk that the rows go into the file rises by 16,428 bytes at most, and there are 34 pieces at most, and 34 more.
pub record PlanBound (d : Described) (from to : ℕ) (s : Space) (copies fixed : List Write) (t : Space) : Type 0 where
  pub raised : IsRaised s t (touched d from to * 16428)
  pub pieces : length copies + length fixed ≤ touched d from to * 34 + 34

abbrev pub PlanBounds : Type 0
PlanBounds = (d : Described) (from to : ℕ) (v : IndexView) (s : Space) (ms : List Move) (copies fixed : List Write) (w : IndexView) (t : Space) → IsSound v → IsMarked d from to v → IsPlan v s ms copies fixed w t
    → PlanBound d from to s copies fixed t

-- The first block in turn that has no place: it has 8,214 bytes at most, and those before it raised the file by as much as a whole plan at
-- most.
pub record FullBound (d : Described) (from to : ℕ) (s : Space) (e : Full) : Type 0 where
  pub before : Space
  pub raised : IsRaised s before (touched d from to * 16428)
  pub size : ℕ
  pub some : 1 ≤ size
  pub few : size ≤ 8214
  pub refused : IsRefused before size e

abbrev pub FullBounds : Type 0
FullBounds = (d : Described) (from to : ℕ) (v : IndexView) (s : Space) (e : Full) → IsSound v → IsMarked d from to v → HasNoPlace v s e → FullBound d from to s e
