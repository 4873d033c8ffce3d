-- The chunks that rows go into get their places, one after another; the index names each new one at once. Whichever its kind.
use Rattle.std.specs.Prelude.{◌≡◌, ◌≢◌, ℕ, ◌+◌, ◌*◌, ◌/◌, ◌<◌, ◌≤◌, false, List, ◌++◌, length, Some}
use Rattle.std.specs.List.{All, slice_get}
use Rattle.h5w_model.specs.Numbers.{undefined}
use Rattle.h5w_model.specs.Datasets.{Described}
use Rattle.h5w_model.specs.Tables.{chunks_across}
use Rattle.h5w_model.specs.Findings.{chunk_bytes}
use Rattle.h5w_model.specs.declared.cell.Key.{Key}
use Rattle.h5w_model.specs.declared.piece.Write.{Write}
use Rattle.h5w_space.specs.Space.{Space}
use Rattle.h5w_space.specs.declared.Extent.{Extent}
use Rattle.h5w_cache.specs.Plans.{Chain, Took}
use Rattle.h5w_cache.specs.Stores.{Store}
use Rattle.h5w_cache.specs.declared.moves.Move.{Move}
use Rattle.h5w_chunks.specs.Grids.{chunk_len}
use Rattle.h5w_chunks.specs.Shares.{first_line, touched_key}
use Rattle.h5w_chunks.specs.declared.grid.ChunkPlace.{ChunkPlace}
use Rattle.h5w_array_laws.specs.Among.{AreAmong}
use Rattle.h5w_array_laws.specs.ArrayStores.{IsHeaded, IsNumbered}
use Rattle.h5w_step_laws.specs.Moments.{Moment}
use Rattle.h5w_flush_laws.specs.Parts.{block_writes}
use Rattle.h5w_flush_laws.specs.Spaces.{Taken}
use Rattle.h5w_flush_laws.specs.Rows.{IsOutside, IsPlaced, new_chunks}
use Rattle.h5w_flush_laws.specs.Chunks.{chunks_for}
use Rattle.h5w_index.specs.Views.{IndexView, an_array, a_tree, HasSlot, IsReached, IsSound, KeepsReach, address_in, behind_of, is_key, kind_of}
use Rattle.h5w_index.specs.Steps.{IsHeld, IsPlan, IsSet, IsUnset}
use Rattle.h5w_index.specs.Told.{HeldTold, IsLike}
use Rattle.h5w_index.specs.Flushes.{AreCopies, IsIndexPart, Rests}
use Rattle.h5w_index.specs.Marks.{IsMarked, IsRaised, IsTouched}

-- it is of the dataset's kind, and the dataset has columns
pub record Fits (d : Described) (v : IndexView) : Type 0 where
  pub kind : d.layout.index ≡ kind_of v
  pub some : 0 < chunks_across d

-- each chunk that has an address, of those from the band of the next row on, ends by a place
abbrev pub AreInside : Described → ℕ → IndexView → Type 0
AreInside d end v = (key : Key) → first_line d (d.shape.rows / d.layout.chunk_rows) ≤ key.i → address_in v key ≢ undefined → address_in v key + chunk_len d ≤ end

-- an array's blocks name its header and their first slots, and the header's six numbers are true
pub record IsOwnArray (v : Store) : Type 0 where
  pub headed : IsHeaded v
  pub numbered : IsNumbered v

-- it is an index as it is made here
abbrev pub IsOwn : IndexView → Type 0
IsOwn (an_array v) = IsOwnArray v
IsOwn (a_tree place v) = Unit {0}

-- Chunks of these keys may have got an address, and nothing else did: places are held for chunks that rows go into.
pub record IsPartly (d : Described) (to : ℕ) (v : IndexView) (added : List Key) (w : IndexView) : Type 0 where
  pub like : IsLike v w
  pub slots : All (HasSlot w) added
  pub touches : All (IsTouched d d.shape.rows to) added
  pub absent : All (λ key. address_in v key ≡ undefined) added
  pub rest : (key : Key) → All (λ other. is_key v other key ≡ false) added → address_in w key ≡ address_in v key
  pub own : IsOwn v → IsOwn w
  pub marks : IsMarked d d.shape.rows to v → IsMarked d d.shape.rows to w
  pub reach : KeepsReach v w

-- the key of the next chunk, behind so many
abbrev pub next_key : Described → List ChunkPlace → Key
next_key d chunks = touched_key d d.shape.rows (length chunks)

-- ranges were taken one after another
abbrev pub TakesEach : Space → List Extent → Space → Type 0
TakesEach s rs t = Chain (λ (u : Space) (r : Extent) (n : Space). Took u n r) s rs t

-- the same places, but for the room that they have
pub record IsCopy (s t : Space) : Type 0 where
  pub end : t.end ≡ s.end
  pub free : t.free ≡ s.free
  pub retired : t.retired ≡ s.retired
  pub limit : t.limit ≡ s.limit

-- Some first chunks have their places, the index names them there, and readers look for them: v and s are index and places before.
pub record IsPlacing (d : Described) (to : ℕ) (v : IndexView) (s : Space) (chunks : List ChunkPlace) (added : List Key) (w : IndexView) (t : Space) : Type 0 where
  pub partly : IsPartly d to v added w
  pub placed : (k : ℕ) (p : ChunkPlace) → slice_get chunks k ≡ Some p → IsPlaced d (address_in v) (address_in w) d.shape.rows k p
  pub others : (key : Key) → ((k : ℕ) → k < length chunks → is_key v (touched_key d d.shape.rows k) key ≡ false) → address_in w key ≡ address_in v key
  pub behind : AreAmong (behind_of (chunk_bytes d) w) (new_chunks d (address_in v) d.shape.rows 0 chunks ++ behind_of (chunk_bytes d) v)
  pub taken : Taken s (new_chunks d (address_in v) d.shape.rows 0 chunks) t
  pub raised : IsRaised s t (length chunks * chunk_bytes d)
  pub inside : (k : ℕ) (p : ChunkPlace) → slice_get chunks k ≡ Some p → p.address + chunk_len d ≤ t.end
  pub reached : (k : ℕ) (p : ChunkPlace) → slice_get chunks k ≡ Some p → IsReached w (touched_key d d.shape.rows k)
  -- by nothing but places that were taken
  pub first : Space
  pub copied : IsCopy s first
  pub ranges : List Extent
  pub each : TakesEach first ranges t

-- ---- Laws

-- all chunks have their places: each other key gives what it gave
pub record AllPlaced (d : Described) (to : ℕ) (v : IndexView) (w : IndexView) : Type 0 where
  pub like : IsLike v w
  pub others : (key : Key) → IsOutside d d.shape.rows to key → address_in w key ≡ address_in v key

-- What readers look for they look for after each call too, where it has an address; and they look for each chunk that gets one. They do
-- for all chunks of an index that was made here, and for each chunk of a lower band.
pub record ReachLaws : Type 0 where
  pub held : (key other : Key) (v w : IndexView) → IsHeld key v w → IsReached v other → IsReached w other
  pub set : (key other : Key) (address : ℕ) (v w : IndexView) → IsSet key address v w → IsReached v other → IsReached w other
  pub new : (key : Key) (address : ℕ) (v w : IndexView) → IsSet key address v w → IsReached w key
  pub unset : (key : Key) (v w : IndexView) → IsUnset key v w → KeepsReach v w
  pub planned : (v : IndexView) (s : Space) (ms : List Move) (copies fixed : List Write) (w : IndexView) (t : Space) → IsSound v → IsPlan v s ms copies fixed w t → (key : Key) → IsReached v key → IsReached w key
  pub own : (v : IndexView) (key : Key) → IsOwn v → address_in v key ≢ undefined → IsReached v key
  pub lower : (v : IndexView) (key other : Key) → other.i ≤ key.i → IsReached v key → IsReached v other

-- an index stays one that was made here
pub record OwnLaws : Type 0 where
  pub held : (key : Key) (v w : IndexView) → IsHeld key v w → IsOwn v → IsOwn w
  pub set : (key : Key) (address : ℕ) (v w : IndexView) → IsSet key address v w → IsOwn v → IsOwn w
  pub unset : (key : Key) (v w : IndexView) → IsUnset key v w → IsOwn v → IsOwn w
  pub planned : (v : IndexView) (s : Space) (ms : List Move) (copies fixed : List Write) (w : IndexView) (t : Space) → IsSound v → IsPlan v s ms copies fixed w t → IsOwn v → IsOwn w

-- What such a session shows of its index as the part of a flush, from what it knows of it, the places of the chunks and the plan.
abbrev pub IndexPart : Type 0
IndexPart = (img : List ℕ) (m : Moment) (old : Key → ℕ) (s between t : Space) (to : ℕ) (v held w : IndexView) (places : List ChunkPlace) (added : List Key) (ms : List Move) (copies : List (ℕ × List ℕ)) (fixed : List Write)
    → Rests img m old s v → IsPlacing m.dataset to v s places added held between → IsPlan held between ms (block_writes copies) fixed w t → AreCopies held ms copies
    → IsIndexPart img m held between ms w t (chunks_for m old places) copies fixed

-- After a flush that was refused the index rests as before.
abbrev pub RestsHeld : Type 0
RestsHeld = (img : List ℕ) (m : Moment) (old : Key → ℕ) (s : Space) (v w : IndexView) → HeldTold v w → Rests img m old s v → Rests img m old s w
