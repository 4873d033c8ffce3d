-- The laws of chunks that get their places, of what they take, and of what has none.
use Rattle.std.specs.Prelude.{◌≡◌, ◌≢◌, ℕ, ◌+◌, ◌*◌, ◌<◌, ◌≤◌, false, List, [], ◌∷◌, ◌++◌, length, Some}
use Rattle.std.specs.List.{slice_get}
use Rattle.h5w_model.specs.Numbers.{undefined}
use Rattle.h5w_model.specs.Datasets.{Described}
use Rattle.h5w_model.specs.declared.cell.Key.{Key}
use Rattle.h5w_model.specs.declared.piece.Write.{Write}
use Rattle.h5w_space.specs.Space.{Space, extent}
use Rattle.h5w_space.specs.declared.Full.{Full}
use Rattle.h5w_cache.specs.Plans.{Took}
use Rattle.h5w_cache.specs.declared.moves.Move.{Move}
use Rattle.h5w_chunks.specs.Grids.{chunk_len}
use Rattle.h5w_chunks.specs.Shares.{touched, touched_band}
use Rattle.h5w_chunks.specs.declared.grid.ChunkPlace.{ChunkPlace}
use Rattle.h5w_step_laws.specs.Files.{with_rows}
use Rattle.h5w_index.specs.Views.{IndexView, IsReached, IsSound, address_in}
use Rattle.h5w_index.specs.Steps.{IsBegun, IsHeld, IsPlan, IsSet, IsUnset, ListsOnce}
use Rattle.h5w_index.specs.declared.flush.IndexFlush.{IndexFlush}
use Rattle.h5w_index.specs.Told.{HeldTold, SameMap}
use Rattle.h5w_index.specs.Marks.{IsMarked, IsRaised, IsTouched}
use Rattle.h5w_index.specs.Placing.{AllPlaced, AreInside, Fits, IsPartly, IsPlacing, next_key}
use Rattle.h5w_index.specs.Naming.{AreNamed, AreTakenBehind}
use Rattle.h5w_index.specs.Full.{FullPartBound, IsFullPart, most_of}

pub record PlacingLaws : Type 0 where
  -- no chunk yet
  pub none : (d : Described) (to : ℕ) (v : IndexView) (s t : Space) → IsSound v → t.end ≡ s.end → t.free ≡ s.free → t.retired ≡ s.retired → t.limit ≡ s.limit → IsPlacing d to v s [] [] v t
  -- the next has its place already, and readers look for it
  pub stored : (d : Described) (to : ℕ) (v w : IndexView) (s t : Space) (chunks : List ChunkPlace) (added : List Key) (p : ChunkPlace) → Fits d v → address_in w (next_key d chunks) ≡ p.address → p.address ≢ undefined
      → (p.stored ≡ false → d.shape.rows ≤ touched_band d d.shape.rows (length chunks) * d.layout.chunk_rows) → IsReached w (next_key d chunks) → AreInside d s.end v → IsPlacing d to v s chunks added w t → IsPlacing d to v s (chunks ++ p ∷ []) added w t
  -- the blocks on the way to one of the chunks are there, and nothing else
  pub holds : (d : Described) (to : ℕ) (key : Key) (v w u : IndexView) (s t : Space) (chunks : List ChunkPlace) (added : List Key) → IsTouched d d.shape.rows to key → IsHeld key w u → IsPlacing d to v s chunks added w t
      → IsPlacing d to v s chunks added u t
  -- the next has none: one is taken in the file, and the index names it
  pub new : (d : Described) (to : ℕ) (v w u : IndexView) (s t next : Space) (chunks : List ChunkPlace) (added : List Key) (p : ChunkPlace) → Fits d v → 0 < chunk_len d → length chunks < touched d d.shape.rows to
      → address_in w (next_key d chunks) ≡ undefined → p.stored ≡ false → p.address ≢ undefined → Took t next (extent p.address (chunk_len d))
      → IsSet (next_key d chunks) p.address w u → IsPlacing d to v s chunks added w t → IsPlacing d to v s (chunks ++ p ∷ []) (added ++ next_key d chunks ∷ []) u next
  -- they are there, and then the call is refused
  pub held : (d : Described) (to : ℕ) (key : Key) (v w u : IndexView) (added : List Key) → IsTouched d d.shape.rows to key → IsHeld key w u → IsPartly d to v added w → IsPartly d to v added u
  -- after a refusal what was set is taken back, and then the index is as before, but that places are held
  pub unset : (d : Described) (to : ℕ) (key : Key) (v w u : IndexView) (added : List Key) → IsUnset key w u → IsPartly d to v (key ∷ added) w → IsPartly d to v added u
  pub kept : (d : Described) (to : ℕ) (v w : IndexView) → IsPartly d to v [] w → HeldTold v w
  -- all have their places
  pub all : (d : Described) (to : ℕ) (v w : IndexView) (s t : Space) (chunks : List ChunkPlace) (added : List Key) → Fits d v → length chunks ≡ touched d d.shape.rows to → d.shape.rows < to
      → IsPlacing d to v s chunks added w t → AllPlaced d to v w
  -- so each chunk that later rows may go into stands in the file as it did, also once the blocks are planned
  pub inside : (d : Described) (to : ℕ) (v w : IndexView) (s t : Space) (chunks : List ChunkPlace) (added : List Key) → d.shape.rows ≤ to → AreInside d s.end v → IsPlacing d to v s chunks added w t
      → AreInside (with_rows to d) t.end w
  -- so too where some had theirs before, each of which ends by the end of the places then
  pub inside_behind : (d : Described) (to : ℕ) (v w : IndexView) (s t : Space) (early chunks : List ChunkPlace) (added : List Key) → d.shape.rows ≤ to → AreInside d s.end v
      → ((k : ℕ) (p : ChunkPlace) → slice_get early k ≡ Some p → p.address + chunk_len d ≤ s.end) → AreNamed d to v chunks added w → AreTakenBehind d (address_in v) early s chunks t → AreInside (with_rows to d) t.end w
  pub carried : (d : Described) (end later : ℕ) (v w : IndexView) → SameMap v w → end ≤ later → AreInside d end v → AreInside d later w
  -- by how much all that raises the file, with the plan of the index's blocks; and what has no place
  pub raised : (d : Described) (to : ℕ) (v held w : IndexView) (s between t : Space) (early chunks : List ChunkPlace) (added : List Key) (ms : List Move) (copies fixed : List Write) → length chunks ≡ touched d d.shape.rows to
      → IsMarked d d.shape.rows to v → AreNamed d to v chunks added held → AreTakenBehind d (address_in v) early s chunks between → IsPlan held between ms copies fixed w t → IsRaised s t (most_of d to)
  -- by no more if the plan is begun
  pub begun : (d : Described) (to : ℕ) (v held : IndexView) (s between t : Space) (early chunks : List ChunkPlace) (added : List Key) (b : IndexFlush) → length chunks ≡ touched d d.shape.rows to
      → IsMarked d d.shape.rows to v → AreNamed d to v chunks added held → AreTakenBehind d (address_in v) early s chunks between → ListsOnce held → IsBegun held between b t → IsRaised s t (most_of d to)
  pub full : (d : Described) (to : ℕ) (v : IndexView) (early : List ChunkPlace) (s : Space) (full : Full) → 0 < chunk_len d → 0 < touched d d.shape.rows to → IsMarked d d.shape.rows to v → IsFullPart d to v early s full
      → FullPartBound d to s full
