-- Chunks whose places were taken before are named one by one, whichever the index's kind: places and names apart from each other.
use Rattle.std.specs.Prelude.{◌≡◌, ◌≢◌, ℕ, ◌+◌, ◌*◌, ◌<◌, ◌≤◌, false, List, [], ◌∷◌, ◌++◌, length, Some}
use Rattle.std.specs.List.{slice_get}
use Rattle.h5w_model.specs.Numbers.{undefined}
use Rattle.h5w_model.specs.Datasets.{Described}
use Rattle.h5w_model.specs.Findings.{chunk_bytes}
use Rattle.h5w_model.specs.declared.cell.Key.{Key}
use Rattle.h5w_space.specs.Space.{Space, extent}
use Rattle.h5w_space.specs.declared.Extent.{Extent}
use Rattle.h5w_cache.specs.Plans.{Took}
use Rattle.h5w_chunks.specs.Grids.{chunk_len}
use Rattle.h5w_chunks.specs.Shares.{touched, touched_band, touched_key}
use Rattle.h5w_chunks.specs.declared.grid.ChunkPlace.{ChunkPlace}
use Rattle.h5w_array_laws.specs.Among.{AreAmong}
use Rattle.h5w_flush_laws.specs.Spaces.{Taken}
use Rattle.h5w_flush_laws.specs.Rows.{IsPlaced, new_chunks}
use Rattle.h5w_index.specs.Views.{IndexView, IsReached, IsSound, address_in, behind_of, is_key}
use Rattle.h5w_index.specs.Steps.{IsHeld, IsSet}
use Rattle.h5w_index.specs.Marks.{IsRaised, IsTouched}
use Rattle.h5w_index.specs.Placing.{AllPlaced, Fits, IsCopy, IsPartly, IsPlacing, TakesEach, next_key}

-- Some first chunks have their places: those of the new ones were taken one after another, and `old` is the map of the others. s are the
-- places of the file before, t after.
pub record AreTaken (d : Described) (old : Key → ℕ) (s : Space) (chunks : List ChunkPlace) (t : Space) : Type 0 where
  pub taken : Taken s (new_chunks d old d.shape.rows 0 chunks) t
  pub raised : IsRaised s t (length chunks * chunk_bytes d)
  pub inside : (k : ℕ) (p : ChunkPlace) → slice_get chunks k ≡ Some p → p.address + chunk_len d ≤ t.end
  pub first : Space
  pub copied : IsCopy s first
  pub ranges : List Extent
  pub each : TakesEach first ranges t

-- Behind some first chunks that have their places (`early`) others got theirs: those of the new ones were taken one after another, and `old`
-- is the map of the others. s are the places of the file before, t after.
pub record AreTakenBehind (d : Described) (old : Key → ℕ) (early : List ChunkPlace) (s : Space) (chunks : List ChunkPlace) (t : Space) : Type 0 where
  pub later : List ChunkPlace
  pub all : chunks ≡ early ++ later
  pub taken : Taken s (new_chunks d old d.shape.rows (length early) later) t
  pub raised : IsRaised s t (length later * chunk_bytes d)
  pub inside : (k : ℕ) (p : ChunkPlace) → slice_get later k ≡ Some p → p.address + chunk_len d ≤ t.end
  pub first : Space
  pub copied : IsCopy s first
  pub ranges : List Extent
  pub each : TakesEach first ranges t

-- The index names some first chunks at these places, and readers look for them there, whenever the places were taken: v is the index before.
pub record AreNamed (d : Described) (to : ℕ) (v : IndexView) (chunks : List ChunkPlace) (added : List Key) (w : IndexView) : Type 0 where
  pub partly : IsPartly d to v added w
  pub placed : (k : ℕ) (p : ChunkPlace) → slice_get chunks k ≡ Some p → IsPlaced d (address_in v) (address_in w) d.shape.rows k p
  pub others : (key : Key) → ((k : ℕ) → k < length chunks → is_key v (touched_key d d.shape.rows k) key ≡ false) → address_in w key ≡ address_in v key
  pub behind : AreAmong (behind_of (chunk_bytes d) w) (new_chunks d (address_in v) d.shape.rows 0 chunks ++ behind_of (chunk_bytes d) v)
  pub reached : (k : ℕ) (p : ChunkPlace) → slice_get chunks k ≡ Some p → IsReached w (touched_key d d.shape.rows k)

-- ---- Laws

pub record NamingLaws : Type 0 where
  -- no chunk has its place yet
  pub taken_none : (d : Described) (old : Key → ℕ) (s t : Space) → IsCopy s t → AreTaken d old s [] t
  -- the next has an address
  pub taken_stored : (d : Described) (old : Key → ℕ) (s t : Space) (chunks : List ChunkPlace) (p : ChunkPlace) → old (next_key d chunks) ≢ undefined → p.address + chunk_len d ≤ t.end → AreTaken d old s chunks t
      → AreTaken d old s (chunks ++ p ∷ []) t
  -- the next has none, and one is taken
  pub taken_new : (d : Described) (old : Key → ℕ) (s t next : Space) (chunks : List ChunkPlace) (p : ChunkPlace) → 0 < chunk_len d → old (next_key d chunks) ≡ undefined → Took t next (extent p.address (chunk_len d))
      → AreTaken d old s chunks t → AreTaken d old s (chunks ++ p ∷ []) next
  -- so they may be taken on copies, at several times
  pub taken_copy : (d : Described) (old : Key → ℕ) (s t u : Space) (chunks : List ChunkPlace) → IsCopy t u → AreTaken d old s chunks t → AreTaken d old s chunks u
  -- no chunk is named yet
  pub named_none : (d : Described) (to : ℕ) (v : IndexView) → IsSound v → AreNamed d to v [] [] v
  -- the next is named already, and readers look for it
  pub named_stored : (d : Described) (to : ℕ) (v w : IndexView) (chunks : List ChunkPlace) (added : List Key) (p : ChunkPlace) → Fits d v → address_in w (next_key d chunks) ≡ p.address → p.address ≢ undefined
      → (p.stored ≡ false → d.shape.rows ≤ touched_band d d.shape.rows (length chunks) * d.layout.chunk_rows) → IsReached w (next_key d chunks) → AreNamed d to v chunks added w → AreNamed d to v (chunks ++ p ∷ []) added w
  -- the next is not: the index names it
  pub named_new : (d : Described) (to : ℕ) (v w u : IndexView) (chunks : List ChunkPlace) (added : List Key) (p : ChunkPlace) → Fits d v → length chunks < touched d d.shape.rows to
      → address_in w (next_key d chunks) ≡ undefined → p.stored ≡ false → p.address ≢ undefined
      → IsSet (next_key d chunks) p.address w u → AreNamed d to v chunks added w → AreNamed d to v (chunks ++ p ∷ []) (added ++ next_key d chunks ∷ []) u
  -- the blocks on the way to one of the chunks are there, and nothing else
  pub named_held : (d : Described) (to : ℕ) (key : Key) (v w u : IndexView) (chunks : List ChunkPlace) (added : List Key) → IsTouched d d.shape.rows to key → IsHeld key w u → AreNamed d to v chunks added w
      → AreNamed d to v chunks added u
  -- all are named: each other key gives what it gave
  pub all : (d : Described) (to : ℕ) (v w : IndexView) (chunks : List ChunkPlace) (added : List Key) → Fits d v → length chunks ≡ touched d d.shape.rows to → d.shape.rows < to → AreNamed d to v chunks added w
      → AllPlaced d to v w
  -- chunks that have their places and are named are placed, and back
  pub placing : (d : Described) (to : ℕ) (v w : IndexView) (s t : Space) (chunks : List ChunkPlace) (added : List Key) → AreNamed d to v chunks added w → AreTaken d (address_in v) s chunks t → IsPlacing d to v s chunks added w t
  pub named : (d : Described) (to : ℕ) (v w : IndexView) (s t : Space) (chunks : List ChunkPlace) (added : List Key) → IsPlacing d to v s chunks added w t → AreNamed d to v chunks added w
  pub taken : (d : Described) (to : ℕ) (v w : IndexView) (s t : Space) (chunks : List ChunkPlace) (added : List Key) → IsPlacing d to v s chunks added w t → AreTaken d (address_in v) s chunks t

-- Behind others, places are taken as they are of the first.
pub record BehindLaws : Type 0 where
  -- no chunk but those has its place yet
  pub behind_none : (d : Described) (old : Key → ℕ) (early : List ChunkPlace) (s t : Space) → IsCopy s t → AreTakenBehind d old early s early t
  -- the next has an address
  pub behind_stored : (d : Described) (old : Key → ℕ) (early : List ChunkPlace) (s t : Space) (chunks : List ChunkPlace) (p : ChunkPlace) → old (next_key d chunks) ≢ undefined → p.address + chunk_len d ≤ t.end
      → AreTakenBehind d old early s chunks t → AreTakenBehind d old early s (chunks ++ p ∷ []) t
  -- the next has none, and one is taken
  pub behind_new : (d : Described) (old : Key → ℕ) (early : List ChunkPlace) (s t next : Space) (chunks : List ChunkPlace) (p : ChunkPlace) → 0 < chunk_len d → old (next_key d chunks) ≡ undefined
      → Took t next (extent p.address (chunk_len d)) → AreTakenBehind d old early s chunks t → AreTakenBehind d old early s (chunks ++ p ∷ []) next
  -- so they may be taken on copies, at several times
  pub behind_copy : (d : Described) (old : Key → ℕ) (early : List ChunkPlace) (s t u : Space) (chunks : List ChunkPlace) → IsCopy t u → AreTakenBehind d old early s chunks t → AreTakenBehind d old early s chunks u
  -- those behind others that were taken behind none, and those behind others that were taken behind some
  pub behind_joins : (d : Described) (old : Key → ℕ) (rest s t : Space) (early chunks : List ChunkPlace) → AreTaken d old rest early s → AreTakenBehind d old early s chunks t → AreTaken d old rest chunks t
  pub behind_again : (d : Described) (old : Key → ℕ) (early : List ChunkPlace) (s t u : Space) (chunks more : List ChunkPlace) → AreTakenBehind d old early s chunks t → AreTakenBehind d old chunks t more u
      → AreTakenBehind d old early s more u
  -- behind none they are taken as the first, and back
  pub behind_first : (d : Described) (old : Key → ℕ) (s t : Space) (chunks : List ChunkPlace) → AreTaken d old s chunks t → AreTakenBehind d old [] s chunks t
  pub first_of : (d : Described) (old : Key → ℕ) (s t : Space) (chunks : List ChunkPlace) → AreTakenBehind d old [] s chunks t → AreTaken d old s chunks t
