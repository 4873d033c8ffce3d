-- A file that has no place for what rows need, and the most that they need.
use Rattle.std.specs.Prelude.{◌≡◌, ◌⊎◌, ℕ, ◌+◌, ◌*◌, ◌<◌, ◌≤◌, List, length}
use Rattle.h5w_model.specs.Numbers.{undefined}
use Rattle.h5w_model.specs.Datasets.{Described}
use Rattle.h5w_model.specs.Findings.{chunk_bytes}
use Rattle.h5w_model.specs.declared.cell.Key.{Key}
use Rattle.h5w_space.specs.Space.{Space}
use Rattle.h5w_space.specs.declared.Full.{Full}
use Rattle.h5w_cache.specs.Plans.{IsRefused}
use Rattle.h5w_chunks.specs.Grids.{chunk_len}
use Rattle.h5w_chunks.specs.Shares.{touched}
use Rattle.h5w_chunks.specs.declared.grid.ChunkPlace.{ChunkPlace}
use Rattle.h5w_index.specs.Views.{IndexView, address_in}
use Rattle.h5w_index.specs.Steps.{HasNoPlace}
use Rattle.h5w_index.specs.Marks.{IsRaised}
use Rattle.h5w_index.specs.Placing.{next_key}
use Rattle.h5w_index.specs.Naming.{AreNamed, AreTakenBehind}

-- Behind chunks that have their places, the next has none yet, and there is none for it. `early` are those that had theirs before: v is the
-- index before all of them, s are the places behind these.
pub record IsChunkFull (d : Described) (to : ℕ) (v : IndexView) (early : List ChunkPlace) (s : Space) (full : Full) : Type 0 where
  pub chunks : List ChunkPlace
  pub added : List Key
  pub w : IndexView
  pub t : Space
  pub named : AreNamed d to v chunks added w
  pub taken : AreTakenBehind d (address_in v) early s chunks t
  pub inside : length chunks < touched d d.shape.rows to
  pub absent : address_in v (next_key d chunks) ≡ undefined
  pub refused : IsRefused t (chunk_len d) full

-- all chunks that rows go into have their places, and the first block in turn that has none is refused
pub record IsBlockFull (d : Described) (to : ℕ) (v : IndexView) (early : List ChunkPlace) (s : Space) (full : Full) : Type 0 where
  pub chunks : List ChunkPlace
  pub added : List Key
  pub held : IndexView
  pub between : Space
  pub named : AreNamed d to v chunks added held
  pub taken : AreTakenBehind d (address_in v) early s chunks between
  pub all : length chunks ≡ touched d d.shape.rows to
  pub refused : HasNoPlace held between full

-- the first new chunk by its key has no place, or else the first block of the index in turn
abbrev pub IsFullPart : Described → ℕ → IndexView → List ChunkPlace → Space → Full → Type 0
IsFullPart d to v early s full = IsChunkFull d to v early s full ⊎ IsBlockFull d to v early s full

-- the most bytes by which such rows raise the file, all but what each flush has
abbrev pub most_of : Described → ℕ → ℕ
most_of d to = touched d d.shape.rows to * (chunk_bytes d + 20000)

-- What has no place is not larger than that, and stands where the file was raised by no more.
pub record FullPartBound (d : Described) (to : ℕ) (s : Space) (full : Full) : Type 0 where
  pub before : Space
  pub raised : IsRaised s before (most_of d to)
  pub size : ℕ
  pub some : 1 ≤ size
  pub few : size ≤ most_of d to
  pub refused : IsRefused before size full
