-- Rows that are written before their flush.
use Rattle.std.specs.Prelude.{◌≡◌, ◌≢◌, ℕ, ◌*◌, ◌<◌, ◌≤◌, true, false, List, ◌++◌, length, Some, ℤ, slice_get}
use Rattle.h5w_model.specs.Numbers.{undefined}
use Rattle.h5w_model.specs.Messages.{IsIntType}
use Rattle.h5w_model.specs.Datasets.{Described}
use Rattle.h5w_model.specs.Prefixed.{StaysDefined}
use Rattle.h5w_model.specs.declared.cell.Key.{Key}
use Rattle.h5w_model.specs.declared.piece.Write.{Write}
use Rattle.h5w_step_laws.specs.Needed.{AreFew}
use Rattle.h5w_chunks.specs.Grids.{FitsType, cells_of, fill_cell}
use Rattle.h5w_chunks.specs.Shares.{touched, touched_band, touched_key}
use Rattle.h5w_chunks.specs.Early.{RowsStand}
use Rattle.h5w_chunks.specs.declared.grid.ChunkPlace.{ChunkPlace}
use Rattle.h5w_space.specs.Space.{Space}
use Rattle.h5w_step_laws.specs.Files.{with_rows}
use Rattle.h5w_step_laws.specs.Moments.{Moment}
use Rattle.h5w_flush_laws.specs.Spaces.{Taken}
use Rattle.h5w_flush_laws.specs.Knowledge.{Knows}
use Rattle.h5w_flush_laws.specs.Rows.{new_chunks}
use Rattle.h5w_flush_laws.specs.Flushes.{IsUnseen}

-- Touched chunk k of the rows from `from` on has its place, which no index names yet.
pub record IsEarlyPlace (d : Described) (old : Key → ℕ) (from k : ℕ) (p : ChunkPlace) : Type 0 where
  pub defined : p.address ≢ undefined
  pub kept : StaysDefined (old (touched_key d from k)) p.address
  pub stored : p.stored ≡ true → old (touched_key d from k) ≢ undefined
  pub whole : p.stored ≡ false → old (touched_key d from k) ≢ undefined → from ≤ touched_band d from k * d.layout.chunk_rows

-- So many rows stand once these writes are done, in chunks that have these places.
pub record AreEarly (img : List ℕ) (m : Moment) (old : Key → ℕ) (rows : ℕ) (more : List ℤ) (writes : List Write) (places : List ChunkPlace) : Type 0 where
  pub written : RowsStand img m.dataset (cells_of m.dataset more) m.dataset.shape.rows rows places writes
  pub all : length places ≡ touched m.dataset m.dataset.shape.rows rows
  pub placed : (k : ℕ) (p : ChunkPlace) → slice_get places k ≡ Some p → IsEarlyPlace m.dataset old m.dataset.shape.rows k p
  pub typed : IsIntType m.dataset.int_type
  pub filled : length (fill_cell m.dataset) ≡ m.dataset.int_type.size
  pub fit : (k : ℕ) (v : ℤ) → slice_get more k ≡ Some v → FitsType m.dataset v

-- No reader reaches them.
abbrev pub EarlyRows : Type 0
EarlyRows = (img name : List ℕ) (m : Moment) (old : Key → ℕ) (s t : Space) (rows : ℕ) (more : List ℤ) (writes : List Write) (places : List ChunkPlace) → (k : Knows img name m old s)
    → Taken s (new_chunks m.dataset old m.dataset.shape.rows 0 places) t → m.dataset.shape.rows < rows → AreFew (with_rows rows m.dataset) → length (m.values ++ more) ≡ rows * m.dataset.shape.cols
    → AreEarly img m old rows more writes places → IsUnseen img name m k.held old s writes
