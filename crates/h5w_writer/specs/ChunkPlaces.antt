-- What calls ask for that give chunks their places, and what those of rows that are written early give.
use Rattle.std.specs.Prelude.{◌≡◌, ◌≢◌, ◌⊎◌, ℕ, ◌+◌, ◌-◌, ◌*◌, ◌%◌, ◌^◌, ◌<◌, ◌≤◌, List, [], length, take, slice_get, Some}
use Rattle.h5w_model.specs.Logs.{div_up}
use Rattle.h5w_model.specs.Datasets.{Described}
use Rattle.h5w_model.specs.Tables.{chunks_across}
use Rattle.h5w_model.specs.declared.cell.Key.{Key}
use Rattle.h5w_model.specs.declared.piece.Write.{Write}
use Rattle.h5w_space.specs.Space.{Space}
use Rattle.h5w_chunks.specs.Grids.{chunk_len}
use Rattle.h5w_chunks.specs.Rows.{RowsWritten}
use Rattle.h5w_chunks.specs.Shares.{first_line, touched}
use Rattle.h5w_chunks.specs.declared.grid.ChunkPlace.{ChunkPlace}
use Rattle.h5w_flush_laws.specs.EarlyRows.{IsEarlyPlace}
use Rattle.h5w_index.specs.Naming.{AreTakenBehind}
use Rattle.h5w_index.specs.Placing.{AreInside, Fits}
use Rattle.h5w_index.specs.Views.{IndexView, IsSound, TakesKey, address_in}
use Rattle.h5w_pieces.specs.NextPlaces.{next_places, writes_behind}
use Rattle.h5w_writer.specs.Early.{IsBandFull}
use Rattle.h5w_writer.specs.Sessions.{ArePieces, most_lines, row_bytes}

-- each of these chunks has its place, by this map of the chunks that have an address
abbrev pub AllEarly : Described → (Key → ℕ) → List ChunkPlace → Type 0
AllEarly d old chunks = (k : ℕ) (p : ChunkPlace) → slice_get chunks k ≡ Some p → IsEarlyPlace d old d.shape.rows k p

-- Chunks of the rows behind the dataset's up to row `to` can get places from these on: they are few, the index takes their keys, and places
-- are numbers that the file can have.
pub record CanPlace (d : Described) (v : IndexView) (to : ℕ) (s : Space) : Type 0 where
  pub order : d.shape.rows < to
  pub room : (to - d.shape.rows) * d.shape.cols < 2 ^ 64
  pub few : first_line d (div_up to d.layout.chunk_rows) ≤ most_lines d
  pub sound : IsSound v
  pub fits : Fits d v
  pub takes : (key : Key) → key.i < first_line d (div_up to d.layout.chunk_rows) → TakesKey v key
  pub inside : AreInside d s.end v
  pub small : s.end < 2 ^ 64
  pub limit : s.limit ≤ 2 ^ 40

-- A flush of the rows up to row `to` can be prepared, of which those from row `mid` on have these cells: those before it were written early,
-- into chunks that have these places.
pub record CanPrepare (d : Described) (v : IndexView) (mid to : ℕ) (cells : List ℕ) (early : List ChunkPlace) (s : Space) : Type 0 where
  pub can : CanPlace d v to s
  pub first : d.shape.rows ≤ mid
  pub last : mid ≤ to
  pub count : length cells ≡ (to - mid) * d.shape.cols * d.int_type.size
  pub known : length early ≡ touched d d.shape.rows mid
  pub placed : AllEarly d (λ key. address_in v key) early
  pub ends : (k : ℕ) (p : ChunkPlace) → slice_get early k ≡ Some p → p.address + chunk_len d ≤ s.end

-- places were taken, and the file can still be counted with
pub record IsGrown (s t : Space) : Type 0 where
  pub rises : s.end ≤ t.end
  pub small : t.end < 2 ^ 64
  pub limit : t.limit ≡ s.limit

-- behind chunks that have their places a band more has them
pub record IsBandPlaced (d : Described) (old : Key → ℕ) (before : List ChunkPlace) (s : Space) (chunks : List ChunkPlace) (t : Space) : Type 0 where
  pub taken : AreTakenBehind d old before s chunks t
  pub count : length chunks ≡ length before + chunks_across d
  pub placed : AllEarly d old before → AllEarly d old chunks
  pub grown : IsGrown s t

-- The chunks of the rows before row `row` have their places, behind those of the rows before `mid`: up to `to`, or up to the first of a band
-- that has none.
pub record AreBandsPlaced (d : Described) (old : Key → ℕ) (mid to : ℕ) (before : List ChunkPlace) (s : Space) (row : ℕ) (chunks : List ChunkPlace) (t : Space) : Type 0 where
  pub low : mid ≤ row
  pub high : row ≤ to
  pub whole : (row ≡ mid) ⊎ ((row ≡ to) ⊎ (row % d.layout.chunk_rows ≡ 0))
  pub all : length chunks ≡ touched d d.shape.rows row
  pub taken : AreTakenBehind d old before s chunks t
  pub placed : AllEarly d old before → AllEarly d old chunks
  pub grown : IsGrown s t
  pub full : row < to → IsBandFull d old chunks t
  pub same : row ≡ mid → (chunks ≡ before) × (t ≡ s)

-- the pieces of the rows from `mid` up to row `to`, whose cells are the first `n` bytes of these
pub record AreEarlyWrites (d : Described) (cells : List ℕ) (mid to : ℕ) (chunks : List ChunkPlace) (end n : ℕ) (ws : List Write) : Type 0 where
  pub exact : ws ≡ writes_behind d (take ((to - mid) * row_bytes d) cells) d.shape.rows mid to chunks
  pub does : mid < to → RowsWritten d (take ((to - mid) * row_bytes d) cells) mid to (next_places d d.shape.rows mid chunks) ws
  pub bytes : n ≡ (to - mid) * row_bytes d
  pub inside : n ≤ length cells
  pub sized : ArePieces end ws
  pub some : mid < to → ws ≢ []
