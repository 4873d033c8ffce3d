-- What a flush makes of a session.
use Rattle.std.specs.Prelude.{◌≡◌, ℕ, ◌*◌, ◌^◌, ◌<◌, ◌≤◌, true, List, [], ◌∷◌, ◌++◌, length, nat_lt, None}
use Rattle.h5w_model.specs.Headers.{with_rows_bytes}
use Rattle.h5w_model.specs.Datasets.{Described}
use Rattle.h5w_model.specs.Messages.{IsIntType}
use Rattle.h5w_model.specs.Tables.{needed}
use Rattle.h5w_model.specs.declared.cell.Key.{Key}
use Rattle.h5w_model.specs.declared.piece.Write.{Write}
use Rattle.h5w_space.specs.Space.{Space}
use Rattle.h5w_cache.specs.declared.moves.Move.{Move}
use Rattle.h5w_chunks.specs.Grids.{fill_cell}
use Rattle.h5w_chunks.specs.Shares.{touched, touched_band, touched_key}
use Rattle.h5w_chunks.specs.Rows.{RowsWritten}
use Rattle.h5w_chunks.specs.declared.grid.ChunkPlace.{ChunkPlace}
use Rattle.h5w_flush_laws.specs.Parts.{AreEnded}
use Rattle.h5w_index.specs.Views.{IndexView, address_in}
use Rattle.h5w_index.specs.Steps.{IsBegun, IsPlan, ListsOnce}
use Rattle.h5w_index.specs.declared.flush.IndexFlush.{IndexFlush}
use Rattle.h5w_index.specs.Naming.{AreNamed, AreTakenBehind}
use Rattle.h5w_index.specs.Placing.{Fits, IsPartly}
use Rattle.h5w_pieces.specs.NextPlaces.{next_places, writes_behind}
use Rattle.h5w_writer.specs.Sessions.{IsRoomy, IsUnmade, IsWhole, Session, chunk_limit, next_row, rows_of, with_rows}

-- how many chunks the rows that wait go into
abbrev pub touched_by : Session → ℕ
touched_by s = touched s.dataset s.dataset.shape.rows (rows_of s)

-- the key of the first chunk that new rows go into
abbrev pub first_key : Described → Key
first_key d = touched_key d d.shape.rows 0

-- the place of that chunk by the index: it is stored where its band has rows already
abbrev pub first_place : Described → IndexView → ChunkPlace
first_place d v = record { address = address_in v (first_key d); stored = nat_lt (touched_band d d.shape.rows 0 * d.layout.chunk_rows) d.shape.rows }

-- the piece by which the dataset header says all rows
abbrev pub header_piece : Session → Write
header_piece s = record { at = s.place; piece = with_rows_bytes s.header (rows_of s) None }

-- the session after a flush, with these places, pieces and index
abbrev pub flushed_of : Session → Space → List Write → IndexView → Session
flushed_of s t ws v = record s {
  root = record (s.root) { end = t.end };
  header = (header_piece s).piece;
  dataset = with_rows (rows_of s) s.dataset;
  places = t;
  waiting = [];
  waits = 0;
  pending = ws;
  early = 0;
  chunks = [];
  flushing = true;
  index = v;
}

-- The chunks have their places over an index and places, some first of them had theirs before, and then the plan of the index that names them
-- all is begun.
pub record IsPrepared (d : Described) (to : ℕ) (v : IndexView) (early : List ChunkPlace) (before : Space) (chunks : List ChunkPlace) (added : List Key) (named : IndexView) (b : IndexFlush) (t : Space) : Type 0 where
  pub between : Space
  pub names : AreNamed d to v chunks added named
  pub taken : AreTakenBehind d (λ key. address_in v key) early before chunks between
  pub begun : IsBegun named between b t
  -- so that the plan takes no more than a place for each changed block
  pub once : ListsOnce named

-- What a flush shows of the chunks that the rows that no flush has planned go into, over an index and places: each chunk in the order of its
-- key, with its place, first those of rows that were written early; the places once the new ones are taken; the index once it names them;
-- the writes of the rows that were not; and the plan of the index's changed blocks.
pub record ArePlanned (s : Session) (v : IndexView) (before : Space) (w : IndexView) (t : Space) : Type 0 where
  -- the index is of chunks that stand as the dataset's do
  pub fits : Fits s.dataset v
  pub some : 0 < s.waits
  pub small : rows_of s < 2 ^ 64
  pub few : needed (with_rows (rows_of s) s.dataset) ≤ chunk_limit s
  pub typed : IsIntType s.dataset.int_type
  pub filled : length (fill_cell s.dataset) ≡ s.dataset.int_type.size
  pub chunks : List ChunkPlace
  pub added : List Key
  pub named : IndexView
  pub between : Space
  pub names : AreNamed s.dataset (rows_of s) v chunks added named
  pub taken : AreTakenBehind s.dataset (λ key. address_in v key) s.chunks before chunks between
  pub all : length chunks ≡ touched_by s
  pub rows : List Write
  pub exact : rows ≡ writes_behind s.dataset s.waiting s.dataset.shape.rows (next_row s) (rows_of s) chunks
  pub written : next_row s < rows_of s → RowsWritten s.dataset s.waiting (next_row s) (rows_of s) (next_places s.dataset s.dataset.shape.rows (next_row s) chunks) rows
  pub moves : List Move
  pub copies : List Write
  pub fixed : List Write
  pub plan : IsPlan named between moves copies fixed w t
  -- the superblock, if the end of the file is another, and only then
  pub supers : List Write
  pub ended : AreEnded s.root t.end supers
  pub unraised : t.end ≡ s.root.end → supers ≡ []
  -- the index that names the chunks has room where it had before
  pub roomy : IsRoomy s.dataset v → IsRoomy s.dataset named

-- A flush of rows that wait: what each of its calls does, in their order.
pub record IsFlushed (old new : Session) : Type 0 where
  -- the index is there
  pub there : IsWhole old
  pub planned : ArePlanned old old.index old.places new.index new.places
  -- all pieces, the header's last
  pub pending : new.pending ≡ planned.rows ++ (planned.copies ++ (planned.supers ++ (planned.fixed ++ header_piece old ∷ [])))
  pub session : new ≡ flushed_of old new.places new.pending new.index

-- A flush that was refused changes nothing but that places are held in the index for chunks of the rows that wait: what is held will be
-- written again, as the next flush does in any case. Where something of the index is not there, that which is kept stays as it is. The index has
-- room where it had before.
pub record SameBut (old new : Session) : Type 0 where
  pub session : new ≡ record old { index = new.index }
  pub held : IsPartly old.dataset (rows_of old) old.index [] new.index
  pub unmade : IsUnmade old → new.index ≡ old.index
  pub roomy : IsRoomy old.dataset old.index → IsRoomy old.dataset new.index
