-- A flush in two halves: what the first, which may be refused, hands to the second, which may not.
use Rattle.std.specs.Prelude.{◌≡◌, ℕ, ◌+◌, ◌<◌, ◌≤◌, List, [], ◌∷◌, length, vec_len, vec_capacity}
use Rattle.std.specs.Global.{Vec}
use Rattle.h5w_model.specs.Datasets.{Described}
use Rattle.h5w_model.specs.declared.cell.Key.{Key}
use Rattle.h5w_model.specs.declared.piece.Write.{Write}
use Rattle.h5w_space.specs.Space.{Space}
use Rattle.h5w_chunks.specs.Rows.{RowsWritten}
use Rattle.h5w_chunks.specs.Shares.{new_writes, touched}
use Rattle.h5w_chunks.specs.declared.grid.ChunkPlace.{ChunkPlace}
use Rattle.h5w_index.specs.Held.{view_of}
use Rattle.h5w_index.specs.Views.{IndexView, kind_of}
use Rattle.h5w_index.specs.Placing.{IsPlacing}
use Rattle.h5w_index.specs.Steps.{IsPlan, copy_pieces, in_place_pieces}
use Rattle.h5w_pieces.specs.NextPlaces.{next_places, writes_behind}
use Rattle.h5w_writer.specs.Flushes.{IsPrepared, touched_by}
use Rattle.h5w_writer.specs.Sessions.{IsRoomy, IsSession, IsUnmade, IsWhole, Session, next_row, rows_of, with_rows}
use Rattle.h5w_writer.specs.Starts.{IsStartedAt}
use Rattle.h5w_writer.specs.declared.backlog.Rows.{Rows}
use Rattle.h5w_writer.specs.declared.planned.Prepared.{Prepared}
use Rattle.h5w_writer.specs.declared.planned.Growing.{Growing}
use Rattle.h5w_writer.specs.declared.planned.Starting.{Starting}
use Rattle.h5w_writer.specs.declared.planned.Planned.{Planned}
use Rattle.h5w_writer.specs.declared.planned.Planned.TheVariants.{Alone, Grows, Starts}

-- ---- What is planned

-- All rows that wait go into one chunk that has its place: these are their writes, with room for a superblock and a header. No block of the
-- index changes.
pub record PlansAlone (s : Session) (ws : Vec Write) : Type 0 where
  pub there : IsWhole s
  pub waits : 0 < s.waits
  pub early : s.early ≡ 0
  pub place : ChunkPlace
  pub placing : IsPlacing s.dataset (rows_of s) s.index s.places (place ∷ []) [] s.index s.places
  pub all : touched_by s ≡ 1
  pub plan : IsPlan s.index s.places [] [] [] s.index s.places
  pub exact : ws.items ≡ new_writes s.dataset s.waiting s.dataset.shape.rows (rows_of s) (place ∷ [])
  pub written : RowsWritten s.dataset s.waiting s.dataset.shape.rows (rows_of s) (place ∷ []) ws.items
  pub room : vec_len ws + 2 ≤ vec_capacity ws

-- What was prepared of a flush up to row `to`, of whose rows those from row `mid` on have these cells, those before it these places already:
-- over an index and places all chunks have theirs, the plan of the index that names them is begun, and these are the writes of the rows, with
-- room for all that follows.
pub record ShowsPrepared (d : Described) (v : IndexView) (mid to : ℕ) (cells : List ℕ) (early : List ChunkPlace) (places : Space) (p : Prepared) (chunks : List ChunkPlace) (added : List Key) (named : IndexView) (t : Space) : Type 0 where
  pub prepared : IsPrepared d to v early places chunks added named p.begun t
  pub all : length chunks ≡ touched d d.shape.rows to
  pub exact : p.writes.items ≡ writes_behind d cells d.shape.rows mid to chunks
  pub written : mid < to → RowsWritten d cells mid to (next_places d d.shape.rows mid chunks) p.writes.items
  pub after : p.after ≡ copy_pieces p.begun + in_place_pieces p.begun + 2
  pub room : vec_len p.writes + p.after ≤ vec_capacity p.writes
  pub end : p.end ≡ t.end

-- The chunks of the rows that wait have their places, over an index and places; the plan of the index that names them is begun; and these are
-- the writes of the rows, with room for all that follows. The file ends there then.
pub record IsReady (s : Session) (v : IndexView) (before : Space) (p : Prepared) (added : List Key) (named : IndexView) (t : Space) : Type 0 where
  pub chunks : List ChunkPlace
  pub prepared : IsPrepared s.dataset (rows_of s) v s.chunks before chunks added named p.begun t
  pub all : length chunks ≡ touched_by s
  pub exact : p.writes.items ≡ writes_behind s.dataset s.waiting s.dataset.shape.rows (next_row s) (rows_of s) chunks
  pub written : next_row s < rows_of s → RowsWritten s.dataset s.waiting (next_row s) (rows_of s) (next_places s.dataset s.dataset.shape.rows (next_row s) chunks) p.writes.items
  pub roomy : IsRoomy s.dataset v → IsRoomy s.dataset named
  pub after : p.after ≡ copy_pieces p.begun + in_place_pieces p.begun + 2
  pub room : vec_len p.writes + p.after ≤ vec_capacity p.writes
  pub end : p.end ≡ t.end

-- these are the rows that wait in a session
pub record AreWaiting (s : Session) (r : Rows) : Type 0 where
  pub waits : r.waits ≡ s.waits
  pub waiting : r.waiting ≡ s.waiting
  pub early : r.early ≡ s.early
  pub chunks : r.chunks.items ≡ s.chunks

-- A session between the halves of a flush into an index that is there: it has all rows, of which none waits, the index that names their
-- chunks, and the places then.
abbrev pub grown_of : Session → IndexView → Space → Session
grown_of s v t = record s {
  dataset = with_rows (rows_of s) s.dataset;
  places = t;
  waiting = [];
  waits = 0;
  early = 0;
  chunks = [];
  index = v;
}

-- A session became another so, and this is what the flush will write, and what brings the first one back.
pub record PlansGrowth (old mid : Session) (p : Growing) : Type 0 where
  pub session : IsSession old
  pub idle : old.pending ≡ []
  pub there : IsWhole old
  pub waits : 0 < old.waits
  pub rows : AreWaiting old p.rows
  pub before : p.before ≡ old.places
  pub ready : IsReady old old.index old.places p.prepared p.added.items mid.index mid.places
  pub grown : mid ≡ grown_of old mid.index mid.places

-- Something of the session's index is not there: another is made, whose header is at its place, and names the chunks.
pub record PlansStart (s : Session) (p : Starting) : Type 0 where
  pub session : IsSession s
  pub unmade : IsUnmade s
  pub waits : 0 < s.waits
  pub first : Space
  pub made : IndexView
  pub kind : s.dataset.layout.index ≡ kind_of made
  pub start : IsStartedAt s.dataset.layout.address s.places p.at made first
  pub added : List Key
  pub ready : IsReady s made first p.prepared added (view_of p.index) p.places

-- ---- Between the halves

-- The first half of a flush was planned in a session, which is another one then.
abbrev pub IsHalf : Session → Session → Planned → Type 0
IsHalf old mid (Alone ws) = (mid ≡ old) × PlansAlone old ws
IsHalf old mid (Grows p) = PlansGrowth old mid p
IsHalf old mid (Starts p) = (mid ≡ old) × PlansStart old p

-- it was, in some session
pub record WasHalf (mid : Session) (p : Planned) : Type 0 where
  pub old : Session
  pub half : IsHalf old mid p

-- so of a flush into an index that is there
pub record HasGrown (mid : Session) (p : Growing) : Type 0 where
  pub old : Session
  pub growth : PlansGrowth old mid p

-- how many pieces it makes pending at most
abbrev pub most_of : Planned → ℕ
most_of (Alone ws) = length ws.items + 2
most_of (Grows p) = length p.prepared.writes.items + p.prepared.after
most_of (Starts p) = length p.prepared.writes.items + p.prepared.after

-- where the file ends once it is carried out in this session
abbrev pub end_of : Session → Planned → ℕ
end_of mid (Alone ws) = mid.places.end
end_of mid (Grows p) = p.prepared.end
end_of mid (Starts p) = p.prepared.end

-- the places of the file then
abbrev pub places_of : Session → Planned → Space
places_of mid (Alone ws) = mid.places
places_of mid (Grows p) = mid.places
places_of mid (Starts p) = p.places
