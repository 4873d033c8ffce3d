-- The log of a part of a session of several datasets, beside the log of the file.
use Rattle.std.specs.Prelude.{◌≡◌, ℕ, ◌+◌, ◌-◌, ◌≤◌, max, List, ◌++◌, length}
use Rattle.h5w_model.specs.Images.{image}
use Rattle.h5w_model.specs.Logs.{Log, hist, appended, flushed, flushed_in, flushed_rows, at_position}
use Rattle.h5w_model.specs.Several.{Begun, FileLog, log_of, pieces_in, seen_by, shown_in}
use Rattle.h5w_model.specs.Prefixed.{Held, IsPosition, Prefixed, PrefixedEach, ReadsNow, Still, image_at}
use Rattle.h5w_model.specs.declared.piece.Write.{Write}
use Rattle.h5w_writer.specs.Loads.{first_end_of}
use Rattle.h5w_several_writer_laws.specs.Began.{BeginsOver, began_end}

-- A part's own log is what its dataset sees of the file's log, but that some pieces which are still to come count as
-- shown: those of other datasets, before its own or behind them. In a file that the session creates it begins behind
-- the pieces of the creation, which lead it; else none do. At each position that the file has reached as much is
-- flushed, and as much is appended.
pub record IsSeen (log : FileLog) (d : ℕ) (b : Begun) (l : Log) (later : List Write) : Type 0 where
  pub lead : List Write
  pub start : l.start ≡ image log.start lead
  pub begins : BeginsOver log l
  pub columns : l.columns ≡ b.columns
  pub values : l.values ≡ b.values
  pub first : log.first ≡ length lead + l.first
  pub pieces : lead ++ hist l.events ≡ pieces_in log.events ++ later
  pub appended : appended l ≡ appended (log_of d b log)
  pub now : flushed l ≡ flushed (log_of d b log)
  pub alike : (p : ℕ) → length lead + p ≤ shown_in log.events → flushed (at_position l p) ≡ flushed (at_position (log_of d b log) (length lead + p))
  -- the pieces that count as shown bring no rows
  pub level : (p : ℕ) → shown_in log.events ≤ length lead + p → flushed (at_position l p) ≡ flushed l
  -- and with so many more pieces as much is flushed as with these and so many more
  pub ahead : (k : ℕ) → flushed_in k l.values l.events ≡ flushed_in (length later + k) b.values (seen_by d log.events)

-- A part's own log, which may begin anew where a session takes the file over: it begins with an image of the file, behind the pieces that lead it, and some pieces
-- which are still to come count as shown. As much is appended and flushed as its dataset sees, also with more pieces. The file may come to the same end by both.
pub record IsOwn (limit : ℕ) (log : FileLog) (d : ℕ) (b : Begun) (l : Log) (later : List Write) : Type 0 where
  pub lead : List Write
  pub start : l.start ≡ image log.start lead
  pub most : max limit (first_end_of l) ≡ max limit (began_end log)
  pub columns : l.columns ≡ b.columns
  pub pieces : lead ++ hist l.events ≡ pieces_in log.events ++ later
  pub appended : appended l ≡ appended (log_of d b log)
  pub now : flushed l ≡ flushed (log_of d b log)
  pub ahead : (k : ℕ) → flushed_in k l.values l.events ≡ flushed_in (length later + k) b.values (seen_by d log.events)

-- a position of the file, behind the pieces that lead, is one of the part's own log
pub record IsOwnPosition (lead : List Write) (l : Log) (p : ℕ) : Type 0 where
  pub own : IsPosition l (p - length lead)
  pub is : p ≡ length lead + (p - length lead)

-- ---- Laws

-- What is true of the part's own log at each position is true of what its dataset sees, and so many rows are flushed.
pub record PartSeen : Type 0 where
  pub images : (log : FileLog) (d : ℕ) (b : Begun) (l : Log) (later : List Write) → (s : IsSeen log d b l later) → (p : ℕ) → length s.lead + p ≤ shown_in log.events → image_at l p ≡ image_at (log_of d b log) (length s.lead + p)
  pub position : (log : FileLog) (d : ℕ) (b : Begun) (l : Log) (later : List Write) → (s : IsSeen log d b l later) → (p : ℕ) → IsPosition (log_of d b log) p → IsOwnPosition s.lead l p
  pub prefixed : (name : List ℕ) (log : FileLog) (d : ℕ) (b : Begun) (l : Log) (later : List Write) → IsSeen log d b l later → Prefixed name l → Prefixed name (log_of d b log)
  pub still : (name : List ℕ) (log : FileLog) (d : ℕ) (b : Begun) (l : Log) (later : List Write) → IsSeen log d b l later → Still name l → Still name (log_of d b log)
  pub held : (name : List ℕ) (log : FileLog) (d : ℕ) (b : Begun) (l : Log) (later : List Write) → IsSeen log d b l later → Prefixed name l → Still name l → Held name (log_of d b log)
  pub now : (name : List ℕ) (log : FileLog) (d : ℕ) (b : Begun) (l : Log) (later : List Write) → IsSeen log d b l later → PrefixedEach name l → log.first ≤ shown_in log.events → ReadsNow name (log_of d b log)
  pub flushed : (log : FileLog) (d : ℕ) (b : Begun) (l : Log) (later : List Write) → IsSeen log d b l later → flushed l ≡ flushed (log_of d b log)
  pub rows : (log : FileLog) (d : ℕ) (b : Begun) (l : Log) (later : List Write) → IsSeen log d b l later → flushed_rows l ≡ flushed_rows (log_of d b log)
