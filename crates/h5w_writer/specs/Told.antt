-- What a session at rest is, and of which logs, once pieces of other datasets of its file were shown.
use Rattle.std.specs.Prelude.{◌≡◌, ℕ, zero, suc, ◌≤◌, false, List, [], ◌∷◌, ◌++◌, ℤ}
use Rattle.h5w_model.specs.Images.{image}
use Rattle.h5w_model.specs.Logs.{Log, Happening, appends, shows, hist, appended, flushed_rows}
use Rattle.h5w_model.specs.declared.piece.Write.{Write}
use Rattle.h5w_model.specs.declared.root.Super.{Super}
use Rattle.h5w_step_laws.specs.Files.{chunk_0}
use Rattle.h5w_space.specs.Space.{Space}
use Rattle.h5w_step_laws.specs.Moments.{Moment}
use Rattle.h5w_step_laws.specs.Logs.{image_now}
use Rattle.h5w_step_laws.specs.Plans.{Plan}
use Rattle.h5w_flush_laws.specs.Knowledge.{Knows}
use Rattle.h5w_writer.specs.Early.{HasEarly}
use Rattle.h5w_writer.specs.Halves.{IsHalf}
use Rattle.h5w_writer.specs.Indexes.{IsKeptIndex}
use Rattle.h5w_writer.specs.PartOf.{FlushShows}
use Rattle.h5w_writer.specs.Past.{most_of}
use Rattle.h5w_writer.specs.Sessions.{AllEndBy, Session}
use Rattle.h5w_writer.specs.Stands.{Running, Stands}
use Rattle.h5w_writer.specs.declared.planned.Planned.{Planned}

-- the session with another superblock and other places
abbrev pub told_of : Session → Super → Space → Session
told_of s root t = record s { root = root; places = t }

-- with so many appends of no rows: they change nothing but what the log is bound to
abbrev pub pausing : ℕ → List Happening → List Happening
pausing zero es = es
pausing (suc n) es = appends [] ∷ pausing n es

-- with these pieces shown
abbrev pub showing : List Write → List Happening → List Happening
showing [] es = es
showing (w ∷ ws) es = showing ws (shows w ∷ es)

abbrev pub told_log : ℕ → List Write → Log → Log
told_log n ws log = record log { events = showing ws (pausing n log.events) }

-- the file's moment with another superblock
abbrev pub moved_to : Super → Moment → Moment
moved_to root m = record m { super = root }

-- The pieces are a plan for the session's dataset, which changes nothing of it but the superblock; once they are shown it is known again by
-- the map that it had, with its index and its early rows, of which readers hold what they held. All is within the file's limit.
pub record IsTold (s : Session) (log : Log) (r : Running s [] log) (ws : List Write) (root : Super) (t : Space) : Type 0 where
  pub plan : Plan (image_now log) r.after r.held ws (moved_to root r.after) r.held
  pub rest : Space
  pub knows : Knows (image (image_now log) ws) s.name (moved_to root r.after) r.address rest
  pub holds : knows.held ≡ r.held
  pub header : chunk_0 (image (image_now log) ws) s.place ≡ s.header
  pub index : IsKeptIndex (image (image_now log) ws) (moved_to root r.after) r.address rest s.index
  pub written : HasEarly s.dataset s.early s.chunks t (image (image_now log) ws) r.address rest r.early
  pub limit : t.limit ≡ s.places.limit
  pub fits : t.end ≤ most_of s log
  pub ends : AllEndBy (most_of s log) ws

-- A session that runs, with nothing pending, knows its file. Once it is told of pieces that were shown it stands for the log with them behind
-- appends of no rows: at each position as much is flushed as was, and the pieces are those of before with these behind them.
pub record ToldLaws : Type 0 where
  pub runs : (s : Session) (log : Log) → s.stopped ≡ false → s.pending ≡ [] → Stands s log → Running s [] log
  pub stands : (s : Session) (log : Log) (r : Running s [] log) (ws : List Write) (root : Super) (t : Space) → s.pending ≡ [] → IsTold s log r ws root t → (n : ℕ) × Stands (told_of s root t) (told_log n ws log)
  -- the first half of a flush that was planned is planned over another superblock too
  pub halves : (old mid : Session) (p : Planned) (root : Super) → root.version ≡ old.root.version → IsHalf old mid p → IsHalf (told_of old root old.places) (told_of mid root mid.places) p
  -- a flush into an index that is there, in the words of h5w_flush_laws
  pub flush : FlushShows
  pub pieces : (n : ℕ) (ws : List Write) (log : Log) → hist (told_log n ws log).events ≡ hist log.events ++ ws
  pub appended : (n : ℕ) (ws : List Write) (log : Log) → appended (told_log n ws log) ≡ appended log
