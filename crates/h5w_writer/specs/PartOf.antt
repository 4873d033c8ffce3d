-- A flush into an index that is there, in the words of h5w_flush_laws, over the file that the session knows.
use Rattle.std.specs.Prelude.{◌≡◌, false, List, [], length}
use Rattle.h5w_model.specs.Logs.{Log, and_now, plans}
use Rattle.h5w_step_laws.specs.Logs.{image_now}
use Rattle.h5w_flush_laws.specs.Knowledge.{HeldMissed}
use Rattle.h5w_flush_laws.specs.Parts.{IsFlush, Parts, flushed_to, pieces_of}
use Rattle.h5w_writer.specs.Flushes.{IsFlushed}
use Rattle.h5w_writer.specs.Sessions.{AllEndBy, Session}
use Rattle.h5w_writer.specs.Stands.{Running, Stands}

-- Its parts, of the moment that the session knows; they meet nothing that readers hold; its pieces are those that are pending; and the session
-- knows the moment to which they lead, with the places as the flush left them.
pub record IsPartOf (old new : Session) (log : Log) (r : Running old [] log) : Type 0 where
  pub parts : Parts
  pub flush : IsFlush (image_now log) r.after r.address r.rest parts new.places
  pub missed : HeldMissed r.held parts.writes
  pub pieces : pieces_of (image_now log) r.after parts ≡ new.pending
  pub running : Running new new.pending (and_now (plans (length new.pending)) log)
  pub after : running.after ≡ flushed_to r.after parts
  pub held : running.held ≡ parts.behind
  pub rest : running.rest ≡ new.places

abbrev pub FlushShows : Type 0
FlushShows = (old new : Session) (log : Log) → IsFlushed old new → old.stopped ≡ false → old.pending ≡ [] → AllEndBy new.places.end new.pending → Stands old log → (r : Running old [] log) → IsPartOf old new log r
