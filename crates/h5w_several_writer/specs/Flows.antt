-- What calls of a session of several datasets leave of each of them, in words of the sessions alone.
use Rattle.std.specs.Prelude.{◌≡◌, ℕ, ◌+◌, ◌<◌, ◌≤◌, List, [], ◌∷◌, length}
use Rattle.h5w_model.specs.Relations.{AllPaired}
use Rattle.h5w_writer.specs.Sessions.{AllEndBy, Session, TakesRows}
use Rattle.h5w_several_writer_laws.specs.Sessions.{Sessions, all_pending}

-- how many rows wait in all of these
abbrev pub all_waits : List Session → ℕ
all_waits [] = 0
all_waits (s ∷ ss) = s.waits + all_waits ss

-- One part of a flush has all its rows planned. It has pieces exactly where rows waited.
pub record PlansPart (old new : Session) : Type 0 where
  pub rows : TakesRows old new
  pub some : 0 < old.waits → 1 ≤ length new.pending
  pub none : old.waits ≡ 0 → new.pending ≡ []

-- A flush plans each part. Beside the parts the superblock's end and the places are others, and where no row waited nothing is.
pub record PlansAll (old new : Sessions) : Type 0 where
  pub each : AllPaired PlansPart old.parts new.parts
  pub root : new.root ≡ record (old.root) { end = new.root.end }
  pub end : old.root.end ≡ old.places.end → new.root.end ≡ new.places.end
  pub limit : new.places.limit ≡ old.places.limit
  pub rises : old.places.end ≤ new.places.end
  pub session : new ≡ record old { root = new.root; places = new.places; parts = new.parts }
  pub ends : AllEndBy new.places.end (all_pending new.parts)
  pub some : 0 < all_waits old.parts → 1 ≤ length (all_pending new.parts)
  pub none : all_waits old.parts ≡ 0 → new ≡ old

-- A piece that became visible leaves all of a part but what is pending and what follows from that.
pub record KeepsPart (old new : Session) : Type 0 where
  pub session : new ≡ record old { places = new.places; committed = new.committed; pending = new.pending; flushing = new.flushing }

-- It leaves each part so, and where the file ends.
pub record KeepsParts (old new : Sessions) : Type 0 where
  pub each : AllPaired KeepsPart old.parts new.parts
  pub session : new ≡ record old { places = new.places; parts = new.parts }
  pub end : new.places.end ≡ old.places.end
  pub limit : new.places.limit ≡ old.places.limit
