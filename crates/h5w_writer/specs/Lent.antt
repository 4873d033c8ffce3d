-- The superblock and the places of a file of several datasets, which the session of one of them has while it plans.
use Rattle.std.specs.Prelude.{◌≡◌, ◌≤◌, ℕ, max}
use Rattle.h5w_model.specs.declared.root.Super.{Super}
use Rattle.h5w_space.specs.Space.{Space}
use Rattle.h5w_writer.specs.Flushes.{SameBut}
use Rattle.h5w_writer.specs.Sessions.{IsSession, Session}
use Rattle.h5w_writer.specs.Told.{told_of}

-- the end is no lower, and within the limit, which stays, where it was so before
pub record IsFurther (s t : Space) : Type 0 where
  pub rises : s.end ≤ t.end
  pub limit : t.limit ≡ s.limit
  pub fits : t.end ≤ max s.end s.limit

-- The session took on a superblock and places, and is the same since but for places held in its index; these are those that it had.
pub record WasLent (m : Session) (root : Super) (t : Space) : Type 0 where
  pub old : Session
  pub session : IsSession old
  pub lent_root : Super
  pub lent : Space
  pub same : SameBut (told_of old lent_root lent) m
  pub root_is : root ≡ old.root
  pub places : t ≡ old.places
