-- One part of a flush of several datasets.
use Rattle.std.specs.Prelude.{◌≡◌, ℕ, ◌+◌, []}
use Rattle.h5w_model.specs.declared.root.Super.{Super}
use Rattle.h5w_space.specs.Space.{Space}
use Rattle.h5w_writer.specs.Halves.{IsHalf, most_of, places_of}
use Rattle.h5w_writer.specs.Lent.{IsFurther}
use Rattle.h5w_writer.specs.Sessions.{AllEndBy, IsSession, Session}
use Rattle.h5w_writer.specs.Starts.{HasFlushed}
use Rattle.h5w_writer.specs.Told.{told_of}
use Rattle.h5w_writer.specs.declared.planned.Planned.{Planned}
use Rattle.h5w_several_writer.specs.Opened.{places_from}
use Rattle.h5w_several_writer.specs.declared.planning.Turn.{Turn}

-- A session was planned: this is what it leaves behind it, and how many pieces there are then at most.
pub record IsPlannedThen (old mid : Session) (pieces : ℕ) (t : Turn) : Type 0 where
  pub half : IsHalf old mid t.planned
  pub root_is : t.root ≡ record (old.root) { end = t.places.end }
  pub places_are : t.places ≡ places_of mid t.planned
  pub further : IsFurther old.places t.places
  pub count : t.pieces ≡ pieces + most_of t.planned

-- A part took on a superblock and places and was planned; it handed out those that it had.
pub record IsBegun (s : Session) (root : Super) (t : Space) (pieces : ℕ) (mid : Session) (turn : Turn) (own_root : Super) (own : Space) : Type 0 where
  pub planned : IsPlannedThen (told_of s root t) mid pieces turn
  pub session : IsSession s
  pub idle : s.pending ≡ []
  pub root_is : own_root ≡ s.root
  pub places_are : own ≡ s.places

-- it did so, from some session that had these
pub record WasBegun (mid : Session) (p : Planned) (own_root : Super) (own : Space) : Type 0 where
  pub old : Session
  pub root : Super
  pub places : Space
  pub session : IsSession old
  pub idle : old.pending ≡ []
  pub half : IsHalf (told_of old root places) mid p
  pub root_is : own_root ≡ old.root
  pub places_are : own ≡ old.places

-- A part was carried out, and has then a superblock and places without anything free or retired.
pub record HasTurned (old mid : Session) (p : Planned) (last : Super) (end limit : ℕ) (new : Session) : Type 0 where
  pub flushed : Session
  pub has : HasFlushed old flushed
  pub ends : AllEndBy flushed.places.end flushed.pending
  pub places_are : flushed.places ≡ places_of mid p
  pub root_is : flushed.root ≡ record (old.root) { end = flushed.places.end }
  pub new_is : new ≡ told_of flushed last (places_from end limit)
  pub is : IsSession new
