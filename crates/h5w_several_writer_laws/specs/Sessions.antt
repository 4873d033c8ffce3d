-- A session of several datasets in one file: what its values are, and what each call makes of it.
use Rattle.std.specs.Prelude.{◌≡◌, ◌≢◌, ◌⊎◌, ℕ, ◌<◌, ◌≤◌, ◌^◌, Bool, true, List, [], ◌∷◌, ◌++◌, length, map, ℤ, Some, slice_get, slice_set}
use Rattle.h5w_model.specs.declared.piece.Write.{Write}
use Rattle.h5w_model.specs.declared.root.Super.{Super}
use Rattle.h5w_space.specs.Space.{Space}
use Rattle.h5w_writer.specs.Flushes.{SameBut}
use Rattle.h5w_writer.specs.Sessions.{AfterPiece, AllEndBy, Freed, IsSession, Session, cleared, closed_of, stopped_of, with_values}
use Rattle.h5w_writer.specs.Starts.{HasFlushed}
use Rattle.h5w_writer.specs.Told.{told_of}

-- The superblock and the places of the file once all pieces that are pending became visible; its datasets, in order, each a session of its own,
-- whose pieces are pending one part after another; whether it was stopped, and whether what is retired stays out of use.
pub record Sessions : Type 0 where
  pub root : Super
  pub places : Space
  pub parts : List Session
  pub stopped : Bool
  pub keeps : Bool

-- places that end where these do, with nothing free or retired
abbrev pub bare : Space → Space
bare t = record { end = t.end; limit = t.limit; free = []; retired = []; spare = 0 }

-- the pieces of these parts, one part after another
abbrev pub all_pending : List Session → List Write
all_pending [] = []
all_pending (s ∷ ss) = s.pending ++ all_pending ss

-- how many pieces each part has
abbrev pub counts_of : List Session → List ℕ
counts_of ss = map (λ (s : Session). length s.pending) ss

-- Each part has the superblock and bare places, wrote no row early, and was stopped where the session was.
pub record IsPart (S : Sessions) (s : Session) : Type 0 where
  pub session : IsSession s
  pub root : s.root ≡ S.root
  pub places : s.places ≡ bare S.places
  pub stopped : s.stopped ≡ S.stopped
  pub early : s.early ≡ 0

abbrev pub AreParts : Sessions → List Session → Type 0
AreParts S [] = Unit {0}
AreParts S (s ∷ ss) = IsPart S s × AreParts S ss

-- what holds of every session
pub record AreSessions (S : Sessions) : Type 0 where
  pub some : 1 ≤ length S.parts
  pub few : length S.parts ≤ 8
  pub version : S.root.version ≡ 3
  pub small : S.places.end < 2 ^ 64
  pub limit : S.places.limit ≤ 2 ^ 40
  pub each : AreParts S S.parts

-- ---- What calls make of a session

-- values are appended to one dataset
pub record AppendsTo (d : ℕ) (values : List ℤ) (old new : Sessions) : Type 0 where
  pub part : Session
  pub is : slice_get old.parts d ≡ Some part
  pub session : new ≡ record old { parts = slice_set old.parts d (with_values part values) }

-- A part's rows are flushed over the superblock and the places that the parts before it left: this is the part then.
pub record FlushesPart (root : Super) (t : Space) (s n : Session) : Type 0 where
  pub waits : 0 < s.waits
  pub flushed : HasFlushed (told_of s root t) n
  pub ends : AllEndBy n.places.end n.pending

-- The rows of all parts are flushed, one part after another, from a superblock and places to others, which each part is told of at last.
abbrev pub AreFlushed : Super → Space → List Session → Super → Space → List Session → Type 0
AreFlushed root t [] last end [] = (last ≡ root) × (end ≡ t)
AreFlushed root t [] last end (u ∷ us) = ⊥
AreFlushed root t (s ∷ ss) last end [] = ⊥
AreFlushed root t (s ∷ ss) last end (u ∷ us) =
    ((s.waits ≡ 0) × (u ≡ told_of s last (bare end)) × AreFlushed root t ss last end us)
    ⊎ ((n : Session) × FlushesPart root t s n × (u ≡ told_of n last (bare end)) × AreFlushed n.root n.places ss last end us)

pub record FlushesAll (old new : Sessions) : Type 0 where
  pub parts : AreFlushed old.root old.places old.parts new.root new.places new.parts
  pub session : new ≡ record old { root = new.root; places = new.places; parts = new.parts }

-- a flush that was refused leaves each part but for places that are held in its index
abbrev pub AreSameBut : List Session → List Session → Type 0
AreSameBut [] [] = Unit {0}
AreSameBut [] (u ∷ us) = ⊥
AreSameBut (s ∷ ss) [] = ⊥
AreSameBut (s ∷ ss) (u ∷ us) = SameBut s u × AreSameBut ss us

pub record SameButHeld (old new : Sessions) : Type 0 where
  pub parts : AreSameBut old.parts new.parts
  pub session : new ≡ record old { parts = new.parts }

-- the oldest pending piece became visible: it is of the first part that has any
abbrev pub AreShown : Write → List Session → List Session → Type 0
AreShown w [] us = ⊥
AreShown w (s ∷ ss) [] = ⊥
AreShown w (s ∷ ss) (u ∷ us) =
    ((s.pending ≡ []) × (u ≡ s) × AreShown w ss us)
    ⊎ ((ws : List Write) × (s.pending ≡ w ∷ ws) × AfterPiece s ws u × (us ≡ ss))

-- what is pending is a flush
abbrev pub AreFlushing : List Session → Type 0
AreFlushing [] = ⊥
AreFlushing (s ∷ ss) = ((s.pending ≢ []) × (s.flushing ≡ true)) ⊎ AreFlushing ss

-- With the last piece of a flush what was retired is free, or forgotten.
pub record AfterPieceOf (w : Write) (old new : Sessions) : Type 0 where
  pub parts : AreShown w old.parts new.parts
  pub places : (AreFlushing old.parts × (all_pending new.parts ≡ []) × Freed old.keeps old.places new.places)
      ⊎ (((all_pending new.parts ≢ []) ⊎ (AreFlushing old.parts → ⊥)) × (new.places ≡ old.places))
  pub session : new ≡ record old { places = new.places; parts = new.parts }

-- the session once it was stopped: what was pending is dropped
abbrev pub stopped_all : Sessions → Sessions
stopped_all S = record S { parts = map stopped_of S.parts; stopped = true }

-- no further call changes anything, but that what is pending becomes visible
abbrev pub halted_of : Session → Session
halted_of s = record s { stopped = true }

abbrev pub halted : Sessions → Sessions
halted S = record S { parts = map halted_of S.parts; stopped = true }

-- the superblock of a closed session
abbrev pub closed_super : Sessions → Super
closed_super S = record (S.root) { flags = cleared S.root.flags }

-- a part of a closed session that has not the superblock's piece
abbrev pub closed_part : Super → Session → Session
closed_part root s = told_of (stopped_of s) root s.places

abbrev pub closed_parts : Super → List Session → List Session
closed_parts root [] = []
closed_parts root (s ∷ ss) = closed_of s ∷ map (closed_part root) ss

-- the session once it was closed: the superblock is pending, in the first part
abbrev pub closed_all : Sessions → Sessions
closed_all S = record S { root = closed_super S; parts = closed_parts (closed_super S) S.parts; stopped = true }

-- what is retired stays out of use from now on
abbrev pub keeping : Sessions → Sessions
keeping S = record S { keeps = true }
