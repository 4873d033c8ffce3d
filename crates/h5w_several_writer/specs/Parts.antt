-- What holds of the parts of a session of several datasets.
use Rattle.std.specs.Prelude.{◌≡◌, ◌^◌, ℕ, ◌<◌, ◌≤◌, false, List, [], ◌∷◌, length}
use Rattle.h5w_model.specs.declared.root.Super.{Super}
use Rattle.h5w_writer.specs.Sessions.{IsSession, Session}
use Rattle.h5w_several_writer.specs.Opened.{places_from}
use Rattle.h5w_several_writer_laws.specs.Sessions.{AreSessions, Sessions, all_pending}

-- what holds of the session, whose pieces can be counted
pub record AreCounted (S : Sessions) : Type 0 where
  pub sessions : AreSessions S
  pub few : length (all_pending S.parts) < 2 ^ 64

-- nothing is pending in any of these, whose places end by this
abbrev pub AreIdle : ℕ → List Session → Type 0
AreIdle end [] = Unit {0}
AreIdle end (s ∷ ss) = (IsSession s × (s.pending ≡ []) × (s.places.end ≤ end)) × AreIdle end ss

abbrev pub AllSessions : List Session → Type 0
AllSessions [] = Unit {0}
AllSessions (s ∷ ss) = IsSession s × AllSessions ss

-- each has places that end there, in which nothing is free or retired
abbrev pub AreEnded : (end limit : ℕ) → List Session → Type 0
AreEnded end limit [] = Unit {0}
AreEnded end limit (s ∷ ss) = (s.places ≡ places_from end limit) × AreEnded end limit ss

-- The first of these has this superblock; nothing is pending in it, and it goes on.
abbrev pub IsFirst : Super → List Session → Type 0
IsFirst root [] = ⊥
IsFirst root (s ∷ ss) = IsSession s × (s.root ≡ root) × (s.stopped ≡ false) × (s.pending ≡ [])
