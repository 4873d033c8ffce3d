-- Sessions of datasets of one file, just opened, and the session of all of them.
use Rattle.std.specs.Prelude.{◌≡◌, ◌≤◌, ℕ, false, List, [], ◌∷◌}
use Rattle.h5w_model.specs.declared.piece.Write.{Write}
use Rattle.h5w_model.specs.declared.root.Super.{Super}
use Rattle.h5w_space.specs.Space.{Space}
use Rattle.h5w_writer.specs.Sessions.{Session}
use Rattle.h5w_writer.specs.Told.{told_of}
use Rattle.h5w_several_writer_laws.specs.Sessions.{Sessions}

-- The session of a dataset of a file that was opened: one piece is pending, no flush, and nothing was written early.
pub record IsOpened (end : ℕ) (s : Session) : Type 0 where
  pub ends : s.places.end ≤ end
  pub going : s.stopped ≡ false
  pub first : Write
  pub pending : s.pending ≡ first ∷ []
  pub calm : s.flushing ≡ false
  pub early : s.early ≡ 0

abbrev pub AreOpened : ℕ → List Session → Type 0
AreOpened end [] = Unit {0}
AreOpened end (s ∷ ss) = IsOpened end s × AreOpened end ss

-- with this superblock and these places, and nothing pending
abbrev pub rested : Super → Space → List Session → List Session
rested root t [] = []
rested root t (s ∷ ss) = told_of (record s { pending = [] }) root t ∷ rested root t ss

-- the first keeps its piece
abbrev pub settled : Super → Space → List Session → List Session
settled root t [] = []
settled root t (s ∷ ss) = told_of s root t ∷ rested root t ss

-- places that begin where a file ends
abbrev pub places_from : (end limit : ℕ) → Space
places_from end limit = record { end = end; limit = limit; free = []; retired = []; spare = 0 }

-- the session of all of them: the superblock is pending once
abbrev pub sessions_over : Super → ℕ → List Session → Sessions
sessions_over root limit ss = record {
  root = root;
  places = places_from root.end limit;
  parts = settled root (places_from root.end limit) ss;
  stopped = false;
  keeps = false;
}

-- the same where the superblock is the file's already, so that nothing is pending
abbrev pub sessions_at_rest : Super → ℕ → List Session → Sessions
sessions_at_rest root limit ss = record (sessions_over root limit ss) { parts = rested root (places_from root.end limit) ss }
