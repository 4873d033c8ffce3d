-- A session of several datasets that creates its file: what it begins with, and the log to which nothing happened yet.
use Rattle.std.specs.Prelude.{◌≡◌, ℕ, false, List, [], ◌∷◌, length, map}
use Rattle.h5w_model.specs.Several.{Begun, FileLog, Happened, shows_all}
use Rattle.h5w_model.specs.declared.piece.Write.{Write}
use Rattle.h5w_model.specs.declared.root.Super.{Super}
use Rattle.h5w_space.specs.Space.{Space}
use Rattle.h5w_step_laws.specs.Spelled.{spelled_header}
use Rattle.h5w_index.specs.Views.{IndexView, IsSound}
use Rattle.h5w_creation_laws.specs.CreatedFiles.{CreatedFile}
use Rattle.h5w_creation.specs.Made.{IsNewIndex}
use Rattle.h5w_several_creation_laws.specs.SeveralFiles.{block_behind, created_writes, described_at, end_behind, end_of, first_place, index_behind, super_of}
use Rattle.h5w_writer.specs.Creations.{places_to}
use Rattle.h5w_writer.specs.Sessions.{Session}
use Rattle.h5w_several_writer_laws.specs.Sessions.{Sessions}

-- a dataset in the log of its file: its columns, and no rows
abbrev pub begun_of : CreatedFile → Begun
begun_of f = record { columns = f.columns; values = [] }

-- The log of a session that creates a file of these datasets, to which nothing happened yet. A reader finds a file once
-- all pieces of the creation are shown.
abbrev pub created_file : List CreatedFile → FileLog
created_file fs = record { start = []; sets = map begun_of fs; first = length (created_writes fs); events = [] }

-- the session of one of them, whose header stands at a place and which has this index without chunks
abbrev pub created_part : Super → Space → (budget place : ℕ) → CreatedFile → IndexView → Session
created_part root t budget place f v = record {
  name = f.name;
  root = root;
  place = place;
  header = spelled_header (described_at place f);
  dataset = described_at place f;
  places = t;
  committed = 0;
  waiting = [];
  waits = 0;
  pending = [];
  stopped = false;
  keeps = false;
  budget = budget;
  early = 0;
  chunks = [];
  flushing = false;
  index = v;
}

-- those of all, the first of which has its header at a place
abbrev pub created_parts : Super → Space → (budget place : ℕ) → List CreatedFile → List IndexView → List Session
created_parts root t budget place [] vs = []
created_parts root t budget place (f ∷ fs) [] = []
created_parts root t budget place (f ∷ fs) (v ∷ vs) = created_part root t budget place f v ∷ created_parts root t budget (end_behind place f) fs vs

-- an index without chunks of each, whose blocks in place stand behind its header
abbrev pub AreIndexes : ℕ → List CreatedFile → List IndexView → Type 0
AreIndexes place [] [] = Unit {0}
AreIndexes place [] (v ∷ vs) = ⊥
AreIndexes place (f ∷ fs) [] = ⊥
AreIndexes place (f ∷ fs) (v ∷ vs) = (IsSound v × IsNewIndex f.index (index_behind place f) (block_behind place f) v) × AreIndexes (end_behind place f) fs vs

-- pieces that are pending before all others: the first part has them
abbrev pub leading : List Write → List Session → List Session
leading ws [] = []
leading ws (s ∷ ss) = record s { pending = ws } ∷ ss

abbrev pub led : List Write → Sessions → Sessions
led ws S = record S { parts = leading ws S.parts }

-- The session that creates a file of these datasets, up to a limit and with a budget, and has these indexes: the pieces
-- of the creation are pending.
abbrev pub created_all : List CreatedFile → (limit budget : ℕ) → List IndexView → Sessions
created_all fs limit budget vs = record {
  root = super_of 5 fs;
  places = places_to (end_of fs) limit;
  parts = leading (created_writes fs) (created_parts (super_of 5 fs) (places_to (end_of fs) limit) budget (first_place fs) fs vs);
  stopped = false;
  keeps = false;
}

-- the session of such a file once all of them are shown
abbrev pub shown_all : List CreatedFile → (limit budget : ℕ) → List IndexView → Sessions
shown_all fs limit budget vs = record {
  root = super_of 5 fs;
  places = places_to (end_of fs) limit;
  parts = created_parts (super_of 5 fs) (places_to (end_of fs) limit) budget (first_place fs) fs vs;
  stopped = false;
  keeps = false;
}

-- these pieces are shown, one after another
abbrev pub showing_all : List Write → List Happened → List Happened
showing_all [] es = es
showing_all (w ∷ ws) es = showing_all ws (shows_all w ∷ es)

-- the log once so many pieces of the creation are shown, and once all are
abbrev pub file_after : List CreatedFile → List Write → FileLog
file_after fs ws = record (created_file fs) { events = showing_all ws [] }

abbrev pub shown_file : List CreatedFile → FileLog
shown_file fs = file_after fs (created_writes fs)

pub record IsCreatedAll (fs : List CreatedFile) (limit budget : ℕ) (S : Sessions) : Type 0 where
  pub indexes : List IndexView
  pub are : AreIndexes (first_place fs) fs indexes
  pub is : S ≡ created_all fs limit budget indexes

-- it is that session once they are shown
pub record IsShownAll (fs : List CreatedFile) (limit budget : ℕ) (S : Sessions) : Type 0 where
  pub indexes : List IndexView
  pub are : AreIndexes (first_place fs) fs indexes
  pub is : S ≡ shown_all fs limit budget indexes
