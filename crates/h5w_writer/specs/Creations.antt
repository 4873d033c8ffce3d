-- The session that creates a file.
use Rattle.std.specs.Prelude.{◌≡◌, ℕ, ◌^◌, ◌≤◌, List, [], false}
use Rattle.h5w_model.specs.Logs.{Log, Happening}
use Rattle.h5w_space.specs.Space.{Space}
use Rattle.h5w_step_laws.specs.Spelled.{spelled_header}
use Rattle.h5w_index.specs.Views.{IndexView, IsSound}
use Rattle.h5w_creation_laws.specs.CreatedFiles.{CreatedFile, block_place, created_log, created_writes, described_of, end_of, header_place, index_place, super_of}
use Rattle.h5w_creation.specs.Made.{IsNewIndex}
use Rattle.h5w_writer.specs.Sessions.{Session}

-- the most bytes that a file may have
pub record IsLimit (most : ℕ) : Type 0 where
  pub low : 1024 ≤ most
  pub high : most ≤ 2 ^ 40

-- the places of a file that ends there and may grow up to this limit, with nothing free
abbrev pub places_to : ℕ → ℕ → Space
places_to e most = record { end = e; limit = most; free = []; retired = []; spare = 0 }

-- a session that creates a file, up to a limit and with a budget, and has this index without chunks: its pieces are pending
abbrev pub created : CreatedFile → (most budget : ℕ) → IndexView → Session
created f most budget v = record {
  name = f.name;
  root = super_of f;
  place = header_place f;
  header = spelled_header (described_of f);
  dataset = described_of f;
  places = places_to (end_of f) most;
  committed = 0;
  waiting = [];
  waits = 0;
  pending = created_writes f;
  stopped = false;
  keeps = false;
  budget = budget;
  early = 0;
  chunks = [];
  flushing = false;
  index = v;
}

-- the index without chunks of such a file
pub record IsIndexOf (f : CreatedFile) (v : IndexView) : Type 0 where
  pub sound : IsSound v
  pub new : IsNewIndex f.index (index_place f) (block_place f) v

-- The session that creates a file, up to a limit.
pub record IsCreated (f : CreatedFile) (most : ℕ) (s : Session) : Type 0 where
  pub index : IsIndexOf f s.index
  pub session : s ≡ created f most s.budget s.index

-- the log of a session that creates its file, after these events
abbrev pub log_of : CreatedFile → List Happening → Log
log_of f happened = record (created_log f) { events = happened }
