-- A session that opened a file: of which log it is the session, and what it knows of the file.
use Rattle.std.specs.Prelude.{◌≡◌, ◌^◌, ℕ, ◌<◌, ◌≤◌, Bool, true, false, List, [], ◌∷◌, ℤ, Ok}
use Rattle.h5w_model.specs.Superblock.{super_at, super_bytes}
use Rattle.h5w_model.specs.Datasets.{is_swmr}
use Rattle.h5w_model.specs.Findings.{Summary, Valid}
use Rattle.h5w_model.specs.Logs.{Log}
use Rattle.h5w_model.specs.Tables.{Reads}
use Rattle.h5w_model.specs.declared.root.Super.{Super}
use Rattle.h5w_flush_laws.specs.Knowledge.{Knows}
use Rattle.h5w_step_laws.specs.Moments.{Moment, Represents}
use Rattle.h5w_index.specs.Views.{IsClean, address_in}
use Rattle.h5w_chunks.specs.Grids.{dataset_of}
use Rattle.h5w_index.specs.Held.{view_of}
use Rattle.h5w_writer.specs.Indexes.{IsKeptIndex}
use Rattle.h5w_writer.specs.Past.{IsCounted}
use Rattle.h5w_writer.specs.Sessions.{Session}
use Rattle.h5w_writer.specs.declared.over.FileParts.{FileParts}
use Rattle.h5w_writer.specs.Stands.{Keeps, Stands}

-- what a session over a file that is there begins with: the superblock is pending, and nothing happened yet
abbrev pub session_over : FileParts → List ℕ → (limit budget : ℕ) → Session
session_over file name limit budget = record {
  name = name;
  root = file.root;
  place = file.place;
  header = file.header;
  dataset = dataset_of file.grid;
  places = record { end = file.root.end; limit = limit; free = []; retired = []; spare = 0 };
  committed = file.grid.shape.rows;
  waiting = [];
  waits = 0;
  pending = record { at = 0; piece = super_bytes file.root } ∷ [];
  stopped = false;
  keeps = false;
  budget = budget;
  early = 0;
  chunks = [];
  flushing = false;
  index = view_of file.index;
}

-- the log of a session that opened a file with these values, to which nothing happened yet
abbrev pub opened_log : List ℕ → ℕ → List ℤ → Log
opened_log img columns values = record { start = img; columns = columns; values = values; first = 0; events = [] }

-- The session has what the file has, of which readers hold no more, its places begin where the file ends, no rows wait, and nothing is
-- pending.
pub record IsOver (s : Session) (img : List ℕ) (m : Moment) : Type 0 where
  pub knows : Knows img s.name m (λ key. address_in s.index key) s.places
  pub held : knows.held ≡ m.behind
  pub keeps : Keeps s img m
  pub index : IsKeptIndex img m (λ key. address_in s.index key) s.places s.index
  pub clean : IsClean s.index
  pub end : s.places.end ≡ m.super.end
  pub limit_low : 1024 ≤ s.places.limit
  pub limit_high : s.places.limit ≤ 2 ^ 40
  pub counted : IsCounted s.dataset
  pub committed : s.committed ≡ s.dataset.shape.rows
  pub waiting : s.waiting ≡ []
  pub waits : s.waits ≡ 0
  pub early : s.early ≡ 0
  pub chunks : s.chunks ≡ []
  pub flushing : s.flushing ≡ false
  pub idle : s.pending ≡ []
  pub running : s.stopped ≡ false

-- the superblock with other flags
abbrev pub flagged_root : ℕ → Session → Super
flagged_root flags s = record (s.root) { flags = flags }

-- the session with the superblock of other flags pending
abbrev pub flagged : ℕ → Bool → Session → Session
flagged flags stop s = record s {
  root = flagged_root flags s;
  pending = record { at = 0; piece = super_bytes (flagged_root flags s) } ∷ [];
  stopped = stop;
}

-- Over a valid file with rows of at least one column a session that is over it stands for the log without events. So it does with the
-- superblock pending by which it says that it writes, or that it writes no more.
pub record OverLaws : Type 0 where
  pub over : (img name : List ℕ) (rows columns : ℕ) (values : List ℤ) (sm : Summary) → Valid img name sm → Reads img name rows columns values → 0 < columns
      → (m : Moment) × Represents img name m × ((s : Session) → s.name ≡ name → IsOver s img m → Stands s (opened_log img columns values))
  pub rewritten : (s : Session) (log : Log) (flags : ℕ) (stop : Bool) → super_at (super_bytes (flagged_root flags s)) ≡ Ok (flagged_root flags s) → is_swmr (flagged_root flags s) ≡ true → s.stopped ≡ false → s.pending ≡ [] → Stands s log
      → Stands (flagged flags stop s) log
