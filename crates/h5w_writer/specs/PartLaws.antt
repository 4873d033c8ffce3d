-- What each call makes of a session that is one of several over a file, told of the moment that it knows.
use Rattle.std.specs.Prelude.{◌≡◌, ◌≢◌, ℕ, ◌+◌, ◌<◌, ◌≤◌, Bool, true, false, List, [], ◌∷◌, ◌++◌, length, ℤ, None, Ok}
use Rattle.h5w_model.specs.Images.{apply, image}
use Rattle.h5w_model.specs.Superblock.{super_at, super_bytes}
use Rattle.h5w_model.specs.Datasets.{is_swmr}
use Rattle.h5w_model.specs.Findings.{Summary, Used, Valid}
use Rattle.h5w_model.specs.Logs.{Log, appends, shows, plans, and_now, load}
use Rattle.h5w_model.specs.Tables.{Reads}
use Rattle.h5w_model.specs.declared.cell.Key.{Key}
use Rattle.h5w_model.specs.declared.piece.Write.{Write}
use Rattle.h5w_model.specs.declared.root.Super.{Super}
use Rattle.h5w_step_laws.specs.Ranges.{MissesBlocks}
use Rattle.h5w_space.specs.Space.{Space}
use Rattle.h5w_space.specs.declared.Full.{Full}
use Rattle.h5w_step_laws.specs.Moments.{Moment, Represents}
use Rattle.h5w_step_laws.specs.Steps.{OffAll}
use Rattle.h5w_step_laws.specs.Logs.{image_now}
use Rattle.h5w_step_laws.specs.Plans.{Plan}
use Rattle.h5w_flush_laws.specs.Knowledge.{HeldMissed, Holding, Knows}
use Rattle.h5w_flush_laws.specs.Parts.{IsFlush, Parts, flushed_to, pieces_of}
use Rattle.h5w_flush_laws.specs.Spaces.{AllLive}
use Rattle.h5w_index.specs.Marks.{IsRaised}
use Rattle.h5w_index.specs.Views.{address_in}
use Rattle.h5w_writer.specs.Early.{WrittenEarly, dirty_of}
use Rattle.h5w_writer.specs.Flushes.{SameBut}
use Rattle.h5w_writer.specs.Openings.{IsOver, flagged, flagged_root, opened_log}
use Rattle.h5w_writer.specs.Past.{most_of}
use Rattle.h5w_writer.specs.Refusals.{IsFullFor, append_refusal}
use Rattle.h5w_writer.specs.Sessions.{AfterPiece, AllEndBy, AreRows, Freed, Session, cutting_of, stopped_of, with_values}
use Rattle.h5w_writer.specs.Starts.{HasFlushed}
use Rattle.h5w_writer.specs.Stands.{Running, Stands}
use Rattle.h5w_writer.specs.Told.{IsTold, moved_to, told_log, told_of}

-- ---- What is known

-- The session runs over the log: it knows this moment, by this map, of which readers may hold this, with these places when the file came to rest.
pub record RunsAs (s : Session) (left : List Write) (log : Log) (m : Moment) (address : Key → ℕ) (held : List Used) (rest : Space) : Type 0 where
  pub running : Running s left log
  pub after : running.after ≡ m
  pub address_is : ◌≡◌ {A = Key → ℕ} running.address address
  pub held_is : running.held ≡ held
  pub rest_is : running.rest ≡ rest

-- the moment with other ranges behind the root header's
abbrev pub rooted : List Used → Moment → Moment
rooted us m = record m { root = us }

-- ---- A flush

-- Its parts, of the moment that the session knows. They meet nothing that readers may hold, whatever of others' is put to that; its pieces are
-- those that are pending; the session knows the moment to which they lead, by the parts' map, with the places as the flush left them. They are
-- no more than the load of the log, and neither is what the file grew by.
pub record IsPartFlushed (old new : Session) (log : Log) (r : Running old [] log) : Type 0 where
  pub parts : Parts
  pub flush : IsFlush (image_now log) r.after r.address r.rest parts new.places
  pub missed : (held : List Used) → Holding r.after r.rest held → HeldMissed held parts.writes
  pub pieces : pieces_of (image_now log) r.after parts ≡ new.pending
  pub runs : RunsAs new new.pending (and_now (plans (length new.pending)) log) (flushed_to r.after parts) parts.address parts.behind new.places
  pub few : length new.pending ≤ load (cutting_of old) log
  pub raised : IsRaised old.places new.places (load (cutting_of old) log)

-- The file has no place of this size there; both are bounded by the load of the log.
pub record HasNoPlace (s : Session) (log : Log) (full : Full) : Type 0 where
  pub some : 1 ≤ full.size
  pub limit : full.limit ≡ s.places.limit
  pub past : full.limit < full.at + full.size
  pub size_bound : full.size ≤ load (cutting_of s) log
  pub at_bound : full.at ≤ s.places.end + load (cutting_of s) log

-- ---- Pieces of others

-- Each of these pieces misses the dataset's header and all blocks of its index, and leaves the file as it is but for its superblock.
abbrev pub ArePassed : List ℕ → List ℕ → Moment → List Write → Type 0
ArePassed img name m [] = Unit {0}
ArePassed img name m (w ∷ ws) = MissesBlocks w (m.header ++ (m.fixed ++ m.behind)) × (root : Super) × Represents (apply w img) name (moved_to root m) × ArePassed (apply w img) name (moved_to root m) ws

-- the superblock as a piece
abbrev pub super_piece : Super → Write
super_piece root = record { at = 0; piece = super_bytes root }

-- ---- Laws

-- What calls make of a session, and of what it knows.
pub record PartLaws : Type 0 where
  -- a session that runs stands for its log
  pub stands : (s : Session) (left : List Write) (log : Log) → left ≡ s.pending → Running s left log → Stands s log
  -- a session that has what a valid file has runs over the log to which nothing happened yet
  pub over : (img name : List ℕ) (rows columns : ℕ) (values : List ℤ) (sm : Summary) → Valid img name sm → Reads img name rows columns values → 0 < columns
      → (m : Moment) × Represents img name m × ((s : Session) → s.name ≡ name → IsOver s img m → RunsAs s [] (opened_log img columns values) m (λ key. address_in s.index key) m.behind s.places)
  -- where the bytes that wait are within the budget an append writes no row early
  pub unwritten : (s t : Session) (values : List ℤ) → WrittenEarly (with_values s values) t → (t.pending ≢ [] → s.budget < dirty_of (with_values s values)) → dirty_of (with_values s values) ≤ s.budget → t ≡ with_values s values
  -- so the session knows what it knew
  pub appends : (s : Session) (values : List ℤ) (log : Log) (r : Running s [] log) → AreRows s values → append_refusal s values ≡ None
      → RunsAs (with_values s values) [] (and_now (appends values) log) r.after r.address r.held r.rest
  -- a piece of a flush became visible: it knows what it knew, and the places are those that it has then
  pub piece : (s t : Session) (w : Write) (ws : List Write) (log : Log) (r : Running s (w ∷ ws) log) → s.pending ≡ w ∷ ws → s.flushing ≡ true → AfterPiece s ws t
      → RunsAs t ws (and_now (shows w) log) r.after r.address r.held t.places
  -- one that was pending alone, of no flush
  pub alone : (s t : Session) (w : Write) (log : Log) (r : Running s (w ∷ []) log) → s.flushing ≡ false → s.committed ≡ s.dataset.shape.rows → AfterPiece s [] t
      → RunsAs t [] (and_now (shows w) log) r.after r.address r.held r.rest
  -- it is told of pieces of others, which are a plan for its dataset
  pub told : (s : Session) (log : Log) (r : Running s [] log) (ws : List Write) (root : Super) (t : Space) → (x : IsTold s log r ws root t)
      → (n : ℕ) × RunsAs (told_of s root t) [] (told_log n ws log) (moved_to root r.after) r.address r.held x.rest
  -- so it is where they are a plan, the file is known with the places after it, and each of them passed the dataset by
  pub passed : (s : Session) (log : Log) (r : Running s [] log) (ws : List Write) (root : Super) (t : Space) → s.early ≡ 0 → Plan (image_now log) r.after r.held ws (moved_to root r.after) r.held
      → (k : Knows (image (image_now log) ws) s.name (moved_to root r.after) r.address t) → k.held ≡ r.held → ArePassed (image_now log) s.name r.after ws
      → t.limit ≡ s.places.limit → t.end ≤ most_of s log → AllEndBy (most_of s log) ws → (x : IsTold s log r ws root t) × (x.rest ≡ t)
  -- and where the superblock is written with other flags
  pub super : (s : Session) (log : Log) (r : Running s [] log) (flags : ℕ) → s.early ≡ 0 → super_at (super_bytes (flagged_root flags s)) ≡ Ok (flagged_root flags s) → is_swmr (flagged_root flags s) ≡ true
      → (x : IsTold s log r (super_piece (flagged_root flags s) ∷ []) (flagged_root flags s) s.places) × (x.rest ≡ s.places)
  -- that may be its own pending piece as well
  pub flags : (s : Session) (log : Log) (r : Running s [] log) (flags : ℕ) (stop : Bool) → s.stopped ≡ false → super_at (super_bytes (flagged_root flags s)) ≡ Ok (flagged_root flags s) → is_swmr (flagged_root flags s) ≡ true
      → RunsAs (flagged flags stop s) (super_piece (flagged_root flags s) ∷ []) log (moved_to (flagged_root flags s) r.after) r.address r.held r.rest
  -- the ranges of others are told of its file, or others of them, or none
  pub others : (s : Session) (log : Log) (r : Running s [] log) (us : List Used) → Represents (image_now log) s.name (rooted us r.after) → OffAll r.held us → AllLive r.rest us
      → RunsAs s [] log (rooted us r.after) r.address r.held r.rest
  -- a flush, into an index that is there or is made with it
  pub flush : (old new : Session) (log : Log) → HasFlushed old new → old.stopped ≡ false → old.pending ≡ [] → AllEndBy new.places.end new.pending → (r : Running old [] log) → IsPartFlushed old new log r
  -- a flush of no rows
  pub nothing : (s : Session) (log : Log) (r : Running s [] log) → s.waits ≡ 0 → RunsAs s [] (and_now (plans 0) log) r.after r.address r.held r.rest
  -- a flush that was refused leaves what is known
  pub refused : (old new : Session) (log : Log) (r : Running old [] log) → SameBut old new → RunsAs new [] log r.after r.address r.held r.rest
  pub full : (s : Session) (log : Log) (full : Full) → s.stopped ≡ false → s.pending ≡ [] → 0 < s.waits → Running s [] log → IsFullFor s full → HasNoPlace s log full
  -- what was retired becomes free, or is forgotten
  pub freed : (s : Session) (log : Log) (r : Running s [] log) (keeps : Bool) (t : Space) → s.early ≡ 0 → Freed keeps r.rest t → RunsAs (told_of s s.root t) [] log r.after r.address r.held t
  -- a stop drops what is left
  pub stopped : (s : Session) (left : List Write) (log : Log) (r : Running s left log) → RunsAs (stopped_of s) left log r.after r.address r.held r.rest
