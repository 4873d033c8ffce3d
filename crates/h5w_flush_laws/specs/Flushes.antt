-- The laws of a flush, whatever the index.
use Rattle.std.specs.Prelude.{◌≡◌, ℕ, ◌*◌, ◌^◌, ◌<◌, ◌≤◌, List, [], ◌∷◌, ◌++◌, length, None, ℤ}
use Rattle.h5w_model.specs.Numbers.{undefined}
use Rattle.h5w_model.specs.Images.{apply, image}
use Rattle.h5w_model.specs.Headers.{with_rows_bytes}
use Rattle.h5w_model.specs.Logs.{Log, appends, plans, shows, appended, and_now}
use Rattle.h5w_model.specs.Findings.{Used}
use Rattle.h5w_model.specs.declared.cell.Key.{Key}
use Rattle.h5w_model.specs.declared.piece.Write.{Write}
use Rattle.h5w_step_laws.specs.Needed.{AreFew}
use Rattle.h5w_space.specs.Space.{Space, Commits}
use Rattle.h5w_step_laws.specs.Files.{chunk_0, with_rows, LayoutInChunk0}
use Rattle.h5w_step_laws.specs.Moments.{Moment, Represents}
use Rattle.h5w_step_laws.specs.Steps.{Ends}
use Rattle.h5w_step_laws.specs.Logs.{image_now}
use Rattle.h5w_step_laws.specs.Plans.{Plan, Flush}
use Rattle.h5w_step_laws.specs.Sessions.{Runs}
use Rattle.h5w_flush_laws.specs.Spaces.{Taken}
use Rattle.h5w_flush_laws.specs.Knowledge.{HeldMissed, IsMap, KnownHeld, Knows}
use Rattle.h5w_flush_laws.specs.Parts.{Parts, block_ranges, block_writes, flushed_to, pieces_of, AllUnseen, AreEnded, RowsFlushed, IsFlush}

-- ---- A session begins

-- the places begin at the file's end, and nothing is free
pub record IsBegun (m : Moment) (s : Space) : Type 0 where
  pub end : s.end ≡ m.super.end
  pub none_free : s.free ≡ []
  pub none_retired : s.retired ≡ []

-- A file whose index is a map is known, and readers hold no more than what it has: to a session that created it, or opened it.
abbrev pub BeginKnows : Type 0
BeginKnows = (img name : List ℕ) (m : Moment) (address : Key → ℕ) (s : Space) → Represents img name m → IsMap img m.dataset address → IsBegun m s
    → (m.dataset.layout.address ≡ undefined → LayoutInChunk0 img m.place) → KnownHeld img name m address s m.behind

-- ---- A flush

-- its pieces are safe, and lead to the file with the new rows
abbrev pub FlushSafe : Type 0
FlushSafe = (img name : List ℕ) (m : Moment) (old : Key → ℕ) (s t : Space) (f : Parts) → (k : Knows img name m old s) → IsFlush img m old s f t → HeldMissed k.held f.writes
    → Flush img m k.held (pieces_of img m f) (flushed_to m f) f.behind

-- Once all are shown the file is known as before, with the places as the flush left them: what was let go is not free yet. Chunk 0 of
-- the dataset header is the one before with the new rows, and with the index's address where the header names it for the first time.
pub record IsKnownThen (img name : List ℕ) (m : Moment) (t : Space) (f : Parts) : Type 0 where
  pub knows : Knows (image img (pieces_of img m f)) name (flushed_to m f) f.address t
  -- readers hold no more than what stands behind the blocks in place then
  pub held : knows.held ≡ f.behind
  pub header : chunk_0 (image img (pieces_of img m f)) m.place ≡ with_rows_bytes (chunk_0 img m.place) f.rows f.named

abbrev pub KnowsThen : Type 0
KnowsThen = (img name : List ℕ) (m : Moment) (old : Key → ℕ) (s t : Space) (f : Parts) → (k : Knows img name m old s) → IsFlush img m old s f t → HeldMissed k.held f.writes → IsKnownThen img name m t f

-- a known file stays known where what was let go becomes free
abbrev pub FreedKnown : Type 0
FreedKnown = (img name : List ℕ) (m : Moment) (address : Key → ℕ) (t v : Space) → Commits t v → (k : Knows img name m address t) → KnownHeld img name m address v k.held

-- so it is once all are shown, and what was let go is free
abbrev pub KnowsAgain : Type 0
KnowsAgain = (img name : List ℕ) (m : Moment) (old : Key → ℕ) (s t v : Space) (f : Parts) → (k : Knows img name m old s) → IsFlush img m old s f t → HeldMissed k.held f.writes → Commits t v
    → KnownHeld (image img (pieces_of img m f)) name (flushed_to m f) f.address v f.behind

-- The superblock with other flags, as a session sets them when it opens a file, or with an end that covers places taken early.
abbrev pub EndKnown : Type 0
EndKnown = (img name : List ℕ) (m n : Moment) (old : Key → ℕ) (s : Space) (w : Write) → (k : Knows img name m old s) → Ends img m w n → n.super.end ≤ s.end → KnownHeld (apply w img) name n old s k.held

-- The parts of a flush whose rows all go into chunks that have addresses: the index stays. (So too where a dataset has no columns.)
abbrev pub rows_alone : Moment → (Key → ℕ) → ℕ → ℕ → List ℤ → List Write → List Write → Parts
rows_alone m address end rows more writes supers = record {
  rows = rows;
  more = more;
  writes = writes;
  chunks = [];
  copies = [];
  supers = supers;
  end = end;
  in_place = [];
  named = None;
  address = address;
  fixed = m.fixed;
  behind = m.behind;
}

-- they are a flush, at which no place is taken or let go
abbrev pub RowsAloneFlush : Type 0
RowsAloneFlush = (img name : List ℕ) (m : Moment) (old : Key → ℕ) (s : Space) (rows : ℕ) (more : List ℤ) (writes supers : List Write) → (k : Knows img name m old s)
    → m.dataset.shape.rows < rows → rows < 2 ^ 64 → AreFew (with_rows rows m.dataset) → length (m.values ++ more) ≡ rows * m.dataset.shape.cols → AreEnded m.super s.end supers
    → RowsFlushed img m (rows_alone m old s.end rows more writes supers) → IsFlush img m old s (rows_alone m old s.end rows more writes supers) s

-- Blocks and chunks that are written early, at places taken: nothing changes for readers, and the file is known as before.
pub record IsEarly (img name : List ℕ) (m : Moment) (held : List Used) (old : Key → ℕ) (bs : List (ℕ × List ℕ)) (t : Space) : Type 0 where
  pub plan : Plan img m held (block_writes bs) m held
  pub known : Knows (image img (block_writes bs)) name m old t
  pub holds : known.held ≡ held

abbrev pub EarlyBlocks : Type 0
EarlyBlocks = (img name : List ℕ) (m : Moment) (old : Key → ℕ) (s t : Space) (bs : List (ℕ × List ℕ)) → (k : Knows img name m old s) → Taken s (block_ranges bs) t → IsEarly img name m k.held old bs t

-- Writes that no reader reaches, as those of rows that are written before a flush: nothing changes for readers, and the file is known as before,
-- by the places of before.
pub record IsUnseen (img name : List ℕ) (m : Moment) (held : List Used) (old : Key → ℕ) (s : Space) (ws : List Write) : Type 0 where
  pub plan : Plan img m held ws m held
  pub known : Knows (image img ws) name m old s
  pub holds : known.held ≡ held
  pub unseen : AllUnseen m ws
  pub off_held : HeldMissed held ws

abbrev pub UnseenKnown : Type 0
UnseenKnown = (img name : List ℕ) (m : Moment) (old : Key → ℕ) (s : Space) (ws : List Write) → (k : Knows img name m old s) → AllUnseen m ws → HeldMissed k.held ws → IsUnseen img name m k.held old s ws

-- ---- A session over its log

-- the log has come to a moment, nothing is pending, and the file is known
pub record Rests (name : List ℕ) (log : Log) (m : Moment) (address : Key → ℕ) (s : Space) : Type 0 where
  pub knows : Knows (image_now log) name m address s
  pub runs : Runs name log [] m knows.held

-- the log after these pieces became visible
abbrev pub shown_also : List Write → Log → Log
shown_also [] log = log
shown_also (w ∷ ws) log = shown_also ws (and_now (shows w) log)

abbrev pub flush_planned : Moment → Parts → Log → Log
flush_planned m f log = and_now (plans (length (pieces_of (image_now log) m f))) log

-- What a session does from one rest to the next. Values are appended; a flush is planned of all that were; after any of its pieces
-- the log is that of a run with the others pending, also where these are dropped by a stop; and after all of them the session rests.
pub record SessionLaws : Type 0 where
  pub appends_values : (name : List ℕ) (log : Log) (m : Moment) (address : Key → ℕ) (s : Space) (vs : List ℤ) → Rests name log m address s → Rests name (and_now (appends vs) log) m address s
  pub plans_flush : (name : List ℕ) (log : Log) (m : Moment) (old : Key → ℕ) (s t : Space) (f : Parts) → (r : Rests name log m old s) → IsFlush (image_now log) m old s f t → HeldMissed r.knows.held f.writes
      → m.values ++ f.more ≡ appended log → Runs name (flush_planned m f log) (pieces_of (image_now log) m f) (flushed_to m f) f.behind
  pub shows_some : (name : List ℕ) (log : Log) (n : Moment) (after : List Used) (ws vs : List Write) → Runs name log (ws ++ vs) n after → Runs name (shown_also ws log) vs n after
  pub rests_again : (name : List ℕ) (log : Log) (m : Moment) (old : Key → ℕ) (s t v : Space) (f : Parts) → (r : Rests name log m old s) → IsFlush (image_now log) m old s f t → HeldMissed r.knows.held f.writes
      → m.values ++ f.more ≡ appended log → Commits t v
      → Rests name (shown_also (pieces_of (image_now log) m f) (flush_planned m f log)) (flushed_to m f) f.address v
