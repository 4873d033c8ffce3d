-- The first flush of an index, whatever its kind: until its pieces are shown no chunk has an address.
use Rattle.std.specs.Prelude.{◌≡◌, ℕ, ◌*◌, ◌^◌, ◌<◌, List, [], ◌∷◌, ◌++◌, length, IfSome, Ok}
use Rattle.h5w_model.specs.Numbers.{undefined}
use Rattle.h5w_model.specs.Programs.{eval}
use Rattle.h5w_model.specs.Datasets.{Described}
use Rattle.h5w_model.specs.Tables.{InPlace}
use Rattle.h5w_model.specs.Findings.{Used, chunk_bytes}
use Rattle.h5w_model.specs.Logs.{Log, appended}
use Rattle.h5w_model.specs.declared.cell.Key.{Key}
use Rattle.h5w_model.specs.declared.cell.IndexKind.{IndexKind}
use Rattle.h5w_model.specs.declared.piece.Write.{Write}
use Rattle.h5w_step_laws.specs.Ranges.{Among, AllAmong, AllEndBy}
use Rattle.h5w_step_laws.specs.Indexes.{behind_visit}
use Rattle.h5w_step_laws.specs.Needed.{AreFew}
use Rattle.h5w_chunks.specs.declared.grid.ChunkPlace.{ChunkPlace}
use Rattle.h5w_step_laws.specs.Files.{LayoutInChunk0, commit_at, with_rows}
use Rattle.h5w_space.specs.Space.{Space, Commits}
use Rattle.h5w_step_laws.specs.Moments.{Moment, Represents}
use Rattle.h5w_step_laws.specs.Logs.{image_now}
use Rattle.h5w_step_laws.specs.Sessions.{Runs}
use Rattle.h5w_array_laws.specs.Among.{AreAmong}
use Rattle.h5w_flush_laws.specs.Spaces.{LetGo, Taken}
use Rattle.h5w_flush_laws.specs.Knowledge.{AnswersBy, HeldMissed, IsMap, Knows}
use Rattle.h5w_flush_laws.specs.Parts.{AreEnded, EachSays, IsFlush, Parts, SaysInPlace, block_ranges, block_writes, committed, copied, ended, flushed_to, fresh_of, pieces_of}
use Rattle.h5w_flush_laws.specs.Rows.{ArePlaced}
use Rattle.h5w_flush_laws.specs.Flushes.{IsBegun, Rests, flush_planned, shown_also}

-- no chunk has an address
abbrev pub no_chunk : Key → ℕ
no_chunk key = undefined

-- ---- A file without an index

-- the dataset's index is of this kind, and its layout names none yet
pub record IsUnnamed (index : IndexKind) (d : Described) : Type 0 where
  pub kind : d.layout.index ≡ index
  pub address : d.layout.address ≡ undefined

-- what is known of such a file when nothing is pending: it is known as any other
pub record UnnamedKnows (index : IndexKind) (img name : List ℕ) (m : Moment) (s : Space) : Type 0 where
  pub knows : Knows img name m no_chunk s
  pub unnamed : IsUnnamed index m.dataset

-- The index that is not there is the map by which no chunk has an address; it has no ranges.
pub record IsNowhere (img : List ℕ) (m : Moment) : Type 0 where
  pub map : IsMap img m.dataset no_chunk
  pub fixed : m.fixed ≡ []
  pub behind : m.behind ≡ []

-- ---- What a first flush shows

-- Of its new rows. Rows that were there before and had no chunk have the fill, which a new chunk has in them.
pub record RisesTo (img : List ℕ) (m : Moment) (f : Parts) (places : List ChunkPlace) : Type 0 where
  pub rises : m.dataset.shape.rows < f.rows
  pub small : f.rows < 2 ^ 64
  pub few : AreFew (with_rows f.rows m.dataset)
  pub count : length (m.values ++ f.more) ≡ f.rows * m.dataset.shape.cols
  pub placed : ArePlaced img m no_chunk f places
  pub ended : AreEnded m.super f.end f.supers

-- Of its places: those of the blocks in place that come, `tops`, are taken with the chunks' in whatever order, and those of the other new blocks,
-- `nodes`, by the index's plan. With these the index's ranges are those that the file has.
pub record TakesFirst (m : Moment) (base t : Space) (f : Parts) (tops nodes : List Used) : Type 0 where
  pub before : Space
  pub between : Space
  pub taken : Taken base (tops ++ f.chunks) before
  pub planned : Taken before nodes between
  pub into : AreAmong (block_ranges f.copies) (nodes ++ tops)
  pub back : AreAmong (nodes ++ tops) (block_ranges f.copies)
  pub end : f.end ≡ between.end
  pub left : List Used
  pub let_go : LetGo between left t
  pub left_before : AllAmong left m.behind
  pub left_after : (u : Used) → Among u left → ¬ Among u f.behind
  pub fixed : f.fixed ≡ m.fixed ++ tops
  pub behind : AreAmong f.behind (nodes ++ f.chunks)

-- Of its index, which each kind shows by its own laws: what its blocks in place will say, and that a reader finds all behind them once the copies
-- are written.
pub record SaysFirst (img : List ℕ) (m : Moment) (f : Parts) : Type 0 where
  pub blocks : InPlace
  pub visited : AllEndBy f.end f.behind → eval (copied img f) (behind_visit f.end (chunk_bytes m.dataset) blocks) ≡ Ok f.behind
  pub answers : AnswersBy (copied img f) m.dataset blocks f.address
  pub each_says : EachSays m.dataset m.fixed blocks f.fixed (ended img f) f.in_place
  pub said : f.in_place ≡ [] → SaysInPlace (copied img f) (committed m.dataset f.rows f.named) blocks f.fixed
  pub named : IfSome f.named (λ a. (m.dataset.layout.address ≡ undefined) × (a < 2 ^ 64))

-- ---- Laws

abbrev pub UnnamedNowhere : Type 0
UnnamedNowhere = (img name : List ℕ) (m : Moment) → Represents img name m → m.dataset.layout.address ≡ undefined → IsNowhere img m

-- A session begins with such a file: the places begin at its end, and readers hold no more than what it has.
abbrev pub UnnamedBegins : Type 0
UnnamedBegins = (index : IndexKind) (img name : List ℕ) (m : Moment) (s : Space) → Represents img name m → IsUnnamed index m.dataset → LayoutInChunk0 img m.place → IsBegun m s
    → (x : UnnamedKnows index img name m s) × (x.knows.held ≡ m.behind)

-- all its new places are taken
abbrev pub FirstTaken : Type 0
FirstTaken = (m : Moment) (base t : Space) (f : Parts) (tops nodes : List Used) → (x : TakesFirst m base t f tops nodes) → Taken base (fresh_of f) x.between

-- It is a flush, and its rows' writes meet nothing that readers may hold.
pub record IsFirstFlush (img : List ℕ) (m : Moment) (held : List Used) (base t : Space) (f : Parts) : Type 0 where
  pub flush : IsFlush img m no_chunk base f t
  pub missed : HeldMissed held f.writes

abbrev pub FirstIsFlush : Type 0
FirstIsFlush = (img name : List ℕ) (m : Moment) (base t : Space) (f : Parts) (tops nodes : List Used) (places : List ChunkPlace) → (k : Knows img name m no_chunk base)
    → RisesTo img m f places → TakesFirst m base t f tops nodes → SaysFirst img m f → IsFirstFlush img m k.held base t f

-- Over a session's log: a flush is planned of all values that were appended. After any of its pieces the log is that of a run with the others
-- pending (the laws of a session say so); after all of them the session rests.
pub record IsFirstOver (name : List ℕ) (log : Log) (m : Moment) (t : Space) (f : Parts) : Type 0 where
  pub runs : Runs name (flush_planned m f log) (pieces_of (image_now log) m f) (flushed_to m f) f.behind
  pub rests : (v : Space) → Commits t v → Rests name (shown_also (pieces_of (image_now log) m f) (flush_planned m f log)) (flushed_to m f) f.address v

abbrev pub FirstRuns : Type 0
FirstRuns = (name : List ℕ) (log : Log) (m : Moment) (base t : Space) (f : Parts) → (k : Knows (image_now log) name m no_chunk base) → Runs name log [] m k.held
    → IsFirstFlush (image_now log) m k.held base t f → m.values ++ f.more ≡ appended log → IsFirstOver name log m t f

-- Where no block is written again in place its pieces are the rows, the index's blocks, the superblock, and last the dataset header.
abbrev pub FirstPieces : Type 0
FirstPieces = (img : List ℕ) (m : Moment) (f : Parts) (cs fixed : List Write) → f.in_place ≡ [] → block_writes f.copies ≡ cs ++ fixed
    → pieces_of img m f ≡ f.writes ++ (cs ++ (fixed ++ (f.supers ++ commit_at img m.place f.rows f.named ∷ [])))
