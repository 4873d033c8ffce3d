-- The parts of a flush, in the order in which they are written, and what is to be shown of each.
use Rattle.std.specs.Prelude.{◌≡◌, ℕ, ◌+◌, ◌*◌, ◌^◌, ◌<◌, ◌≤◌, List, [], ◌∷◌, ◌++◌, length, map, flat_map, Option, unwrap_or, IfSome, Ok, ℤ}
use Rattle.h5w_model.specs.Numbers.{undefined}
use Rattle.h5w_model.specs.Images.{apply, image, pieces}
use Rattle.h5w_model.specs.Programs.{eval, visits}
use Rattle.h5w_model.specs.Superblock.{super_at}
use Rattle.h5w_model.specs.Datasets.{Described}
use Rattle.h5w_model.specs.Tables.{InPlace, in_place, needed_keys}
use Rattle.h5w_model.specs.Findings.{Used, chunk_bytes}
use Rattle.h5w_model.specs.Prefixed.{StaysDefined}
use Rattle.h5w_model.specs.declared.cell.Key.{Key}
use Rattle.h5w_model.specs.declared.root.Super.{Super}
use Rattle.h5w_model.specs.declared.piece.Write.{Write}
use Rattle.h5w_step_laws.specs.Ranges.{Among, AllAmong, block_at, blocks_of}
use Rattle.h5w_step_laws.specs.Indexes.{behind_visit}
use Rattle.h5w_step_laws.specs.Needed.{AreFew}
use Rattle.h5w_space.specs.Space.{Space}
use Rattle.h5w_step_laws.specs.Files.{commit_at}
use Rattle.h5w_step_laws.specs.Moments.{Moment, HasCells}
use Rattle.h5w_step_laws.specs.Steps.{LiesIn, Unseen}
use Rattle.h5w_step_laws.specs.Counts.{count_at}
use Rattle.h5w_flush_laws.specs.Spaces.{Taken, LetGo}
use Rattle.h5w_flush_laws.specs.Knowledge.{IsAsked, AnswersBy}

-- The parts of a flush: how many rows there are then and the values of the new ones; the writes of these and the new chunks among
-- them; copied and new blocks of the index; the superblock's write, where the end of the file rose, and that end; the index's blocks
-- that are written again where they stand; the address of an index that the header names for the first time. And what the index is
-- then: each key's address, and its ranges.
pub record Parts : Type 0 where
  pub rows : ℕ
  pub more : List ℤ
  pub writes : List Write
  pub chunks : List Used
  pub copies : List (ℕ × List ℕ)
  pub supers : List Write
  pub end : ℕ
  pub in_place : List Write
  pub named : Option ℕ
  pub address : Key → ℕ
  pub fixed : List Used
  pub behind : List Used

-- the writes of some blocks, each in pieces of 512 bytes and a rest
abbrev pub block_writes : List (ℕ × List ℕ) → List Write
block_writes bs = flat_map (λ (b : ℕ × List ℕ). pieces b.0 b.1) bs

-- their ranges
abbrev pub block_ranges : List (ℕ × List ℕ) → List Used
block_ranges bs = map (λ (b : ℕ × List ℕ). block_at b.0 (length b.1)) bs

-- the ranges at new places
abbrev pub fresh_of : Parts → List Used
fresh_of f = f.chunks ++ block_ranges f.copies

-- the dataset with other rows, and with the index's address where the header names it for the first time
abbrev pub committed : Described → ℕ → Option ℕ → Described
committed d rows named = record d { shape = record (d.shape) { rows = rows }; layout = record (d.layout) { address = unwrap_or named d.layout.address } }

-- the file after a flush
abbrev pub flushed_to : Moment → Parts → Moment
flushed_to m f = record m {
  super = record (m.super) { end = f.end };
  dataset = committed m.dataset f.rows f.named;
  fixed = f.fixed;
  behind = f.behind;
  table = map f.address (needed_keys (committed m.dataset f.rows f.named));
  values = m.values ++ f.more;
}

-- the pieces before the header's, and all of them, the header's last
abbrev pub early_of : Parts → List Write
early_of f = f.writes ++ (block_writes f.copies ++ (f.supers ++ f.in_place))

abbrev pub pieces_of : List ℕ → Moment → Parts → List Write
pieces_of img m f = early_of f ++ commit_at img m.place f.rows f.named ∷ []

-- the image once the copies are written, and once the superblock is
abbrev pub copied : List ℕ → Parts → List ℕ
copied img f = image (image img f.writes) (block_writes f.copies)

abbrev pub ended : List ℕ → Parts → List ℕ
ended img f = image (copied img f) f.supers

-- ---- What is to be shown

-- The superblock is written again exactly where the end rose, with the new end and all else as before. (The codec of the superblock:
-- what it spells is read again.)
pub record IsEnded (s : Super) (e : ℕ) (w : Write) : Type 0 where
  pub place : w.at ≡ 0
  pub len : length w.piece ≡ 48
  pub reads : super_at w.piece ≡ Ok (record s { end = e })

abbrev pub AreEnded : Super → ℕ → List Write → Type 0
AreEnded s e [] = e ≡ s.end
AreEnded s e (w ∷ ws) = IsEnded s e w × (ws ≡ [])

-- the blocks in place say this, and are these ranges
pub record SaysInPlace (img : List ℕ) (d : Described) (blocks : InPlace) (fixed : List Used) : Type 0 where
  pub says : eval img (in_place d) ≡ Ok blocks
  pub looks : fixed ≡ blocks_of (visits img (in_place d))

-- each of these pieces lies in a block in place, and after it the blocks in place say this
abbrev pub EachSays : Described → List Used → InPlace → List Used → List ℕ → List Write → Type 0
EachSays d before blocks fixed img [] = Unit {0}
EachSays d before blocks fixed img (w ∷ ws) = LiesIn w before × SaysInPlace (apply w img) d blocks fixed × EachSays d before blocks fixed (apply w img) ws

-- The index of a flush, whatever its kind. All of it is of the index's plan, but for `kept`, which the rows' chunks give (the law
-- RowsFlush).
pub record IndexFlushed (img : List ℕ) (m : Moment) (old : Key → ℕ) (f : Parts) : Type 0 where
  -- what its blocks in place will say
  pub blocks : InPlace
  -- once the copies are written, what they will name stands there
  pub behind : eval (copied img f) (behind_visit f.end (chunk_bytes m.dataset) blocks) ≡ Ok f.behind
  pub answers : AnswersBy (copied img f) m.dataset blocks f.address
  -- after each piece in place they say so
  pub each_says : EachSays m.dataset m.fixed blocks f.fixed (ended img f) f.in_place
  -- Without a piece in place they say so already: an index that stays, or one that the header is to name.
  pub said : f.in_place ≡ [] → SaysInPlace (copied img f) (committed m.dataset f.rows f.named) blocks f.fixed
  -- the blocks in place stay, and others may come behind them, at new places
  pub added : List Used
  pub begins : f.fixed ≡ m.fixed ++ added
  pub added_fresh : AllAmong added (fresh_of f)
  -- each range was there before or is fresh, and none is there twice
  pub known : AllAmong (f.fixed ++ f.behind) (fresh_of f ++ (m.fixed ++ m.behind))
  pub counts : (p : ℕ) → count_at p (f.fixed ++ f.behind) ≤ count_at p (fresh_of f ++ (m.fixed ++ m.behind))
  -- a chunk that has an address keeps it
  pub kept : (key : Key) → IsAsked m.dataset key → StaysDefined (old key) (f.address key)

-- none of these writes meets what a reader reaches
abbrev pub AllUnseen : Moment → List Write → Type 0
AllUnseen m [] = Unit {0}
AllUnseen m (w ∷ ws) = Unseen m w × AllUnseen m ws

-- The new rows of a flush. (All of it is of the law RowsFlush.)
pub record RowsFlushed (img : List ℕ) (m : Moment) (f : Parts) : Type 0 where
  -- their writes change nothing for readers
  pub unseen : AllUnseen m f.writes
  -- each new chunk is written to its end
  pub whole : (u : Used) → Among u f.chunks → u.place + u.len ≤ length (image img f.writes)
  -- with them all cells are there, by the addresses that the index will give
  pub cells : HasCells (image img f.writes) (flushed_to m f)

-- The parts of a flush from a file at a moment, whose index is the map `old`, with the places before and, once all is planned, after.
pub record IsFlush (img : List ℕ) (m : Moment) (old : Key → ℕ) (s : Space) (f : Parts) (t : Space) : Type 0 where
  pub rises : m.dataset.shape.rows < f.rows
  pub small : f.rows < 2 ^ 64
  pub few : AreFew (committed m.dataset f.rows f.named)
  pub count : length (m.values ++ f.more) ≡ f.rows * m.dataset.shape.cols
  pub named : IfSome f.named (λ a. (m.dataset.layout.address ≡ undefined) × (a < 2 ^ 64))
  pub written : RowsFlushed img m f
  pub index : IndexFlushed img m old f
  pub between : Space
  pub taken : Taken s (fresh_of f) between
  pub end : f.end ≡ between.end
  pub super : AreEnded m.super f.end f.supers
  -- what is let go was behind the blocks in place, and is no more
  pub left : List Used
  pub let_go : LetGo between left t
  pub left_before : AllAmong left m.behind
  pub left_after : (u : Used) → Among u left → ¬ Among u f.behind
