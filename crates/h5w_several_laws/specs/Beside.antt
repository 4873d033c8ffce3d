-- Datasets of one file, one beside another.
use Rattle.std.specs.Prelude.{◌≡◌, ℕ, ◌<◌, false, List, ◌++◌, map}
use Rattle.h5w_model.specs.Findings.{Used}
use Rattle.h5w_model.specs.declared.piece.Write.{Write}
use Rattle.h5w_step_laws.specs.Ranges.{Among, AllEndBy, Disjoint}
use Rattle.h5w_step_laws.specs.Moments.{Moment, all_used, moved_of, Represents}
use Rattle.h5w_step_laws.specs.Steps.{OffAll, Step}
use Rattle.h5w_step_laws.specs.Plans.{Plan, Flush}

-- a dataset's own ranges: its header, its index's blocks in place and what stands behind them
abbrev pub own_of : Moment → List Used
own_of m = m.header ++ (m.fixed ++ m.behind)

-- a range as one of a block, of which no byte may be met
abbrev pub whole_of : Used → Used
whole_of u = record { place = u.place; len = u.len; chunk = false }

-- Another dataset of the same file: the superblock and the root header are the same, and its own ranges stand among those that this
-- one has nothing to do with.
pub record IsBeside (e m : Moment) : Type 0 where
  pub super : e.super ≡ m.super
  pub root : (u : Used) → Among u e.root → u.chunk ≡ false → Among u m.root
  pub own : (u : Used) → Among u (own_of e) → Among (whole_of u) m.root

-- with other ranges behind the root header's
abbrev pub with_root : List Used → Moment → Moment
with_root us m = record m { root = us }

-- ---- Laws

-- the own ranges of one do not meet those of the other
abbrev pub ApartBeside : Type 0
ApartBeside = (img name : List ℕ) (m e : Moment) → Represents img name m → IsBeside e m → OffAll (own_of e) (own_of m)

-- The pieces of a flush of one dataset change nothing for another, but for the end of the file.
abbrev pub BesideFlush : Type 0
BesideFlush = (img name other : List ℕ) (m n e : Moment) (held after : List Used) (ws : List Write) → Represents img name m → Flush img m held ws n after → Represents img other e → IsBeside e m
    → Plan img e e.behind ws (record e { super = n.super }) e.behind

-- So it is where readers of the other may hold more than what stands behind its blocks in place, if that is held of the flushed one too.
abbrev pub BesideHeld : Type 0
BesideHeld = (img name other : List ℕ) (m n e : Moment) (held after more : List Used) (ws : List Write) → 0 < m.dataset.shape.cols → Represents img name m → OffAll held (moved_of m) → Flush img m held ws n after
    → Represents img other e → IsBeside e m → ((u : Used) → Among u more → u.chunk ≡ false → Among u held) → Plan img e more ws (record e { super = n.super }) more

-- and it is beside it after each of them
abbrev pub BesideStays : Type 0
BesideStays = (img : List ℕ) (m n e : Moment) (held after : List Used) (w : Write) → Step img m held w n after → IsBeside e m → IsBeside (record e { super = n.super }) n

-- The ranges of others may be told of a file, or not.
pub record SettledApart : Type 0 where
  pub told : (img name : List ℕ) (m : Moment) (others : List Used) → (r : Represents img name m) → AllEndBy m.super.end others → Disjoint (all_used (with_root (r.root.own ++ others) m))
      → Represents img name (with_root (r.root.own ++ others) m)
  pub untold : (img name : List ℕ) (m : Moment) → (r : Represents img name m) → Represents img name (with_root r.root.own m)

-- A flush over a file with the ranges of others is one over it without them.
abbrev pub FlushUntold : Type 0
FlushUntold = (img : List ℕ) (own others : List Used) (m n : Moment) (held after : List Used) (ws : List Write) → m.root ≡ own ++ others → Flush img m held ws n after
    → Flush img (with_root own m) held ws (with_root own n) after

-- The ranges of two datasets that do not meet are told together.
abbrev pub DisjointJoined : Type 0
DisjointJoined = (us vs : List Used) → Disjoint us → Disjoint vs → OffAll us vs → Disjoint (us ++ map whole_of vs)
