-- What a file that is valid for several names has of each of them.
use Rattle.std.specs.Prelude.{◌≡◌, ℕ, ◌<◌, false, List, [], ◌∷◌}
use Rattle.h5w_model.specs.Findings.{AllSummary, AllValid, Part, Used}
use Rattle.h5w_model.specs.Relations.{AllPaired}
use Rattle.h5w_model.specs.declared.root.Super.{Super}
use Rattle.h5w_step_laws.specs.Ranges.{Among}
use Rattle.h5w_space.specs.Space.{Space}
use Rattle.h5w_step_laws.specs.Moments.{Moment, Represents}
use Rattle.h5w_step_laws.specs.Steps.{OffAll}
use Rattle.h5w_flush_laws.specs.Knowledge.{Knows}
use Rattle.h5w_several_laws.specs.Beside.{own_of}
use Rattle.h5w_several_laws.specs.Turns.{AreKnown, AreOff, Entry}

-- ---- The file

-- A moment of a dataset has the file's superblock and root header, and what the check found of this dataset.
pub record IsMomentOf (super : Super) (root : List Used) (p : Part) (img name : List ℕ) (m : Moment) (file : Represents img name m) : Type 0 where
  pub super_is : m.super ≡ super
  pub root_is : file.root.own ≡ root
  pub place : m.place ≡ p.place
  pub dataset : m.dataset ≡ p.dataset
  pub own : own_of m ≡ p.ranges

-- each moment that the file is of this name
abbrev pub HasMoments : Super → List Used → List ℕ → List ℕ → Part → Type 0
HasMoments super root img name p = (m : Moment) → (file : Represents img name m) → IsMomentOf super root p img name m file

-- its ranges meet none of theirs
abbrev pub IsOffEach : List Used → List Part → Type 0
IsOffEach us [] = Unit {0}
IsOffEach us (p ∷ ps) = OffAll us p.ranges × IsOffEach us ps

abbrev pub AreOffEach : List Part → Type 0
AreOffEach [] = Unit {0}
AreOffEach (p ∷ ps) = IsOffEach p.ranges ps × AreOffEach ps

-- The superblock, the root header's ranges, which are of blocks, and the datasets of these names, of which no two have ranges that meet.
pub record HasDatasets (img : List ℕ) (names : List (List ℕ)) : Type 0 where
  pub super : Super
  pub root : List Used
  pub blocks : (u : Used) → Among u root → u.chunk ≡ false
  pub parts : List Part
  pub each : AllPaired (HasMoments super root img) names parts
  pub off : AreOffEach parts

-- ---- Sessions over it

-- A dataset of the file is known by a moment that is told of no other, and readers hold no more than what it has behind its blocks in place.
pub record IsEntry (img : List ℕ) (s : Space) (name : List ℕ) (e : Entry) : Type 0 where
  pub name_is : e.name ≡ name
  pub knows : Knows img e.name e.moment e.address s
  pub untold : e.moment.root ≡ knows.file.root.own
  pub held_is : knows.held ≡ e.held
  pub behind : e.held ≡ e.moment.behind
  pub cols : 0 < e.moment.dataset.shape.cols

-- They are known with one superblock and one root header, and apart from each other.
pub record AreApart (img : List ℕ) (s : Space) (es : List Entry) : Type 0 where
  pub super : Super
  pub root : List Used
  pub blocks : (u : Used) → Among u root → u.chunk ≡ false
  pub known : AreKnown img s super root es
  pub off : AreOff es

-- ---- Laws

-- a file that is valid for several names has these datasets, whatever moments are told of them
abbrev pub AllHave : Type 0
AllHave = (img : List ℕ) (names : List (List ℕ)) (t : AllSummary) → AllValid img names t → HasDatasets img names

-- so all that begins over such a file begins apart
abbrev pub AllApart : Type 0
AllApart = (img : List ℕ) (names : List (List ℕ)) (t : AllSummary) (s : Space) (es : List Entry) → AllValid img names t → AllPaired (IsEntry img s) names es → AreApart img s es
