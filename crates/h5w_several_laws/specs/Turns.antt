-- A flush of several datasets, part after part.
use Rattle.std.specs.Prelude.{◌≡◌, ℕ, ◌<◌, false, List, [], ◌∷◌, ◌++◌, length, map, Option, Some, None}
use Rattle.h5w_model.specs.Images.{image}
use Rattle.h5w_model.specs.Logs.{Log, plans, appended, and_now}
use Rattle.h5w_model.specs.Findings.{Used}
use Rattle.h5w_model.specs.declared.root.Super.{Super}
use Rattle.h5w_model.specs.declared.cell.Key.{Key}
use Rattle.h5w_model.specs.declared.piece.Write.{Write}
use Rattle.h5w_step_laws.specs.Ranges.{Among}
use Rattle.h5w_space.specs.Space.{Space}
use Rattle.h5w_step_laws.specs.Moments.{Moment}
use Rattle.h5w_step_laws.specs.Steps.{OffAll}
use Rattle.h5w_step_laws.specs.Plans.{Plan, Flush}
use Rattle.h5w_step_laws.specs.Logs.{image_now}
use Rattle.h5w_step_laws.specs.Sessions.{Runs}
use Rattle.h5w_flush_laws.specs.Knowledge.{HeldMissed, Knows}
use Rattle.h5w_flush_laws.specs.Parts.{Parts, IsFlush, flushed_to, pieces_of}
use Rattle.h5w_several_laws.specs.Beside.{own_of, whole_of, with_root}
use Rattle.h5w_several_laws.specs.Dues.{RunsTo}

-- a dataset of the session: its name, its moment, its index's map, and what readers may hold
pub record Entry : Type 0 where
  pub name : List ℕ
  pub moment : Moment
  pub address : Key → ℕ
  pub held : List Used

-- it is known with these places, this superblock and these ranges of the root header
pub record IsOne (img : List ℕ) (s : Space) (super : Super) (root : List Used) (e : Entry) : Type 0 where
  pub knows : Knows img e.name e.moment e.address s
  pub super_is : e.moment.super ≡ super
  pub root_is : e.moment.root ≡ root
  pub held_is : knows.held ≡ e.held
  pub cols : 0 < e.moment.dataset.shape.cols

abbrev pub AreKnown : List ℕ → Space → Super → List Used → List Entry → Type 0
AreKnown img s super root [] = Unit {0}
AreKnown img s super root (e ∷ es) = IsOne img s super root e × AreKnown img s super root es

-- what one has does not meet what the other has, nor what readers of the other may hold
pub record IsApart (e x : Entry) : Type 0 where
  pub own : OffAll (own_of e.moment) (own_of x.moment)
  pub held : OffAll e.held (own_of x.moment)
  pub other : OffAll x.held (own_of e.moment)

abbrev pub IsOff : Entry → List Entry → Type 0
IsOff x [] = Unit {0}
IsOff x (e ∷ es) = IsApart e x × IsOff x es

abbrev pub AreOff : List Entry → Type 0
AreOff [] = Unit {0}
AreOff (e ∷ es) = IsOff e es × AreOff es

-- what they have
abbrev pub owns : List Entry → List Used
owns [] = []
owns (e ∷ es) = own_of e.moment ++ owns es

-- what their readers may hold
abbrev pub helds : List Entry → List Used
helds [] = []
helds (e ∷ es) = e.held ++ helds es

-- a file that is told of others
abbrev pub told : Moment → List Entry → Moment
told m es = with_root (m.root ++ map whole_of (owns es)) m

-- a dataset once a part of another is shown, and once its own is
abbrev pub then_as : Super → Entry → Entry
then_as super e = record e { moment = record (e.moment) { super = super } }

abbrev pub all_then : Super → List Entry → List Entry
all_then super [] = []
all_then super (e ∷ es) = then_as super e ∷ all_then super es

abbrev pub flushed : Entry → Parts → Entry
flushed e f = record e { moment = flushed_to e.moment f; address = f.address; held = f.behind }

abbrev pub super_then : Entry → Parts → Super
super_then e f = (flushed_to e.moment f).super

-- the pieces of its part
abbrev pub part_of : List ℕ → Entry → Parts → List Write
part_of img e f = pieces_of img e.moment f

-- these pieces are a plan of each
abbrev pub ArePlans : List ℕ → List Write → Super → List Entry → Type 0
ArePlans img ws super [] = Unit {0}
ArePlans img ws super (e ∷ es) = Plan img e.moment e.held ws (then_as super e).moment e.held × ArePlans img ws super es

-- ---- One part

pub record IsTurn (img : List ℕ) (e : Entry) (es : List Entry) (f : Parts) (t : Space) : Type 0 where
  pub flush : Flush img e.moment e.held (part_of img e f) (flushed e f).moment f.behind
  pub one : IsOne (image img (part_of img e f)) t (super_then e f) e.moment.root (flushed e f)
  pub plans : ArePlans img (part_of img e f) (super_then e f) es
  pub others : AreKnown (image img (part_of img e f)) t (super_then e f) e.moment.root (all_then (super_then e f) es)
  pub off : IsOff (flushed e f) (all_then (super_then e f) es)

-- Its dataset is told of all others while it is planned, and of none afterwards.
abbrev pub TurnKnown : Type 0
TurnKnown = (img : List ℕ) (e : Entry) (es : List Entry) (f : Parts) (s t : Space) → IsOne img s e.moment.super e.moment.root e → AreKnown img s e.moment.super e.moment.root es
    → IsOff e es → AreOff es → ((u : Used) → Among u e.moment.root → u.chunk ≡ false) → IsFlush img (told e.moment es) e.address s f t → HeldMissed (e.held ++ helds es) f.writes → IsTurn img e es f t

-- ---- All parts

-- The parts, in the order of the datasets, of which some have none: each is planned over the image and the places that the ones before
-- leave, with all other datasets told, those that had their turn and those that have not.
abbrev pub AreTurns : List ℕ → Space → List Entry → List Entry → List (Option Parts) → Space → Type 0
AreTurns img s done [] [] t = t ≡ s
AreTurns img s done [] (p ∷ ps) t = ⊥
AreTurns img s done (e ∷ es) [] t = ⊥
AreTurns img s done (e ∷ es) (None ∷ ps) t = AreTurns img s (e ∷ done) es ps t
AreTurns img s done (e ∷ es) (Some f ∷ ps) t = (u : Space) × IsFlush img (told e.moment (done ++ es)) e.address s f u × HeldMissed (e.held ++ helds (done ++ es)) f.writes
    × AreTurns (image img (part_of img e f)) u (flushed e f ∷ all_then (super_then e f) done) (all_then (super_then e f) es) ps t

-- their pieces
abbrev pub turn_pieces : List ℕ → List Entry → List (Option Parts) → List Write
turn_pieces img [] ps = []
turn_pieces img (e ∷ es) [] = []
turn_pieces img (e ∷ es) (None ∷ ps) = turn_pieces img es ps
turn_pieces img (e ∷ es) (Some f ∷ ps) = part_of img e f ++ turn_pieces (image img (part_of img e f)) (all_then (super_then e f) es) ps

-- the datasets once all are shown, the last one first
abbrev pub turns_lead : List ℕ → List Entry → List Entry → List (Option Parts) → List Entry
turns_lead img done [] ps = done
turns_lead img done (e ∷ es) [] = done
turns_lead img done (e ∷ es) (None ∷ ps) = turns_lead img (e ∷ done) es ps
turns_lead img done (e ∷ es) (Some f ∷ ps) = turns_lead (image img (part_of img e f)) (flushed e f ∷ all_then (super_then e f) done) (all_then (super_then e f) es) ps

-- for a dataset without a part they are a plan
pub record HasPlan (img : List ℕ) (ws : List Write) (m : Moment) (held : List Used) : Type 0 where
  pub super : Super
  pub plan : Plan img m held ws (record m { super = super }) held

-- for one with a part they are a plan, its flush, and a plan
pub record HasPart (img : List ℕ) (all : List Write) (m : Moment) (held : List Used) (f : Parts) : Type 0 where
  pub before : List Write
  pub own : List Write
  pub own_is : own ≡ pieces_of (image img before) m f
  pub behind : List Write
  pub cut : all ≡ (before ++ own) ++ behind
  pub super : Super
  pub waits : Plan img m held before (record m { super = super }) held
  pub flush : Flush (image img before) (record m { super = super }) held own (flushed_to (record m { super = super }) f) f.behind
  pub last : Super
  pub rests : Plan (image img (before ++ own)) (flushed_to (record m { super = super }) f) f.behind behind (record (flushed_to m f) { super = last }) f.behind

abbrev pub AllPlan : List ℕ → List Write → List Entry → Type 0
AllPlan img ws [] = Unit {0}
AllPlan img ws (e ∷ es) = HasPlan img ws e.moment e.held × AllPlan img ws es

abbrev pub AllPart : List ℕ → List Write → List Entry → List (Option Parts) → Type 0
AllPart img ws [] ps = Unit {0}
AllPart img ws (e ∷ es) [] = Unit {0}
AllPart img ws (e ∷ es) (None ∷ ps) = HasPlan img ws e.moment e.held × AllPart img ws es ps
AllPart img ws (e ∷ es) (Some f ∷ ps) = HasPart img ws e.moment e.held f × AllPart img ws es ps

-- and in the end all are known, and apart
pub record AllFollow (img : List ℕ) (done es : List Entry) (ps : List (Option Parts)) (root : List Used) (t : Space) : Type 0 where
  pub plans : AllPlan img (turn_pieces img es ps) done
  pub parts : AllPart img (turn_pieces img es ps) es ps
  pub super : Super
  pub known : AreKnown (image img (turn_pieces img es ps)) t super root (turns_lead img done es ps)
  pub off : AreOff (turns_lead img done es ps)

abbrev pub TurnsFollow : Type 0
TurnsFollow = (img : List ℕ) (es : List Entry) (ps : List (Option Parts)) (s t : Space) (super : Super) (root : List Used) → AreKnown img s super root es → AreOff es
    → ((u : Used) → Among u root → u.chunk ≡ false) → AreTurns img s [] es ps t → AllFollow img [] es ps root t

-- ---- What it is for the log of each

-- from a rest, over the flush, to the next rest
pub record TurnRuns : Type 0 where
  pub part : (name : List ℕ) (log : Log) (all : List Write) (m : Moment) (held : List Used) (f : Parts) → Runs name log [] m held → (h : HasPart (image_now log) all m held f) → m.values ++ f.more ≡ appended log
      → RunsTo name (and_now (plans (length (h.before ++ h.own))) log) (length (h.before ++ h.own)) all (record (flushed_to m f) { super = h.last }) f.behind
  pub none : (name : List ℕ) (log : Log) (all : List Write) (count : ℕ) (m : Moment) (held : List Used) → Runs name log [] m held → (h : HasPlan (image_now log) all m held) → m.values ≡ appended log
      → RunsTo name (and_now (plans count) log) 0 all (record m { super = h.super }) held
  pub again : (name : List ℕ) (log : Log) (due : ℕ) (n : Moment) (after : List Used) → RunsTo name log due [] n after → Runs name log [] n after
