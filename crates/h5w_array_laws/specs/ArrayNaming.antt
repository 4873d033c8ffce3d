-- The pieces in place of an array's plan, as safe steps of a file.
use Rattle.std.specs.Prelude.{◌≡◌, ◌≢◌, ◌⊎◌, ℕ, ◌<◌, List, [], ◌++◌, length, get_or}
use Rattle.h5w_model.specs.Numbers.{undefined}
use Rattle.h5w_model.specs.Datasets.{Described}
use Rattle.h5w_model.specs.Findings.{Used, chunk_bytes}
use Rattle.h5w_model.specs.Prefixed.{StaysDefined}
use Rattle.h5w_model.specs.declared.cell.IndexKind.TheVariants.{Array}
use Rattle.h5w_model.specs.declared.piece.Write.{Write}
use Rattle.h5w_space.specs.Space.{Space, IsLive}
use Rattle.h5w_cache.specs.Stores.{Store}
use Rattle.h5w_cache.specs.Plans.{IsPlan}
use Rattle.h5w_cache.specs.StoreLaws.{IsRetired}
use Rattle.h5w_cache.specs.declared.moves.Move.{Move}
use Rattle.h5w_step_laws.specs.Ranges.{Among, AllEndBy, Disjoint}
use Rattle.h5w_step_laws.specs.Moments.{Moment, Represents, HasCells, all_used}
use Rattle.h5w_step_laws.specs.Steps.{OffAll, Clear}
use Rattle.h5w_step_laws.specs.Plans.{Plan, UnseenRange}
use Rattle.h5w_array_laws.specs.Among.{AreAmong}
use Rattle.h5w_array_laws.specs.ArrayStores.{IsArray, header_place, map_of, fixed_of, behind_of}
use Rattle.h5w_array_laws.specs.ArrayImages.{HeaderStands, StandsArray, BehindStands, IsPlanned}
use Rattle.h5w_array_laws.specs.ArrayPlans.{fresh, extent_of, IsArrayPlan}
use Rattle.h5w_array_laws.specs.ArrayTables.{table_in}

-- the index of the file is this array
pub record IsArrayOf (m : Moment) (v : Store) : Type 0 where
  pub kind : m.dataset.layout.index ≡ Array
  pub address : m.dataset.layout.address ≡ header_place v
  pub fixed : m.fixed ≡ fixed_of v

-- the file once its index block says the array as it is in this store
abbrev pub naming : Moment → Store → Moment
naming m w = record m { behind = behind_of (chunk_bytes m.dataset) w; table = table_in w m.dataset }

-- what is left to show of that: its ranges end by the end of the file and meet nothing, chunks keep their addresses, and the cells are there
pub record MayName (img : List ℕ) (m : Moment) (w : Store) : Type 0 where
  pub ends : AllEndBy m.super.end (behind_of (chunk_bytes m.dataset) w)
  pub apart : Disjoint (all_used (naming m w))
  pub addresses : (k : ℕ) → k < length m.table → StaysDefined (get_or m.table k undefined) (get_or (table_in w m.dataset) k undefined)
  pub cells : HasCells img (naming m w)

-- so its ranges behind and its table are those of the array
pub record IsFileOf (m : Moment) (v : Store) : Type 0 where
  pub of : IsArrayOf m v
  pub behind : m.behind ≡ behind_of (chunk_bytes m.dataset) v
  pub table : m.table ≡ table_in v m.dataset

-- ---- Laws

-- a file of which an array stands, unchanged, at the place that its dataset names, is one of that array
abbrev pub FileTells : Type 0
FileTells = (v : Store) (img name : List ℕ) (m : Moment) → IsArray v → v.changed ≡ [] → StandsArray v img → Represents img name m → m.dataset.layout.index ≡ Array → m.dataset.layout.address ≡ header_place v
    → IsFileOf m v

-- where the map gives each chunk that had an address the same, so does the table
abbrev pub TableStays : Type 0
TableStays = (v w : Store) (d : Described) → ((i : ℕ) → StaysDefined (map_of v i) (map_of w i)) → (k : ℕ) → StaysDefined (get_or (table_in v d) k undefined) (get_or (table_in w d) k undefined)

-- The copies of a plan change nothing for readers, where the ranges that they took are not reached.
abbrev pub CopiesSteps : Type 0
CopiesSteps = (v : Store) (s : Space) (ms : List Move) (copies in_place : List Write) (w : Store) (t : Space) (img : List ℕ) (m : Moment) (held : List Used)
    → IsArray v → IsPlan v s ms copies in_place w t → ((u : Used) → Among u (fresh ms) → UnseenRange m held u.place u.len) → Plan img m held copies m held

-- Where the new blocks behind stand, a plan's pieces in place are safe, one after another, and lead to the file that says the new array.
abbrev pub InPlaceSteps : Type 0
InPlaceSteps = (v : Store) (s : Space) (ms : List Move) (copies in_place : List Write) (w : Store) (t : Space) (img name : List ℕ) (m : Moment) (held : List Used)
    → IsPlanned v s ms copies in_place w t → in_place ≢ [] → Represents img name m → IsArrayOf m v → HeaderStands v img → BehindStands w img → MayName img m w
    → OffAll held m.fixed → Clear held (naming m w)
    → Plan img m held in_place (naming m w) (behind_of (chunk_bytes m.dataset) w ++ (behind_of (chunk_bytes m.dataset) w ++ held))

-- Ranges behind that are among those of before and more, none more often, meet nothing where the others do not.
abbrev pub MoreApart : Type 0
MoreApart = (m : Moment) (more behind : List Used) → AreAmong behind (more ++ m.behind) → Disjoint (more ++ all_used m) → Disjoint (all_used (record m { behind = behind }))

-- the places that a session has given away: the range was live or retired
abbrev pub IsKnown : Space → Used → Type 0
IsKnown s u = IsLive s (extent_of u) ⊎ IsRetired s (extent_of u)

-- What a plan's copies took meets nothing that was live: so it meets no other range of a file whose ranges are.
abbrev pub FreshApart : Type 0
FreshApart = (v : Store) (s : Space) (ms : List Move) (copies in_place : List Write) (w : Store) (t : Space) (us : List Used) → IsArrayPlan v s ms copies in_place w t
    → Disjoint us → ((u : Used) → Among u us → IsLive s (extent_of u)) → Disjoint (fresh ms ++ us)

-- Nor does a reader reach it, where all that the file uses and all that may be held was live or retired.
abbrev pub FreshUnseen : Type 0
FreshUnseen = (v : Store) (s : Space) (ms : List Move) (copies in_place : List Write) (w : Store) (t : Space) (img name : List ℕ) (m : Moment) (held : List Used) → IsArrayPlan v s ms copies in_place w t
    → Represents img name m → ((u : Used) → Among u (all_used m) → IsKnown s u) → ((u : Used) → Among u held → (0 < u.len) × IsKnown s u)
    → (u : Used) → Among u (fresh ms) → UnseenRange m held u.place u.len
