-- Of which logs of a file a session of several datasets can be the session.
use Rattle.std.specs.Prelude.{◌≡◌, ◌≢◌, ◌⊎◌, ℕ, suc, ◌+◌, ◌≤◌, max, true, false, List, [], ◌∷◌, ◌++◌, length, take}
use Rattle.h5w_model.specs.Images.{image}
use Rattle.h5w_model.specs.Findings.{Used}
use Rattle.h5w_model.specs.Logs.{Log}
use Rattle.h5w_model.specs.Prefixed.{PrefixedEach}
use Rattle.h5w_model.specs.Several.{Begun, FileLog, Happened, log_of, pieces_in, shown_in}
use Rattle.h5w_model.specs.Numbers.{range}
use Rattle.h5w_model.specs.Superblock.{super_at}
use Rattle.h5w_model.specs.Tables.{Reading, Shows, format_limits}
use Rattle.h5w_model.specs.declared.piece.Write.{Write}
use Rattle.h5w_model.specs.declared.root.Super.{Super}
use Rattle.h5w_step_laws.specs.Ranges.{Among}
use Rattle.h5w_space.specs.Space.{Space}
use Rattle.h5w_step_laws.specs.Moments.{Moment, Represents, reading_of}
use Rattle.h5w_step_laws.specs.Logs.{image_now}
use Rattle.h5w_step_laws.specs.Plans.{Plan}
use Rattle.h5w_several_laws.specs.Beside.{with_root}
use Rattle.h5w_several_laws.specs.Dues.{RunsTo}
use Rattle.h5w_several_laws.specs.Together.{names_of}
use Rattle.h5w_several_laws.specs.Turns.{AreKnown, AreOff, Entry}
use Rattle.h5w_writer.specs.Loads.{end_in}
use Rattle.h5w_writer.specs.Past.{AllAddressed}
use Rattle.h5w_writer.specs.Sessions.{AllEndBy, Session}
use Rattle.h5w_writer.specs.PartLaws.{ArePassed, RunsAs}
use Rattle.h5w_writer.specs.Told.{moved_to, told_of}
use Rattle.h5w_several_writer_laws.specs.Courses.{AreThrough, stands_of}
use Rattle.h5w_several_writer_laws.specs.Began.{IsAmple, began_end}
use Rattle.h5w_several_writer_laws.specs.Seen.{IsOwn}
use Rattle.h5w_several_writer_laws.specs.Valid.{AreValidFrom}
use Rattle.h5w_several_writer_laws.specs.Sessions.{Sessions, all_pending, bare, halted, stopped_all}

-- one more event of the file
abbrev pub and_then : Happened → FileLog → FileLog
and_then e log = record log { events = e ∷ log.events }

-- the image once all that is pending became visible
abbrev pub last_image : FileLog → List Write → List ℕ
last_image log left = image log.start (pieces_in log.events ++ left)

-- the most bytes that the file may come to
abbrev pub most_in : Space → FileLog → ℕ
most_in t log = max t.limit (began_end log)

-- ---- A part

-- a part at rest, with the superblock and the places of the file
abbrev pub rested : Super → Space → Session → Session
rested root t s = record s { root = root; places = t; pending = [] }

-- It has no piece of a flush that is pending: it was told of all pieces that are. So it is of the superblock's piece where its session begins or ends.
pub record IsDone (root : Super) (t : Space) (left : List Write) (log : FileLog) (d : ℕ) (b : Begun) (s : Session) (e : Entry) : Type 0 where
  pub calm : (s.pending ≡ []) ⊎ (s.flushing ≡ false)
  pub own : Log
  pub seen : IsOwn t.limit log d b own left
  pub runs : RunsAs (rested root t s) [] own e.moment e.address e.held t

-- Of the pieces behind its own it is to be told then: they pass its dataset by, of which they change nothing but the superblock.
pub record IsOwed (img name : List ℕ) (m : Moment) (held : List Used) (behind : List Write) (root : Super) : Type 0 where
  pub file : Represents img name m
  pub plan : Plan img m held behind (moved_to root m) held
  pub passed : ArePassed img name m behind

-- Its pieces are pending: those of the parts before it count as shown, and it will be told of those behind. This is the part as it was planned, over the superblock
-- and the places that the parts before it left; its moment was told of others, and the root header's ranges are among those of its root.
pub record IsDue (root : Super) (t : Space) (us : List Used) (log : FileLog) (d : ℕ) (b : Begun) (before : List Write) (s : Session) (behind : List Write) (e : Entry) : Type 0 where
  pub some : s.pending ≢ []
  pub flushing : s.flushing ≡ true
  pub own : Log
  pub seen : IsOwn t.limit log d b own before
  pub was : Session
  pub told : s ≡ told_of was root (bare t)
  pub limit : t.limit ≡ was.places.limit
  pub moment : Moment
  pub runs : RunsAs was s.pending own moment e.address e.held was.places
  pub among : (u : Used) → Among u us → Among u moment.root
  pub moment_is : e.moment ≡ moved_to root (with_root us moment)
  pub owed : IsOwed (image (image_now own) s.pending) s.name (with_root us moment) e.held behind root

-- ---- What a dataset sees

-- What it sees of the file has come to a moment from which the pieces that are left lead to that of the entry; readers may hold what is held
-- then. The rows that these pieces bring are due with one of them.
pub record HasRun (name : List ℕ) (log : Log) (left : List Write) (e : Entry) : Type 0 where
  pub due : ℕ
  pub runs : RunsTo name log due left e.moment e.held

-- no reader finds a file yet: the pieces that are left lead to the first position
pub record IsUnbegun (log : FileLog) (left : List Write) (s : Session) : Type 0 where
  pub calm : s.flushing ≡ false
  pub some : left ≢ []
  pub new : log.start ≡ []
  pub first : shown_in log.events + length left ≡ log.first

-- the end-of-file address of the file now
abbrev pub end_now : FileLog → ℕ
end_now log = end_in (super_at (range (image log.start (pieces_in log.events)) 0 48))

-- The end of a file that was opened has not fallen. Where the dataset had no rows at first each needed chunk has an address, whatever an image of the file shows, and
-- once all that is left became visible.
pub record HasPast (log : FileLog) (b : Begun) (e : Entry) : Type 0 where
  pub raised : (log.start ≡ []) ⊎ (began_end log ≤ end_now log)
  pub addressed : b.values ≡ [] → (p : ℕ) (r : Reading) → log.first ≤ p → p ≤ shown_in log.events → Shows format_limits (image log.start (take p (pieces_in log.events))) e.name r → AllAddressed r
  pub next : b.values ≡ [] → AllAddressed (reading_of e.moment)

-- A part of a session that goes on; it wrote no row early.
pub record IsStandingPart (root : Super) (t : Space) (us : List Used) (left : List Write) (log : FileLog) (d : ℕ) (b : Begun) (before : List Write) (s : Session) (behind : List Write) (e : Entry) : Type 0 where
  pub name : e.name ≡ s.name
  pub early : s.early ≡ 0
  pub going : s.stopped ≡ false
  pub each : PrefixedEach s.name (log_of d b log)
  pub run : HasRun s.name (log_of d b log) left e ⊎ IsUnbegun log left s
  pub past : HasPast log b e
  pub phase : IsDone root t left log d b s e ⊎ IsDue root t us log d b before s behind e

-- all parts, from number d on, behind the pieces of those before
abbrev pub AreStandingParts : Super → Space → List Used → List Write → FileLog → ℕ → List Begun → List Write → List Session → List Entry → Type 0
AreStandingParts root t us left log d [] before [] [] = Unit {0}
AreStandingParts root t us left log d (b ∷ bs) before (s ∷ ss) (e ∷ es) =
    IsStandingPart root t us left log d b before s (all_pending ss) e × AreStandingParts root t us left log (suc d) bs (before ++ s.pending) ss es
AreStandingParts root t us left log d [] before (s ∷ ss) es = ⊥
AreStandingParts root t us left log d [] before [] (e ∷ es) = ⊥
AreStandingParts root t us left log d (b ∷ bs) before [] es = ⊥
AreStandingParts root t us left log d (b ∷ bs) before (s ∷ ss) [] = ⊥

-- ---- All parts

-- Once all that is pending became visible each dataset is known, as an entry of this list, with the places and the superblock of the session and the ranges of
-- the root header, and what one has does not meet what another has. Each part runs over a log of its own. The end and all pieces are within the limit, or within
-- the file that the log began with.
pub record StandsOn (S : Sessions) (log : FileLog) : Type 0 where
  pub ranges : List Used
  pub entries : List Entry
  pub known : AreKnown (last_image log (all_pending S.parts)) S.places S.root ranges entries
  pub off : AreOff entries
  pub blocks : (u : Used) → Among u ranges → u.chunk ≡ false
  pub parts : AreStandingParts S.root S.places ranges (all_pending S.parts) log 0 log.sets [] S.parts entries
  pub fits : S.places.end ≤ most_in S.places log
  pub low : IsAmple S.places log
  pub ends : AllEndBy (most_in S.places log) (pieces_in log.events ++ all_pending S.parts)
  pub going : S.stopped ≡ false
  -- no finding applies to all names together, at no position that was and at none that is to come
  pub valid : AreValidFrom log.first log.start (names_of entries) (pieces_in log.events ++ all_pending S.parts)
  -- before each of the pieces that are pending what readers of one dataset may hold is off what another has
  pub course : AreThrough log (stands_of 0 log.sets (names_of entries)) (all_pending S.parts)

-- The session is that of this log, or it is what a stop or a close made of one that is: what was pending may have been dropped.
pub record StandsAll (S : Sessions) (log : FileLog) : Type 0 where
  pub was : Sessions
  pub stands : StandsOn was log
  pub is : (S ≡ was) ⊎ ((S ≡ halted was) ⊎ (S ≡ stopped_all was))
