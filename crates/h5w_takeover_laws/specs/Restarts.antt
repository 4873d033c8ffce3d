-- A session that begins over the image of a log, in terms of one dataset.
use Rattle.std.specs.Prelude.{◌≡◌, ℕ, ◌^◌, ◌≤◌, List, [], length}
use Rattle.h5w_model.specs.Findings.{Used}
use Rattle.h5w_model.specs.Logs.{Log, appended, flushed, hist}
use Rattle.h5w_model.specs.Several.{settled_log}
use Rattle.h5w_step_laws.specs.Logs.{Goes, image_now}
use Rattle.h5w_step_laws.specs.Moments.{Moment, Represents}
use Rattle.h5w_flush_laws.specs.Flushes.{IsBegun, Rests}
use Rattle.h5w_index.specs.Views.{address_in}
use Rattle.h5w_writer.specs.Openings.{IsOver, opened_log}
use Rattle.h5w_writer.specs.PartLaws.{RunsAs}
use Rattle.h5w_writer.specs.Sessions.{Session}
use Rattle.h5w_writer.specs.Stands.{Stands}
use Rattle.h5w_several_open.specs.Beginnings.{IsBegunOver, taken_over}

-- the log of a session that takes over: it begins with the image and the flushed rows of another, and nothing happened to it yet
abbrev pub taken_log : Log → Log
taken_log log = opened_log (image_now log) log.columns (flushed log)

-- The session runs over that log, at a moment. The other log has come to the same moment without what was not flushed, and no flush is
-- under way in it. By both readers may hold this, whatever of it an earlier session left.
pub record IsTakenAs (s : Session) (log : Log) (m : Moment) (held : List Used) : Type 0 where
  pub own : RunsAs s [] (taken_log log) m (λ key. address_in s.index key) held s.places
  pub all : Rests s.name (settled_log log) m (λ key. address_in s.index key) s.places
  pub held_is : all.knows.held ≡ held
  -- rows that were not flushed are gone
  pub rows : appended (settled_log log) ≡ flushed log

-- ---- Laws

-- A log has come to a moment, in the middle of a flush or not, and readers may hold what they hold. A session that has what the image is, and
-- whose places begin at its end with nothing free, goes on from there.
abbrev pub TakenRuns : Type 0
TakenRuns = (s : Session) (log : Log) (m : Moment) (held : List Used) → Goes s.name log m held → ((n : Moment) → Represents (image_now log) s.name n → IsOver s (image_now log) n) → IsBegun m s.places → IsTakenAs s log m held

-- The session that takes over the file of another one, of which a reader found a file already: where that stopped, and what readers may hold.
pub record IsCarried (t : Session) (log : Log) : Type 0 where
  pub moment : Moment
  pub held : List Used
  pub taken : IsTakenAs t log moment held
  pub stands : Stands t (taken_log log)

abbrev pub Carries : Type 0
Carries = (s t : Session) (log : Log) (size limit budget : ℕ) → Stands s log → log.first ≤ length (hist log.events) → IsBegunOver taken_over (image_now log) size s.name limit budget t → 1024 ≤ limit → limit ≤ 2 ^ 40 → IsCarried t log
