-- A machine of one writer of several datasets of one file, its image and its readers: what its value is, of which logs of
-- a file it can be the machine, and of which states of a script.
use Rattle.std.specs.Prelude.{◌≡◌, ℕ, ◌<◌, ◌≤◌, ◌^◌, ℤ, List, [], ◌∷◌, length, map, ◌==◌, if◌then◌else◌, Bool, true, Option, None, Some, IfSome, Result, Ok, Err, slice_get}
use Rattle.std.specs.List.{AllByRecursion}
use Rattle.h5w_model.specs.Images.{image}
use Rattle.h5w_model.specs.Lawful.{Rules, adds, ends, flushes, looks, opens, reads, refreshes, shows_up_to}
use Rattle.h5w_model.specs.Several.{FileLog, appends_to, pieces_in, plans_each, shown_in, shows_all, takes_over}
use Rattle.h5w_model.specs.Unfinished.{Reader}
use Rattle.h5w_model.specs.declared.piece.Write.{Write}
use Rattle.h5w_model.specs.declared.memory.OutOfMemory.{OutOfMemory}
use Rattle.h5w_model.specs.declared.reply.Reply.{Reply}
use Rattle.h5w_model.specs.declared.reply.Reply.TheVariants as replies
use Rattle.h5w_image.specs.Memory.{MemView}
use Rattle.h5w_steady.specs.Steady.{steady}
use Rattle.h5w_script_laws.specs.Polling.{Polling}
use Rattle.h5w_writer.specs.Early.{dirty_of}
use Rattle.h5w_writer.specs.Sessions.{Session, with_values}
use Rattle.h5w_front_laws.specs.Fronts.{IsLeftOpen}
use Rattle.h5w_front_laws.specs.Laws.{AllKeepWritten}
use Rattle.h5w_several_writer.specs.Refusals.{HasRoomForAll, append_refusal_in, flush_refusal_of}
use Rattle.h5w_several_writer_laws.specs.Sessions.{SameButHeld, Sessions, all_pending}
use Rattle.h5w_several_writer_laws.specs.Standing.{StandsAll, and_then}
use Rattle.h5w_several_script_laws.specs.Scripts.{AllowedAll, FileLine, FileState, asks, flushing_each, goes_on, next_all, says, takes, took_over}
use Rattle.h5w_several_script_laws.specs.Scripts as scripts
use Rattle.h5w_several_world_laws.specs.Worlds.{HaveOneFileLog, polling_in}
use Rattle.h5w_core.specs.Readers.{IsCalling, MayRead}
use Rattle.h5w_core.specs.Worlds.{AreRowsBy}
use Rattle.h5w_several_core.specs.Places.{place_at, reader_in, seat_ended}
use Rattle.h5w_several_core.specs.declared.events.FileEvent.{FileEvent}
use Rattle.h5w_several_core.specs.declared.events.FileEvent.TheVariants as events
use Rattle.h5w_several_core.specs.declared.events.FileReply.{FileReply}
use Rattle.h5w_several_core.specs.declared.events.FileReply.TheVariants as answers
use Rattle.h5w_several_core.specs.declared.places.Place.{Place}

-- The session, the bytes of its image, the pieces that became visible, the oldest first, the most attempts of a
-- reader's call, and the places of the readers, by number.
pub record SeveralView : Type 0 where
  pub session : Sessions
  pub bytes : List ℕ
  pub journal : List Write
  pub attempts : ℕ
  pub places : List Place

-- what readers of each dataset poll for, in the order of the datasets
abbrev pub pollings_of : SeveralView → List Polling
pollings_of w = map (polling_in w.session.places.limit w.attempts) w.session.parts

-- the rules by which the replies are lawful, and the names
abbrev pub rules_of : SeveralView → List Rules
rules_of w = map (λ (g : Polling). g.rules) (pollings_of w)

abbrev pub names_of : SeveralView → List (List ℕ)
names_of w = map (λ (g : Polling). g.name) (pollings_of w)

-- ---- Events and lines

-- the line of a script that an event is; one piece, one look
abbrev pub line_of : FileEvent → FileLine
line_of (events.Append d values) = asks (adds values)
line_of events.Flush = asks flushes
line_of events.Visible = asks (shows_up_to 1)
line_of events.Stop = asks ends
line_of events.Takeover = takes
line_of (events.Open reader d) = asks (opens reader)
line_of (events.Refresh reader) = asks (refreshes reader)
line_of (events.Read reader from count) = asks (reads reader from count)
line_of (events.Look reader) = asks (looks reader 1)

abbrev pub reply_of : FileReply → scripts.FileReply
reply_of (answers.Flushing pieces) = flushing_each pieces
reply_of answers.Running = goes_on
reply_of (answers.TakenOver rows) = took_over rows
reply_of (answers.Says reply) = says reply

-- a reader's reply as one to an event
abbrev pub as_told : Result Reply OutOfMemory → Result FileReply OutOfMemory
as_told (Ok reply) = Ok (answers.Says reply)
as_told (Err e) = Err e

-- the dataset that an event speaks of, where it names one
abbrev pub set_in : FileEvent → Option ℕ
set_in (events.Append d values) = Some d
set_in events.Flush = None
set_in events.Visible = None
set_in events.Stop = None
set_in events.Takeover = None
set_in (events.Open reader d) = Some d
set_in (events.Refresh reader) = None
set_in (events.Read reader from count) = None
set_in (events.Look reader) = None

-- it is in use
abbrev pub IsUsedBy : FileEvent → FileState → Type 0
IsUsedBy event F = IfSome (set_in event) (λ (d : ℕ). F.used ≡ d)

-- the values are rows of this dataset, which is there
pub record AreRowsIn (gs : List Rules) (d : ℕ) (values : List ℤ) : Type 0 where
  pub inside : d < length gs
  pub rows : (g : Rules) → slice_get gs d ≡ Some g → AreRowsBy g values

-- an event of the writer, whose values are rows of its dataset, or of a reader that has a place; each dataset is there
abbrev pub IsHeardIn : List Rules → FileEvent → Type 0
IsHeardIn gs (events.Append d values) = AreRowsIn gs d values
IsHeardIn gs events.Flush = Unit {0}
IsHeardIn gs events.Visible = Unit {0}
IsHeardIn gs events.Stop = Unit {0}
IsHeardIn gs events.Takeover = Unit {0}
IsHeardIn gs (events.Open reader d) = (reader ≤ 16) × (d < length gs)
IsHeardIn gs (events.Refresh reader) = reader ≤ 16
IsHeardIn gs (events.Read reader from count) = reader ≤ 16
IsHeardIn gs (events.Look reader) = reader ≤ 16

-- ---- Logs and states

-- The machine is that of this log of a file: its session stands for it, its journal is the log's, its image is what the
-- journal makes of no bytes, and a reader finds the file.
pub record StandsForFile (w : SeveralView) (log : FileLog) : Type 0 where
  pub stands : StandsAll w.session log
  pub start : log.start ≡ []
  pub begun : log.first ≤ shown_in log.events
  pub journal : w.journal ≡ pieces_in log.events
  pub bytes : w.bytes ≡ image [] (pieces_in log.events)

-- the machine and the state of a script that was run on it are those of one log of the file
pub record HaveFileLog (w : SeveralView) (F : FileState) : Type 0 where
  pub have : HaveOneFileLog w.session w.attempts (place_at w.places) F
  pub file : StandsForFile w have.log

-- the first of these pieces became visible, where there is one
abbrev pub shown_log : List Write → FileLog → FileLog
shown_log [] log = log
shown_log (w ∷ ws) log = and_then (shows_all w) log

-- what a log is after an event that was given a reply: a refused one adds nothing
abbrev pub logged_in : SeveralView → FileEvent → scripts.FileReply → FileLog → FileLog
logged_in w (events.Append d values) (says (replies.Appended rows pending)) log = and_then (appends_to d values) log
logged_in w events.Flush (flushing_each counts) log = and_then (plans_each counts) log
logged_in w events.Visible reply log = shown_log (all_pending w.session.parts) log
logged_in w events.Takeover (took_over rows) log = and_then takes_over log
logged_in w event reply log = log

-- An event that was given a reply between two machines: the rules stay; for each state that fits the machine before, and
-- has the event's dataset in use, the reply is lawful and the next state fits the machine after; and so does each log.
pub record FileSteps (old : SeveralView) (event : FileEvent) (reply : scripts.FileReply) (new : SeveralView) : Type 0 where
  pub rules : rules_of new ≡ rules_of old
  pub lawful : (F : FileState) → HaveFileLog old F → IsUsedBy event F → AllowedAll F (line_of event) reply × HaveFileLog new (next_all F (line_of event) reply)
  pub logged : (log : FileLog) → StandsForFile old log → StandsForFile new (logged_in old event reply log)

-- The file says that it is written, and so it does once any of what is pending became visible.
pub record HasFront (S : Sessions) (bytes : List ℕ) : Type 0 where
  pub begins : IsLeftOpen bytes
  pub keeps : AllKeepWritten S

-- What holds of each machine, by its session, its image, its attempts and its places: the image has room for what is
-- pending, and begins as a file that is written; readers 0 to 16 have a place, and some state of a script fits.
pub record HoldsAll (S : Sessions) (m : MemView) (attempts : ℕ) (places : List Place) : Type 0 where
  pub room : HasRoomForAll S (steady m)
  pub count : length places ≡ 17
  pub tries : 1 ≤ attempts
  pub limit : S.places.limit ≤ 2 ^ 40
  pub front : HasFront S m.bytes
  pub script : FileState
  pub fits : HaveFileLog (record { session = S; bytes = m.bytes; journal = m.history; attempts = attempts; places = places }) script

-- What another writer needs that takes the file over by the session's limit and budget: the limit is one that a file may
-- have, and the budget is that of each dataset.
pub record HasOneBudget (S : Sessions) : Type 0 where
  pub low : 1024 ≤ S.places.limit
  pub budget : ℕ
  pub budgets : AllByRecursion (λ (s : Session). s.budget ≡ budget) S.parts

-- ---- What is refused

-- an event that may want memory: one that is not refused, but maybe for want of a place
abbrev pub MayWantMemoryIn : SeveralView → FileEvent → Type 0
MayWantMemoryIn w (events.Append d values) = (s : Session) → slice_get w.session.parts d ≡ Some s → append_refusal_in w.session s values ≡ None
MayWantMemoryIn w events.Flush = flush_refusal_of w.session ≡ None
MayWantMemoryIn w events.Visible = ⊥
MayWantMemoryIn w events.Stop = ⊥
MayWantMemoryIn w events.Takeover = w.session.stopped ≡ true
MayWantMemoryIn w (events.Open reader d) = reader_in w.places reader ≡ None
MayWantMemoryIn w (events.Refresh reader) = ⊥
MayWantMemoryIn w (events.Read reader from count) = MayRead from count (reader_in w.places reader)
MayWantMemoryIn w (events.Look reader) = IsCalling (reader_in w.places reader)

-- An append that is not refused otherwise, but after which more bytes of its dataset would wait than the budget has.
pub record IsPast (w : SeveralView) (d : ℕ) (values : List ℤ) : Type 0 where
  pub part : Session
  pub there : slice_get w.session.parts d ≡ Some part
  pub accepted : append_refusal_in w.session part values ≡ None
  pub past : part.budget < dirty_of (with_values part values)

abbrev pub IsPastBudget : SeveralView → FileEvent → Type 0
IsPastBudget w (events.Append d values) = IsPast w d values
IsPastBudget w event = ⊥

-- the machine as before, but for a place
pub record IsKeptIn (old new : SeveralView) (r : ℕ) (seat : Option (ℕ × Reader)) : Type 0 where
  pub session : new.session ≡ old.session
  pub bytes : new.bytes ≡ old.bytes
  pub journal : new.journal ≡ old.journal
  pub attempts : new.attempts ≡ old.attempts
  pub readers : (q : ℕ) → place_at new.places q ≡ (if r == q then seat else place_at old.places q)

-- the machine as before, but that its session may hold more blocks of its indexes
pub record HoldsMoreIn (old new : SeveralView) : Type 0 where
  pub session : SameButHeld old.session new.session
  pub others : new ≡ record old { session = new.session }

-- What want of memory leaves: all as before; a look's call is taken away, and a flush may have held blocks.
abbrev pub IsLeftIn : SeveralView → FileEvent → SeveralView → Type 0
IsLeftIn old (events.Append d values) new = new ≡ old
IsLeftIn old events.Flush new = HoldsMoreIn old new
IsLeftIn old events.Visible new = new ≡ old
IsLeftIn old events.Stop new = new ≡ old
IsLeftIn old events.Takeover new = new ≡ old
IsLeftIn old (events.Open reader d) new = IsKeptIn old new reader (place_at old.places reader)
IsLeftIn old (events.Refresh reader) new = new ≡ old
IsLeftIn old (events.Read reader from count) new = IsKeptIn old new reader (place_at old.places reader)
IsLeftIn old (events.Look reader) new = IsKeptIn old new reader (seat_ended (place_at old.places reader))
