-- A world of one writer, one image and some readers: what its value is, of which logs it can be the world, and of which
-- states of a script.
use Rattle.std.specs.Prelude.{◌≡◌, ℕ, ◌*◌, ◌≤◌, ◌^◌, ℤ, Bool, true, false, List, [], ◌∷◌, ◌++◌, length, replicate, ◌==◌, if◌then◌else◌, Option, None, option_map}
use Rattle.h5w_model.specs.Images.{image}
use Rattle.h5w_model.specs.Logs.{Log, appends, plans, shows, hist, appended, flushed_rows, spent, and_now}
use Rattle.h5w_model.specs.Tables.{format_limits, limit_of}
use Rattle.h5w_model.specs.Lawful.{Rules, ScriptState, Allowed, line_of, next_state}
use Rattle.h5w_options.specs.Options.{cutting_by, index_in}
use Rattle.h5w_options.specs.declared.options.Options.{Options}
use Rattle.h5w_model.specs.declared.event.Event.{Event}
use Rattle.h5w_model.specs.declared.event.Event.TheVariants as events
use Rattle.h5w_model.specs.declared.piece.Write.{Write}
use Rattle.h5w_model.specs.declared.reply.Reply.{Reply}
use Rattle.h5w_model.specs.declared.reply.Reply.TheVariants as replies
use Rattle.h5w_script_laws.specs.Polling.{Polling, now}
use Rattle.h5w_script_laws.specs.Scripts.{AllPoll}
use Rattle.h5w_image.specs.Memory.{MemView}
use Rattle.h5w_model.specs.Unfinished.{Reader}
use Rattle.h5w_reader.specs.Readers.{reader_rules}
use Rattle.h5w_reader.specs.declared.reader.ReaderCore.{ReaderCore}
use Rattle.h5w_core.specs.Readers.{IsCalling, MayRead, ended, reader_at}
use Rattle.h5w_space.specs.declared.Full.{Full}
use Rattle.h5w_steady.specs.Steady.{steady}
use Rattle.h5w_types.specs.Fields.{int_type_of}
use Rattle.h5w_creation_laws.specs.CreatedFiles.{created_writes}
use Rattle.h5w_writer.specs.Creations.{log_of}
use Rattle.h5w_creation.specs.NewFiles.{new_file}
use Rattle.h5w_writer.specs.Refusals.{append_refusal, flush_refusal}
use Rattle.h5w_writer.specs.Room.{HasRoomFor}
use Rattle.h5w_writer.specs.Flushes.{SameBut}
use Rattle.h5w_writer.specs.Sessions.{Session, chunk_limit, cutting_of}
use Rattle.h5w_writer.specs.Past.{IsNew}
use Rattle.h5w_writer.specs.Stands.{Stands}
use Rattle.h5w_front_laws.specs.Fronts.{IsLeftOpen}
use Rattle.h5w_front_laws.specs.Laws.{KeepsWritten}

-- The session, the bytes of its image, the pieces that became visible, the oldest first, the most attempts of a
-- reader's call, and the readers that were opened, by number.
pub record WorldView : Type 0 where
  pub session : Session
  pub bytes : List ℕ
  pub journal : List Write
  pub attempts : ℕ
  pub readers : List (Option ReaderCore)

-- the rules of a script on a file that is created by these options, with so many attempts in a reader's call
abbrev pub rules_for : Options → ℕ → Rules
rules_for options attempts = record {
  cutting = cutting_by options;
  int_type = int_type_of options.int_type;
  chunk_limit = limit_of format_limits (index_in options.columns options.fixed);
  space_limit = options.limit;
  budget = options.budget;
  attempts = attempts;
}

-- the rules by which a world's replies are lawful
abbrev pub rules_of : WorldView → Rules
rules_of w = record {
  cutting = cutting_of w.session;
  int_type = w.session.dataset.int_type;
  chunk_limit = chunk_limit w.session;
  space_limit = w.session.places.limit;
  budget = w.session.budget;
  attempts = w.attempts;
}

-- what readers poll for by some rules: the dataset of this name, by what each reader calls
abbrev pub polling_by : List ℕ → Rules → Polling
polling_by name g = let by = reader_rules name g.attempts in record { name = name; limits = by.limits; keeps = by.keeps; rules = g }

abbrev pub polling_of : WorldView → Polling
polling_of w = polling_by w.session.name (rules_of w)

-- places for readers 0 to 16, of which none was opened
abbrev pub nobody : List (Option ReaderCore)
nobody = replicate 17 None

-- The world is that of this log: its session stands for it, its journal is the log's, and its image is what the journal
-- makes of no bytes.
pub record StandsFor (w : WorldView) (log : Log) : Type 0 where
  pub stands : Stands w.session log
  pub new : IsNew log
  pub journal : w.journal ≡ hist log.events
  pub bytes : w.bytes ≡ image [] (hist log.events)

-- The state of the script is that of a log: its values, rows flushed and loads are the log's. What is pending are the pieces
-- of a flush that took all rows, or those of an append. The new file is there, and what the script keeps of each reader is true of it.
pub record IsStateOf (w : WorldView) (s : ScriptState) (log : Log) : Type 0 where
  pub appended : s.appended ≡ appended log
  pub flushed : s.flushed ≡ flushed_rows log
  pub pending : s.pending ≡ length w.session.pending
  pub ends_flush : s.ends_flush ≡ w.session.flushing
  pub taken : w.session.flushing ≡ true → w.session.waits ≡ 0
  pub idle : w.session.pending ≡ [] → w.session.flushing ≡ false
  pub spent : s.spent ≡ spent (cutting_of w.session) log
  pub stopped : s.stopped ≡ w.session.stopped
  pub tries : 1 ≤ w.attempts
  pub begun : log.first ≤ now log
  pub polls : AllPoll (polling_of w) log s (reader_at w.readers)

-- The world of a session that created a file by these options, under their name: its log has the pieces of the creation, no values and no
-- loads.
pub record IsNewWorld (options : Options) (w : WorldView) : Type 0 where
  pub log : Log
  pub stands : StandsFor w log
  pub is : log ≡ log_of (new_file options) log.events
  pub none : appended log ≡ []
  pub pieces : hist log.events ≡ created_writes (new_file options)
  pub loads : spent (cutting_of w.session) log ≡ 0
  pub name : w.session.name ≡ options.name

-- the world and the state of a script that was run on it are those of one log
pub record HaveOneLog (w : WorldView) (s : ScriptState) : Type 0 where
  pub log : Log
  pub stands : StandsFor w log
  pub state : IsStateOf w s log

-- What holds of each world, by its session, its image, its attempts and its readers: the image has room for what is
-- pending, it is what its journal makes of no bytes, readers 0 to 16 have a place, and some state of a script fits.
pub record HoldsTogether (s : Session) (m : MemView) (attempts : ℕ) (readers : List (Option ReaderCore)) : Type 0 where
  pub room : HasRoomFor s (steady m)
  pub folds : m.bytes ≡ image [] m.history
  pub places : length readers ≡ 17
  pub script : ScriptState
  pub fits : HaveOneLog (record { session = s; bytes = m.bytes; journal = m.history; attempts = attempts; readers = readers }) script

-- a budget that a session may have
abbrev pub IsBudget : ℕ → Type 0
IsBudget budget = (1024 ≤ budget) × (budget ≤ 2 ^ 30)

-- What another writer needs that takes the file over. The image says that it is written, and so do the session's superblock and the pieces that
-- are pending. The session's budget is one that a session may have.
pub record IsWriting (s : Session) (m : MemView) : Type 0 where
  pub front : IsLeftOpen m.bytes
  pub keeps : KeepsWritten s
  pub allowed : IsBudget s.budget

-- what a log is after an event that was given a reply: a refused one adds nothing
abbrev pub logged : WorldView → Event → Reply → Log → Log
logged w (events.Append values) (replies.Appended rows pending) log = and_now (appends values) log
logged w events.Flush (replies.Flushing pieces) log = and_now (plans pieces) log
logged w events.Visible reply log = elim w.session.pending [ [] ↦ log | piece ∷ pieces ↦ and_now (shows piece) log ]
logged w event reply log = log

-- the world once its oldest pending piece became visible, with this session
abbrev pub shown_world : WorldView → Write → Session → WorldView
shown_world w piece s = record w { session = s; bytes = image w.bytes (piece ∷ []); journal = w.journal ++ piece ∷ [] }

-- the reply that the file has no place
abbrev pub full_reply : Full → Reply
full_reply full = replies.FullSpace full.at full.size full.limit

-- these values are rows of the dataset
abbrev pub AreRowsBy : Rules → List ℤ → Type 0
AreRowsBy g values = (n : ℕ) × (length values ≡ n * g.cutting.columns)

-- an event of the writer, whose values are rows of the dataset, or of a reader that has a place
abbrev pub IsHeard : Rules → Event → Type 0
IsHeard g (events.Append values) = AreRowsBy g values
IsHeard g events.Flush = Unit {0}
IsHeard g events.Visible = Unit {0}
IsHeard g events.Stop = Unit {0}
IsHeard g (events.Open reader) = reader ≤ 16
IsHeard g (events.Refresh reader) = reader ≤ 16
IsHeard g (events.Read reader from count) = reader ≤ 16
IsHeard g (events.Look reader) = reader ≤ 16

-- an event that may want memory: one that is not refused, but maybe for want of a place
abbrev pub MayWantMemory : WorldView → Event → Type 0
MayWantMemory w (events.Append values) = append_refusal w.session values ≡ None
MayWantMemory w events.Flush = flush_refusal w.session ≡ None
MayWantMemory w (events.Open reader) = reader_at w.readers reader ≡ None
MayWantMemory w (events.Read reader from count) = MayRead from count (reader_at w.readers reader)
MayWantMemory w (events.Look reader) = IsCalling (reader_at w.readers reader)
MayWantMemory w event = ⊥

-- the world as before, but for a reader whose call was taken away
pub record IsKept (old new : WorldView) (r : ℕ) (reader : Option Reader) : Type 0 where
  pub session : new.session ≡ old.session
  pub bytes : new.bytes ≡ old.bytes
  pub journal : new.journal ≡ old.journal
  pub attempts : new.attempts ≡ old.attempts
  pub readers : (q : ℕ) → reader_at new.readers q ≡ (if r == q then reader else reader_at old.readers q)

-- the world as before, but that its session may hold more blocks of its index
pub record HoldsMore (old new : WorldView) : Type 0 where
  pub session : SameBut old.session new.session
  pub others : new ≡ record old { session = new.session }

-- What want of memory leaves: all as before; a look's call is taken away, and a flush may have held blocks.
abbrev pub IsLeft : WorldView → Event → WorldView → Type 0
IsLeft old events.Flush new = HoldsMore old new
IsLeft old (events.Open reader) new = IsKept old new reader (reader_at old.readers reader)
IsLeft old (events.Refresh reader) new = new ≡ old
IsLeft old (events.Read reader from count) new = IsKept old new reader (reader_at old.readers reader)
IsLeft old (events.Look reader) new = IsKept old new reader (option_map ended (reader_at old.readers reader))
IsLeft old event new = new ≡ old

-- an event that was given a reply between two worlds: for each state that fits the world before, the reply is lawful and
-- the next state fits the world after
pub record Steps (old : WorldView) (event : Event) (reply : Reply) (new : WorldView) : Type 0 where
  pub rules : rules_of new ≡ rules_of old
  pub lawful : (s : ScriptState) → HaveOneLog old s → Allowed (rules_of old) s (line_of event) reply × HaveOneLog new (next_state (rules_of old) s (line_of event) reply)
