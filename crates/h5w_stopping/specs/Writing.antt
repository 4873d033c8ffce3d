-- A script of a writer alone, each piece of which becomes visible at once: its lines, what they come to, and why one is refused.
use Rattle.std.specs.Prelude.{◌≡◌, ℕ, ◌+◌, ◌<◌, ◌≤◌, false, nat_lt, List, [], ◌∷◌, ◌++◌, length, Option, Some, None, option_and_then}
use Rattle.h5w_model.specs.Lawful.{Line, adds, flushes, Rules, ScriptState, after_shows, append_reply, at_first, rows_in}
use Rattle.h5w_model.specs.Logs.{Happening, Log, appended_in, appends, hist, load, plans, spent}
use Rattle.h5w_model.specs.declared.piece.Write.{Write}
use Rattle.h5w_model.specs.declared.reply.Reply.{Reply}
use Rattle.h5w_model.specs.declared.reply.Reply.TheVariants as replies
use Rattle.h5w_space.specs.declared.Full.{Full}
use Rattle.h5w_creation_laws.specs.CreatedFiles.{created_writes}
use Rattle.h5w_writer.specs.Creations.{log_of}
use Rattle.h5w_creation.specs.NewFiles.{new_file}
use Rattle.h5w_writer.specs.Refusals.{IsFullFor}
use Rattle.h5w_writer.specs.Sessions.{Session}
use Rattle.h5w_writer.specs.Stands.{Stands}
use Rattle.h5w_options.specs.declared.options.Options.{Options}
use Rattle.h5w_text.specs.declared.error.ErrorLine.{ErrorLine}
use Rattle.h5w_text.specs.declared.error.ErrorLine.TheVariants as errors
use Rattle.h5w_core.specs.Worlds.{HaveOneLog, StandsFor, WorldView, rules_for, rules_of}
use Rattle.h5w_stop.specs.Sweeps.{DoAll, Rest, no_rows, rest_after, rest_of}
use Rattle.h5w_reader_laws.specs.Showing.{showing}
use Rattle.h5w_playing.specs.Answers.{play_line_of}

-- the rules of a script on a file that is created by these options
abbrev pub writing_rules : Options → Rules
writing_rules o = rules_for o 8

-- ---- Lines

-- a line of the writer: rows that are appended, or a flush
abbrev pub writing : Line → Option Line
writing (adds vs) = Some (adds vs)
writing flushes = Some flushes
writing line = None

-- the line of the writer that some bytes spell
abbrev pub writing_line_of : Rules → List ℕ → Option Line
writing_line_of g bytes = option_and_then writing (play_line_of g bytes)

-- ---- Refusals of lines

-- the same as the state of a script
abbrev pub at_rest : Rest → ScriptState
at_rest r = record at_first { appended = r.appended; flushed = r.flushed }

-- the error of the line of this number that was given a reply, where it is a refusal
abbrev pub error_of : ℕ → Reply → Option ErrorLine
error_of number (replies.OutOfRange index value) = Some (errors.Range number index value)
error_of number (replies.FullChunks chunks limit) = Some (errors.FullChunks chunks limit)
error_of number reply = None

-- why a line is refused, whatever places the file has: a value is outside the type, or the rows need too many chunks
abbrev pub line_error : Rules → Rest → ℕ → Line → Option ErrorLine
line_error g r number (adds vs) = error_of number (append_reply g (at_rest r) vs)
line_error g r number line = None

-- of some lines, the first of which has this number, the first that is refused
abbrev pub first_error : Rules → Rest → ℕ → List Line → Option ErrorLine
first_error g r number [] = None
first_error g r number (line ∷ lines) = elim (line_error g r number line) [ Some e ↦ Some e | None ↦ first_error g (rest_after g r line) (number + 1) lines ]

-- ---- The log

-- The events of a session that created its file by these options and did these lines: the pieces of the creation became visible, and
-- nothing was appended before the first line.
pub record HasDone (o : Options) (lines : List Line) (events : List Happening) : Type 0 where
  pub begun : List Happening
  pub created : hist begun ≡ created_writes (new_file o)
  pub empty : appended_in begun ≡ []
  pub all : DoAll (writing_rules o) no_rows lines begun events

-- ---- Worlds

-- The world did these lines: its log has what they come to, none of them was refused, and it waits for the next.
pub record Follows (o : Options) (lines : List Line) (w : WorldView) : Type 0 where
  pub log : Log
  pub is : log ≡ log_of (new_file o) log.events
  pub stands : StandsFor w log
  pub done : HasDone o lines log.events
  pub name : w.session.name ≡ o.name
  pub rules : rules_of w ≡ writing_rules o
  pub accepted : first_error (writing_rules o) no_rows 1 lines ≡ None
  pub state : ScriptState
  pub fits : HaveOneLog w state
  pub idle : state.pending ≡ 0
  pub calm : state.ends_flush ≡ false
  pub going : state.stopped ≡ false
  pub appended : state.appended ≡ (rest_of (writing_rules o) no_rows lines).appended
  pub flushed : state.flushed ≡ (rest_of (writing_rules o) no_rows lines).flushed
  pub spent_is : state.spent ≡ spent (writing_rules o).cutting log

-- the event of a line behind others, and what is said of the pieces that are pending behind it
abbrev pub IsEventOf : Rules → Rest → Line → ScriptState → (pieces : ℕ) → Happening → Type 0
IsEventOf g r (adds vs) s pieces event = (event ≡ appends vs) × (s.ends_flush ≡ false)
IsEventOf g r flushes s pieces event =
    (event ≡ plans pieces) × (s.ends_flush ≡ nat_lt 0 pieces) × (r.flushed < rows_in g r.appended → 1 ≤ pieces) × (r.flushed ≡ rows_in g r.appended → pieces ≡ 0)
IsEventOf g r line s pieces event = ⊥

-- The world did these lines, and then this one, whose pieces are pending.
pub record IsAmid (o : Options) (lines : List Line) (line : Line) (w : WorldView) : Type 0 where
  pub before : List Happening
  pub done : HasDone o lines before
  pub event : Happening
  pub log : Log
  pub is : log ≡ log_of (new_file o) (event ∷ before)
  pub stands : StandsFor w log
  pub name : w.session.name ≡ o.name
  pub rules : rules_of w ≡ writing_rules o
  pub accepted : first_error (writing_rules o) no_rows 1 (lines ++ line ∷ []) ≡ None
  pub state : ScriptState
  pub fits : HaveOneLog w state
  pub going : state.stopped ≡ false
  pub means : IsEventOf (writing_rules o) (rest_of (writing_rules o) no_rows lines) line state (length w.session.pending) event
  pub appended : state.appended ≡ (rest_of (writing_rules o) no_rows (lines ++ line ∷ [])).appended
  pub flushed : state.flushed ≡ (rest_of (writing_rules o) no_rows lines).flushed
  pub spent_is : state.spent ≡ spent (writing_rules o).cutting log

-- These pieces became visible between two worlds, one after another.
pub record ShowsAll (old new : WorldView) : Type 0 where
  pub pieces : List Write
  pub count : length pieces ≡ length old.session.pending
  pub logs : (log : Log) → StandsFor old log → StandsFor new (record log { events = showing pieces log.events })
  pub rules : rules_of new ≡ rules_of old
  pub name : new.session.name ≡ old.session.name
  pub fits : (s : ScriptState) → HaveOneLog old s → HaveOneLog new (after_shows (rules_of old) s s.pending)

-- ---- Want of places

-- These lines were done, rows wait, and the file has no place for what comes next of them in turn, a new chunk or a block of the index, within
-- the bounds by the loads of the log.
pub record LacksPlace (o : Options) (lines : List Line) (full : Full) : Type 0 where
  pub log : Log
  pub is : log ≡ log_of (new_file o) log.events
  pub done : HasDone o lines log.events
  pub session : Session
  pub stands : Stands session log
  pub full_for : IsFullFor session full
  pub limit : full.limit ≡ o.limit
  pub some : 1 ≤ full.size
  pub past : full.limit < full.at + full.size
  pub size_bound : full.size ≤ load (writing_rules o).cutting log
  pub at_bound : full.at ≤ 1024 + spent (writing_rules o).cutting log + load (writing_rules o).cutting log

-- the same in words of the log alone
pub record LacksRoom (o : Options) (lines : List Line) (full : Full) : Type 0 where
  pub log : Log
  pub is : log ≡ log_of (new_file o) log.events
  pub done : HasDone o lines log.events
  pub limit : full.limit ≡ o.limit
  pub some : 1 ≤ full.size
  pub past : full.limit < full.at + full.size
  pub size_bound : full.size ≤ load (writing_rules o).cutting log
  pub at_bound : full.at ≤ 1024 + spent (writing_rules o).cutting log + load (writing_rules o).cutting log

-- by what has no place behind some lines
abbrev pub Rooms : Type 1
Rooms = Options → List Line → Full → Type 0

-- why a line of this number is refused behind others; what it means that there is no place is told by a relation
abbrev pub RefusesBy : Rooms → Options → List Line → ℕ → Line → ErrorLine → Type 0
RefusesBy Lacks o lines number line (errors.Line n) = (n ≡ number) × (writing line ≡ None)
RefusesBy Lacks o lines number line (errors.Range n index value) = line_error (writing_rules o) (rest_of (writing_rules o) no_rows lines) number line ≡ Some (errors.Range n index value)
RefusesBy Lacks o lines number line (errors.FullChunks chunks limit) = line_error (writing_rules o) (rest_of (writing_rules o) no_rows lines) number line ≡ Some (errors.FullChunks chunks limit)
RefusesBy Lacks o lines number line (errors.FullSpace at size limit) = (line ≡ flushes) × Lacks o lines (record { at = at; size = size; limit = limit })
RefusesBy Lacks o lines number line errors.Memory = Unit {0}
RefusesBy Lacks o lines number line e = ⊥

-- by the session's own state
abbrev pub Refuses : Options → List Line → ℕ → Line → ErrorLine → Type 0
Refuses = RefusesBy LacksPlace
