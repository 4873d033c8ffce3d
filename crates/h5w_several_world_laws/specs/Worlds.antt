-- A session of several datasets and some readers, and the states of a script that fit them.
use Rattle.std.specs.Prelude.{◌≡◌, ℕ, ◌+◌, ◌*◌, ◌≤◌, true, Bool, List, [], ◌∷◌, length, nat_lt, Some, slice_get}
use Rattle.h5w_model.specs.Lawful.{Rules}
use Rattle.h5w_model.specs.Logs.{Log}
use Rattle.h5w_model.specs.Several.{Begun, FileLog, log_of}
use Rattle.h5w_script_laws.specs.Polling.{Polling}
use Rattle.h5w_reader.specs.Readers.{reader_rules}
use Rattle.h5w_writer.specs.Sessions.{Session, chunk_limit, cutting_of}
use Rattle.h5w_several_writer_laws.specs.Sessions.{Sessions, counts_of}
use Rattle.h5w_several_writer_laws.specs.Standing.{StandsAll}
use Rattle.h5w_several_script_laws.specs.Scripts.{FileState, SetState, due}
use Rattle.h5w_several_script_laws.specs.Polled.{FilePolled, Places}
use Rattle.h5w_several_world_laws.specs.Beginnings.{IsNewFor}

-- the rules of the lines of a part, in a file of at most so many bytes, with so many attempts of a reader's call
abbrev pub rules_in : (limit attempts : ℕ) → Session → Rules
rules_in limit attempts s = record {
  cutting = cutting_of s;
  int_type = s.dataset.int_type;
  chunk_limit = chunk_limit s;
  space_limit = limit;
  budget = s.budget;
  attempts = attempts;
}

-- what readers of a part poll for, by what each of them calls
abbrev pub polling_in : (limit attempts : ℕ) → Session → Polling
polling_in limit attempts s = let by = reader_rules s.name attempts in record { name = s.name; limits = by.limits; keeps = by.keeps; rules = rules_in limit attempts s }

-- The state of a part, behind so many pieces of the parts before it. What is pending is a flush, which took all its
-- rows.
pub record IsStateOfPart (limit attempts before : ℕ) (s : Session) (x : SetState) : Type 0 where
  pub rules : x.rules ≡ rules_in limit attempts s
  pub pending : x.state.pending ≡ due before (length s.pending)
  pub ends_flush : x.state.ends_flush ≡ nat_lt 0 (length s.pending)
  pub flushing : s.flushing ≡ nat_lt 0 (length s.pending)
  pub taken : s.flushing ≡ true → s.waits ≡ 0

-- of all parts, in their order
abbrev pub AreStatesOf : (limit attempts before : ℕ) → List Session → List SetState → Type 0
AreStatesOf limit attempts before [] [] = Unit {0}
AreStatesOf limit attempts before [] (x ∷ xs) = ⊥
AreStatesOf limit attempts before (s ∷ ss) [] = ⊥
AreStatesOf limit attempts before (s ∷ ss) (x ∷ xs) = IsStateOfPart limit attempts before s x × AreStatesOf limit attempts (before + length s.pending) ss xs

-- The script's state is that of a log of the session: of each dataset its part's, with the values and rows of what it
-- sees of the log, and the readers poll that. The file ends within what its datasets begin with and the loads so far.
pub record IsFileStateOf (S : Sessions) (attempts : ℕ) (ps : Places) (F : FileState) (log : FileLog) : Type 0 where
  pub states : AreStatesOf S.places.limit attempts 0 S.parts F.sets
  pub left : F.left ≡ counts_of S.parts
  pub stopped : F.stopped ≡ S.stopped
  pub limit : F.space_limit ≡ S.places.limit
  pub pollings : ℕ → Polling
  pub logs : ℕ → Log
  pub own : (d : ℕ) (b : Begun) (s : Session) → slice_get log.sets d ≡ Some b → slice_get S.parts d ≡ Some s → (pollings d ≡ polling_in S.places.limit attempts s) × (logs d ≡ log_of d b log)
  pub polls : FilePolled pollings logs F ps
  pub grown : S.places.end ≤ 1024 * length log.sets + F.spent

-- the session, its readers and the script's state are those of one log of the file, which the session created
pub record HaveOneFileLog (S : Sessions) (attempts : ℕ) (ps : Places) (F : FileState) : Type 0 where
  pub log : FileLog
  pub stands : StandsAll S log
  pub state : IsFileStateOf S attempts ps F log
  pub new : IsNewFor state.pollings log
