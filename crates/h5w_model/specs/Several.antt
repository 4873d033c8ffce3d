-- What happened to a session of several datasets in one file, what each of them sees of it, and what a takeover leaves of that.
use Rattle.std.specs.Prelude.{ℕ, suc, ◌+◌, ◌==◌, List, [], ◌∷◌, ◌++◌, take, nat_le, if◌then◌else◌, ℤ}
use Rattle.std.specs.List.{sum_by}
use Rattle.h5w_model.specs.Logs.{Log, Happening, Cutting, appends, plans, shows, load}
use Rattle.h5w_model.specs.declared.piece.Write.{Write}

-- Values are appended to a dataset, whose number counts from 0; a flush plans so many pieces for each dataset, in their order; a piece
-- becomes visible; another session takes over.
pub data Happened : Type 0 where
  appends_to : ℕ → List ℤ → Happened
  plans_each : List ℕ → Happened
  shows_all : Write → Happened
  takes_over : Happened

-- a dataset of the file: its columns, and the values of the rows that the first bytes read as
pub record Begun : Type 0 where
  pub columns : ℕ
  pub values : List ℤ

-- The bytes that a session began over, the file's datasets, the position after which a reader finds a file, and what happened since,
-- the newest first.
pub record FileLog : Type 0 where
  pub start : List ℕ
  pub sets : List Begun
  pub first : ℕ
  pub events : List Happened

-- ---- What a takeover leaves

-- What was appended and not flushed is gone, and so is a flush that did not become whole: these are the events up to the last flush that
-- did, of which n pieces are behind us, and the pieces behind it.
abbrev pub settled : ℕ → List Happening → List Happening
settled n [] = []
settled n (appends vs ∷ es) = settled n es
settled n (plans k ∷ es) = if nat_le k n then plans k ∷ es else settled n es
settled n (shows w ∷ es) = shows w ∷ settled (n + 1) es

abbrev pub settled_log : Log → Log
settled_log log = record log { events = settled 0 log.events }

-- ---- What a dataset sees

-- how many pieces a flush has up to the last one of a dataset's part
abbrev pub up_to : ℕ → List ℕ → ℕ
up_to d counts = sum_by (λ (n : ℕ). n) (take (suc d) counts)

-- what a dataset sees of what happened, the newest first
abbrev pub seen_by : ℕ → List Happened → List Happening
seen_by d [] = []
seen_by d (appends_to e vs ∷ es) = if e == d then appends vs ∷ seen_by d es else seen_by d es
seen_by d (plans_each counts ∷ es) = plans (up_to d counts) ∷ seen_by d es
seen_by d (shows_all w ∷ es) = shows w ∷ seen_by d es
seen_by d (takes_over ∷ es) = settled 0 (seen_by d es)

-- a dataset's log
abbrev pub log_of : ℕ → Begun → FileLog → Log
log_of d b log = record { start = log.start; columns = b.columns; values = b.values; first = log.first; events = seen_by d log.events }

-- ---- The file

-- the pieces that became visible, the oldest first
abbrev pub pieces_in : List Happened → List Write
pieces_in [] = []
pieces_in (appends_to e vs ∷ es) = pieces_in es
pieces_in (plans_each counts ∷ es) = pieces_in es
pieces_in (shows_all w ∷ es) = pieces_in es ++ w ∷ []
pieces_in (takes_over ∷ es) = pieces_in es

-- how many pieces became visible
abbrev pub shown_in : List Happened → ℕ
shown_in [] = 0
shown_in (appends_to e vs ∷ es) = shown_in es
shown_in (plans_each counts ∷ es) = shown_in es
shown_in (shows_all w ∷ es) = shown_in es + 1
shown_in (takes_over ∷ es) = shown_in es

-- the events before the piece behind the p-th
abbrev pub happened_at : ℕ → List Happened → List Happened
happened_at p [] = []
happened_at p (e ∷ es) = if nat_le (shown_in (e ∷ es)) p then e ∷ es else happened_at p es

-- the loads of the datasets from number d on, together; how each is cut is told in their order
abbrev pub load_from : ℕ → List Cutting → List Begun → FileLog → ℕ
load_from d [] bs log = 0
load_from d (c ∷ cs) [] log = 0
load_from d (c ∷ cs) (b ∷ bs) log = load c (log_of d b log) + load_from (suc d) cs bs log

-- more than the bytes that one plan of all datasets may write
abbrev pub load_all : List Cutting → FileLog → ℕ
load_all cs log = load_from 0 cs log.sets log

-- the loads after each append and at each flush, together
abbrev pub spent_by : List Cutting → FileLog → List Happened → ℕ
spent_by cs log [] = 0
spent_by cs log (appends_to e vs ∷ es) = spent_by cs log es + load_all cs (record log { events = appends_to e vs ∷ es })
spent_by cs log (plans_each counts ∷ es) = spent_by cs log es + load_all cs (record log { events = es })
spent_by cs log (shows_all w ∷ es) = spent_by cs log es
spent_by cs log (takes_over ∷ es) = spent_by cs log es

abbrev pub spent_all : List Cutting → FileLog → ℕ
spent_all cs log = spent_by cs log log.events

-- ---- One dataset

-- what happened to the one dataset of a file
abbrev pub alone : List Happening → List Happened
alone [] = []
alone (appends vs ∷ es) = appends_to 0 vs ∷ alone es
alone (plans k ∷ es) = plans_each (k ∷ []) ∷ alone es
alone (shows w ∷ es) = shows_all w ∷ alone es

-- the log of a file with one dataset
abbrev pub file_log : Log → FileLog
file_log log = record { start = log.start; sets = record { columns = log.columns; values = log.values } ∷ []; first = log.first; events = alone log.events }
