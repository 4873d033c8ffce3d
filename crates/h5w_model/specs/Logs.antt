-- What happened to a session, and what its readers may find: lists of events, the newest first.
use Rattle.std.specs.Prelude.{ℕ, ◌+◌, ◌-◌, ◌*◌, ◌/◌, List, [], ◌∷◌, ◌++◌, length, take, ℤ, nat_le, nat_lt, if◌then◌else◌}
use Rattle.h5w_model.specs.declared.piece.Write.{Write}

-- An accepted append of values, rows one after another; an accepted flush that planned some pieces; a piece that
-- became visible.
pub data Happening : Type 0 where
  appends : List ℤ → Happening
  plans : ℕ → Happening
  shows : Write → Happening

-- The bytes that a session began over (none where it created them), the dataset's columns, the values of the rows that
-- these bytes read as, the position after which a reader finds a file, and what happened since.
pub record Log : Type 0 where
  pub start : List ℕ
  pub columns : ℕ
  pub values : List ℤ
  pub first : ℕ
  pub events : List Happening

-- the pieces that became visible, the oldest first
abbrev pub hist : List Happening → List Write
hist [] = []
hist (appends vs ∷ es) = hist es
hist (plans k ∷ es) = hist es
hist (shows w ∷ es) = hist es ++ w ∷ []

-- how many pieces became visible
abbrev pub shown : List Happening → ℕ
shown [] = 0
shown (appends vs ∷ es) = shown es
shown (plans k ∷ es) = shown es
shown (shows w ∷ es) = shown es + 1

-- the values of the appends, the oldest first
abbrev pub appended_in : List Happening → List ℤ
appended_in [] = []
appended_in (appends vs ∷ es) = appended_in es ++ vs
appended_in (plans k ∷ es) = appended_in es
appended_in (shows w ∷ es) = appended_in es

-- what was appended before the last flush whose pieces all became visible, of which n pieces are behind us;
-- `base` where there is none
abbrev pub flushed_in : ℕ → List ℤ → List Happening → List ℤ
flushed_in n base [] = base
flushed_in n base (appends vs ∷ es) = flushed_in n base es
flushed_in n base (plans k ∷ es) = if nat_le k n then base ++ appended_in es else flushed_in n base es
flushed_in n base (shows w ∷ es) = flushed_in (n + 1) base es

abbrev pub appended : Log → List ℤ
appended log = log.values ++ appended_in log.events

abbrev pub flushed : Log → List ℤ
flushed log = flushed_in 0 log.values log.events

-- the events before the piece behind the p-th
abbrev pub events_at : ℕ → List Happening → List Happening
events_at p [] = []
events_at p (e ∷ es) = if nat_le (shown (e ∷ es)) p then e ∷ es else events_at p es

-- the log at position p: after p pieces, and all that happened before the next
abbrev pub at_position : Log → ℕ → Log
at_position log p = record log { events = events_at p log.events }

-- how many rows these values of a log's dataset are
abbrev pub rows_in : Log → List ℤ → ℕ
rows_in log values = length values / log.columns

-- how many rows are flushed
abbrev pub flushed_rows : Log → ℕ
flushed_rows log = rows_in log (flushed log)

-- how many rows are flushed at position p
abbrev pub flushed_at : Log → ℕ → ℕ
flushed_at log p = flushed_rows (at_position log p)

-- the values of the first n rows that were appended
abbrev pub first_rows : Log → ℕ → List ℤ
first_rows log n = take (n * log.columns) (appended log)

-- one more event
abbrev pub and_now : Happening → Log → Log
and_now e log = record log { events = e ∷ log.events }

-- how rows are cut into chunks: rows and columns of a chunk, columns of the dataset, bytes of a value
pub record Cutting : Type 0 where
  pub chunk_rows : ℕ
  pub chunk_columns : ℕ
  pub columns : ℕ
  pub value_size : ℕ

abbrev pub div_up : ℕ → ℕ → ℕ
div_up n d = (n + d - 1) / d

-- the chunks that some rows need
abbrev pub needed_chunks : Cutting → ℕ → ℕ
needed_chunks c rows = div_up rows c.chunk_rows * div_up c.columns c.chunk_columns

-- the chunks that hold a row from `old` up to but not including `new`
abbrev pub touched_chunks : Cutting → ℕ → ℕ → ℕ
touched_chunks c old new =
    if nat_lt old new then (div_up new c.chunk_rows - old / c.chunk_rows) * div_up c.columns c.chunk_columns else 0

-- more than the bytes that one plan may write
abbrev pub load : Cutting → Log → ℕ
load c log =
    1000 + touched_chunks c (length (flushed log) / c.columns) (length (appended log) / c.columns)
    * (c.chunk_rows * c.chunk_columns * c.value_size + 20000)

-- the loads after each append and at each flush, together
abbrev pub spent_in : Cutting → Log → List Happening → ℕ
spent_in c log [] = 0
spent_in c log (appends vs ∷ es) = spent_in c log es + load c (record log { events = appends vs ∷ es })
spent_in c log (plans k ∷ es) = spent_in c log es + load c (record log { events = es })
spent_in c log (shows w ∷ es) = spent_in c log es

abbrev pub spent : Cutting → Log → ℕ
spent c log = spent_in c log log.events
