-- What is known of a log that readers poll, and of a script that it is the log of.
use Rattle.std.specs.Prelude.{◌≡◌, ℕ, ◌<◌, ◌≤◌, ◌≢◌, get_or}
use Rattle.h5w_model.specs.Numbers.{undefined}
use Rattle.h5w_model.specs.Logs.{Log, Cutting, appended, flushed_rows}
use Rattle.h5w_model.specs.Tables.{Reading, Shows, format_limits, needed}
use Rattle.h5w_model.specs.Prefixed.{image_at, IsPosition}
use Rattle.h5w_model.specs.Lawful.{ScriptState}
use Rattle.h5w_reader_laws.specs.Headline.{Served, WithinLimits}
use Rattle.h5w_reader_laws.specs.Bounds.{ShortHeaders}
use Rattle.h5w_script_laws.specs.Polling.{Polling}

-- ---- The log

-- the dataset's chunks are as the script says, and each needed one has an address
pub record IsCut (c : Cutting) (r : Reading) : Type 0 where
  pub chunk_rows : r.dataset.layout.chunk_rows ≡ c.chunk_rows
  pub chunk_columns : r.dataset.layout.chunk_cols ≡ c.chunk_columns
  pub value_size : r.dataset.int_type.size ≡ c.value_size
  pub addressed : (k : ℕ) → k < needed r.dataset → get_or r.table k undefined ≢ undefined

-- Readers can rest on it, and each position shows what they read: no more chunks than their limits, short headers, and a
-- dataset that is cut as the script says, with at least one column. A call has at least one attempt.
pub record LogHolds (g : Polling) (log : Log) : Type 0 where
  pub served : Served g.name log
  pub within : WithinLimits g.limits g.name log
  pub headers : ShortHeaders g.name log
  pub cut : (p : ℕ) (r : Reading) → IsPosition log p → Shows format_limits (image_at log p) g.name r → IsCut g.rules.cutting r
  pub columns : log.columns ≡ g.rules.cutting.columns
  pub some_columns : 1 ≤ g.rules.cutting.columns
  pub some_attempts : 1 ≤ g.rules.attempts

-- ---- The script

-- the script's values and flushed rows are those of the log
pub record Follows (log : Log) (s : ScriptState) : Type 0 where
  pub appended : s.appended ≡ appended log
  pub flushed : s.flushed ≡ flushed_rows log
