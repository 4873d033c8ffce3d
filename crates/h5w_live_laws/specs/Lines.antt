-- What the lines of a writer's flushes say of its log.
use Rattle.std.specs.Prelude.{◌≡◌, ℕ, ◌≤◌, List, [], ◌∷◌, length}
use Rattle.h5w_model.specs.Logs.{Log, hist, flushed_at}
use Rattle.h5w_model.specs.Agrees.{rows_after}
use Rattle.h5w_model.specs.declared.report.FlushLine.{FlushLine}

-- at each position the flushed rows are those of the last line that was whole by then
abbrev pub TellsFlushes : Log → List FlushLine → Type 0
TellsFlushes log lines = (p : ℕ) → p ≤ length (hist log.events) → flushed_at log p ≡ rows_after 0 p lines

-- the pieces of the last line, and `before` where there is none
abbrev pub pieces_in : ℕ → List FlushLine → ℕ
pieces_in before [] = before
pieces_in before (f ∷ fs) = pieces_in f.pieces fs

-- its rows
abbrev pub rows_told : ℕ → List FlushLine → ℕ
rows_told before [] = before
rows_told before (f ∷ fs) = rows_told f.rows fs
