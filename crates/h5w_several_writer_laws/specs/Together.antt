-- What a session of several datasets tells of all of them together.
use Rattle.std.specs.Prelude.{◌≡◌, ℕ, ◌≤◌, List, length, Some, slice_get, take}
use Rattle.h5w_model.specs.Findings.{AllSummary, AllValid}
use Rattle.h5w_model.specs.Images.{image}
use Rattle.h5w_model.specs.Logs.{Log, flushed_at, flushed_rows}
use Rattle.h5w_model.specs.Several.{Begun, FileLog, log_of, pieces_in, shown_in}
use Rattle.h5w_writer.specs.Sessions.{Session}
use Rattle.h5w_several_writer_laws.specs.Sessions.{Sessions}
use Rattle.h5w_several_writer_laws.specs.Standing.{StandsAll}
use Rattle.h5w_several_writer_laws.specs.Valid.{names_in}

-- the image once so many pieces became visible
abbrev pub file_at : FileLog → ℕ → List ℕ
file_at log p = image log.start (take p (pieces_in log.events))

-- No finding applies to an image and the names of all parts: each has its link, no two lead to one header, and no range meets another. Each dataset has as many
-- rows as its log says.
pub record IsValidWith (S : Sessions) (log : FileLog) (img : List ℕ) (rows_of : Log → ℕ) : Type 0 where
  pub summary : AllSummary
  pub valid : AllValid img (names_in S.parts) summary
  pub count : length summary.rows ≡ length S.parts
  pub rows : (d : ℕ) (b : Begun) (s : Session) → slice_get log.sets d ≡ Some b → slice_get S.parts d ≡ Some s → slice_get summary.rows d ≡ Some (rows_of (log_of d b log))

-- ---- Laws

-- So it is, with the rows that are flushed there, at each position that the file has reached, from the first at which a reader finds it, also between two pieces of
-- a flush; and so it is now.
pub record AllNamesLaws : Type 0 where
  pub each : (S : Sessions) (log : FileLog) → StandsAll S log → (p : ℕ) → log.first ≤ p → p ≤ shown_in log.events → IsValidWith S log (file_at log p) (λ l. flushed_at l p)
  pub now : (S : Sessions) (log : FileLog) → StandsAll S log → log.first ≤ shown_in log.events → IsValidWith S log (image log.start (pieces_in log.events)) flushed_rows
