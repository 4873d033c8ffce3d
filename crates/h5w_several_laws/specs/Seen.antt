-- What each dataset sees of the log of its file.
use Rattle.std.specs.Prelude.{◌≡◌, ℕ, List, [], ◌∷◌, ℤ}
use Rattle.h5w_model.specs.Logs.{Log, Happening, Cutting, hist, flushed_in, events_at, spent}
use Rattle.h5w_model.specs.Several.{Happened, alone, file_log, happened_at, pieces_in, seen_by, spent_all}

-- Every dataset sees the file's pieces; what it sees at a position is flushed there as it is in all; and where there is one dataset it
-- sees all, and loads are its own.
pub record SeenLaws : Type 0 where
  pub pieces : (d : ℕ) (es : List Happened) → hist (seen_by d es) ≡ pieces_in es
  pub positions : (d p : ℕ) (base : List ℤ) (es : List Happened) → flushed_in 0 base (events_at p (seen_by d es)) ≡ flushed_in 0 base (seen_by d (happened_at p es))
  pub one : (es : List Happening) → seen_by 0 (alone es) ≡ es
  pub spends : (c : Cutting) (log : Log) → spent_all (c ∷ []) (file_log log) ≡ spent c log
