-- Another writer takes over a file of several datasets, wherever its session stopped.
use Rattle.std.specs.Prelude.{◌≡◌, Some, slice_get, ◌^◌, ◌<◌, ◌≤◌, ℕ, suc, List, [], ◌∷◌, length}
use Rattle.std.specs.List.{AllByRecursion}
use Rattle.h5w_model.specs.Images.{image}
use Rattle.h5w_model.specs.Logs.{first_rows, flushed_at}
use Rattle.h5w_model.specs.Several.{Begun, FileLog, log_of, pieces_in, shown_in, takes_over}
use Rattle.h5w_opening.specs.declared.error.OpenError.{OpenError}
use Rattle.h5w_writer.specs.Sessions.{Session, chunk_limit, cutting_of}
use Rattle.h5w_several_writer_laws.specs.Sessions.{AreSessions, Sessions}
use Rattle.h5w_several_writer_laws.specs.Standing.{StandsAll, and_then}
use Rattle.h5w_several_writer_laws.specs.Together.{file_at}
use Rattle.h5w_several_writer_laws.specs.Valid.{names_in}
use Rattle.h5w_several_open.specs.Stands.{opened_file}
use Rattle.h5w_several_open.specs.Taken.{HasTakenAll, IsNotTakenBy, IsTakenAll}
use Rattle.h5w_takeover_laws.specs.Refused.{IsBegunFile, IsLeftOpen}

-- ---- What a file has at a position

-- the datasets from number d on, with the values that are flushed there
abbrev pub sets_at : (p d : ℕ) → FileLog → List Begun → List Begun
sets_at p d log [] = []
sets_at p d log (b ∷ bs) = record { columns = b.columns; values = first_rows (log_of d b log) (flushed_at (log_of d b log) p) } ∷ sets_at p (suc d) log bs

-- the log that begins with the image there, to which nothing happened yet
abbrev pub log_from : ℕ → FileLog → FileLog
log_from p log = opened_file (file_at log p) (sets_at p 0 log log.sets)

-- ---- Laws

-- At each position of the log of each session with both flags of a writer a takeover by its names has no refusal to answer. At the first position
-- each dataset was there as one that is opened or taken over.
abbrev pub NeverRefusedAll : Type 0
NeverRefusedAll = (S : Sessions) (log : FileLog) (p : ℕ) (e : OpenError) → StandsAll S log → AreSessions S → log.first ≤ p → p ≤ shown_in log.events
    → AllByRecursion (IsBegunFile (file_at log log.first)) (names_in S.parts) → length log.start < 2 ^ 64 → IsLeftOpen (file_at log p)
    → IsNotTakenBy (file_at log p) (length (file_at log p)) (names_in S.parts) e → ⊥

-- The session that takes the file over there, by the same names, stands for a log of its own: it begins with that image, and each dataset has
-- the values that were flushed then.
abbrev pub TakenAnew : Type 0
TakenAnew = (S T : Sessions) (log : FileLog) (p limit budget : ℕ) → StandsAll S log → log.first ≤ p → p ≤ shown_in log.events
    → IsTakenAll (file_at log p) (length (file_at log p)) (names_in S.parts) limit budget T → HasTakenAll (names_in S.parts) limit budget T → 1024 ≤ limit → limit ≤ 2 ^ 40
    → StandsAll T (log_from p log)

-- The session stands for the log of before with the takeover, and begins at an end of the file that is no more than that of the session before.
pub record CarriesOn (S T : Sessions) (log : FileLog) : Type 0 where
  pub stands : StandsAll T (and_then takes_over log)
  pub end : T.places.end ≤ S.places.end

-- The session that takes the file over where it is now, by the same names and with no smaller limit, goes on with the log.
abbrev pub CarriesAll : Type 0
CarriesAll = (S T : Sessions) (log : FileLog) (limit budget : ℕ) → StandsAll S log → 1 ≤ length S.parts → log.first ≤ shown_in log.events → S.places.limit ≤ limit
    → IsTakenAll (image log.start (pieces_in log.events)) (length (image log.start (pieces_in log.events))) (names_in S.parts) limit budget T → 1024 ≤ limit → limit ≤ 2 ^ 40
    → CarriesOn S T log

-- a part with the same dataset, but for its rows
pub record IsAlike (s u : Session) : Type 0 where
  pub cutting : cutting_of u ≡ cutting_of s
  pub int_type : u.dataset.int_type ≡ s.dataset.int_type
  pub chunk_limit : chunk_limit u ≡ chunk_limit s

-- a dataset of a file that was taken over is the one that it was
abbrev pub StaysAlike : Type 0
StaysAlike = (S T : Sessions) (log : FileLog) → StandsAll S log → StandsAll T (and_then takes_over log) → log.first ≤ shown_in log.events → (d : ℕ) (b : Begun) (s u : Session) → slice_get log.sets d ≡ Some b → slice_get S.parts d ≡ Some s
    → slice_get T.parts d ≡ Some u → u.name ≡ s.name → IsAlike s u
