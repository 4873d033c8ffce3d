-- By how much calls raise the end of a file with several datasets, and how many pieces they plan, by the loads of its log.
use Rattle.std.specs.Prelude.{◌≡◌, ℕ, ◌+◌, ◌≤◌, false, List, [], length, map, ℤ}
use Rattle.h5w_model.specs.Logs.{Cutting}
use Rattle.h5w_model.specs.Several.{FileLog, appends_to, load_all, plans_each, shows_all, spent_all}
use Rattle.h5w_model.specs.declared.piece.Write.{Write}
use Rattle.h5w_writer.specs.Sessions.{Session, cutting_of}
use Rattle.h5w_several_writer_laws.specs.Began.{began_end}
use Rattle.h5w_several_writer_laws.specs.Sessions.{AfterPieceOf, AppendsTo, FlushesAll, SameButHeld, Sessions, all_pending, closed_all, counts_of, keeping, stopped_all}
use Rattle.h5w_several_writer_laws.specs.Standing.{StandsAll, and_then}

-- how the rows of each dataset are cut into chunks
abbrev pub cuttings_of : List Session → List Cutting
cuttings_of ss = map cutting_of ss

-- the file grew by no more than what the plans of its datasets were bound to
abbrev pub IsGrown : Sessions → FileLog → Type 0
IsGrown S log = S.places.end ≤ began_end log + spent_all (cuttings_of S.parts) log

-- A flush plans no more pieces than the loads of all datasets, and the file grows by no more. So the file's growth is bounded after each call, where it
-- was before. Rows stay cut as they are.
pub record BoundsStand : Type 0 where
  pub few : (old new : Sessions) (log : FileLog) → StandsAll old log → old.stopped ≡ false → all_pending old.parts ≡ [] → FlushesAll old new → length (all_pending new.parts) ≤ load_all (cuttings_of old.parts) log
  pub raised : (old new : Sessions) (log : FileLog) → StandsAll old log → old.stopped ≡ false → all_pending old.parts ≡ [] → FlushesAll old new → new.places.end ≤ old.places.end + load_all (cuttings_of old.parts) log
  pub appends : (old new : Sessions) (d : ℕ) (values : List ℤ) (log : FileLog) → AppendsTo d values old new → IsGrown old log → IsGrown new (and_then (appends_to d values) log)
  pub flushes : (old new : Sessions) (log : FileLog) → StandsAll old log → old.stopped ≡ false → all_pending old.parts ≡ [] → FlushesAll old new → IsGrown old log → IsGrown new (and_then (plans_each (counts_of new.parts)) log)
  pub refused : (old new : Sessions) (log : FileLog) → SameButHeld old new → IsGrown old log → IsGrown new log
  pub shown : (old new : Sessions) (w : Write) (log : FileLog) → AfterPieceOf w old new → IsGrown old log → IsGrown new (and_then (shows_all w) log)
  pub stops : (S : Sessions) (log : FileLog) → IsGrown S log → IsGrown (stopped_all S) log
  pub closes : (S : Sessions) (log : FileLog) → IsGrown S log → IsGrown (closed_all S) log
  pub keeps : (S : Sessions) (log : FileLog) → IsGrown S log → IsGrown (keeping S) log
