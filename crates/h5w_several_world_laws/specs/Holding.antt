-- What readers of each dataset may rest on in the log of a session of several datasets.
use Rattle.std.specs.Prelude.{◌≡◌, ℕ, ◌^◌, ◌≤◌, Some, slice_get}
use Rattle.h5w_model.specs.Several.{Begun, FileLog, log_of}
use Rattle.h5w_script_laws.specs.Polling.{Polling}
use Rattle.h5w_script_laws.specs.Premises.{LogHolds}
use Rattle.h5w_writer.specs.Sessions.{Session}
use Rattle.h5w_several_writer_laws.specs.Sessions.{Sessions}
use Rattle.h5w_several_writer_laws.specs.Standing.{StandsAll}
use Rattle.h5w_several_world_laws.specs.Beginnings.{IsNewFor}
use Rattle.h5w_several_world_laws.specs.Worlds.{polling_in}

-- Of a session that created its file: readers of each dataset can rest on what it sees of the log, by the rules of the
-- dataset's part.
abbrev pub LogsHold : Type 0
LogsHold = (S : Sessions) (attempts : ℕ) (pollings : ℕ → Polling) (log : FileLog) → StandsAll S log → IsNewFor pollings log → S.places.limit ≤ 2 ^ 40 → 1 ≤ attempts
    → (d : ℕ) (b : Begun) (s : Session) → slice_get log.sets d ≡ Some b → slice_get S.parts d ≡ Some s → pollings d ≡ polling_in S.places.limit attempts s
    → LogHolds (polling_in S.places.limit attempts s) (log_of d b log)
