-- When an image is a mirror of another, and what looks at it come to.
use Rattle.std.specs.Prelude.{List, length}
use Rattle.h5w_model.specs.Logs.{Log, hist}
use Rattle.h5w_model.specs.Readers.{IsCall}
use Rattle.h5w_model.specs.declared.piece.Write.{Write}
use Rattle.h5w_shared.specs.Threads.{Sight, Sights, placed, seen_after}
use Rattle.h5w_shared.specs.Turns.{StartsWith}

-- the second history is a beginning of the first
abbrev pub Mirrored : List Write → List Write → Type 0
Mirrored first second = StartsWith first second

-- Looks through one seat on a second image are a call over each log of the first: the log began with the same bytes, and its pieces
-- have the second's history as a beginning. Positions are numbers of pieces of the second.
abbrev pub MirroredCall : Type 0
MirroredCall =
    (log : Log) (second from : List Write) (sights : List Sight) → Mirrored (hist log.events) second → Sights log.start from sights → StartsWith second (seen_after from sights)
    → IsCall log (length from) (placed sights)
