-- The writer's seat of a shared image and the log of a file that is taken over.
use Rattle.std.specs.Prelude.{ℕ}
use Rattle.h5w_model.specs.Logs.{Log}
use Rattle.h5w_model.specs.Several.{Begun, FileLog, file_log, log_of, takes_over}
use Rattle.h5w_shared.specs.Seats.{SeatView}
use Rattle.h5w_shared.specs.Threads.{IsLogOf}
use Rattle.h5w_several_writer_laws.specs.Standing.{and_then}
use Rattle.h5w_takeover_reading_laws.specs.Across.{begun_of}

-- A log of the seat stays one over a takeover, which brings no piece; of a file with one dataset, too.
pub record SeatsGoOn : Type 0 where
  pub taken : (v : SeatView) (log : FileLog) (d : ℕ) (b : Begun) → IsLogOf v (log_of d b log) → IsLogOf v (log_of d b (and_then takes_over log))
  pub alone : (v : SeatView) (log : Log) → IsLogOf v log → IsLogOf v (log_of 0 (begun_of log) (and_then takes_over (file_log log)))
