-- What the writer's seat has seen are the pieces of the log over each takeover.
use Rattle.std.proofs.Common.{◌∙◌, ap}
use Rattle.h5w_model.specs.Logs.{hist}
use Rattle.h5w_model.specs.Several.{alone, seen_by}
use Rattle.h5w_several_laws.proofs.SeenLemmas.{seen_laws}
use Rattle.h5w_several_laws.proofs.SettledLemmas.{settled_pieces}
use Rattle.h5w_takeover_reading_laws.specs.Seats.{SeatsGoOn}

pub seats_go_on : SeatsGoOn
seats_go_on = record {
  taken = λ v log d b is. record { start = is.start; pieces = settled_pieces 0 (seen_by d log.events) ∙ is.pieces };
  alone = λ v log is. record { start = is.start; pieces = settled_pieces 0 (seen_by 0 (alone log.events)) ∙ ap hist (seen_laws.one log.events) ∙ is.pieces };
}
