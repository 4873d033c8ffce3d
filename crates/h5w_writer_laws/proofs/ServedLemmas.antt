-- Readers can rest on a session's log.
use Rattle.std.proofs.Common.{arith}
use Rattle.h5w_writer.proofs.LawLemmas.{standing_laws}
use Rattle.h5w_writer_laws.specs.Serves.{SessionServes}

pub session_serves : SessionServes
session_serves s log stands short = record {
  prefixed = standing_laws.prefixed s log stands;
  held = standing_laws.held s log stands;
  fits = λ p at. omega (arith, standing_laws.fits s log p stands at, standing_laws.limited s log stands, short);
}
