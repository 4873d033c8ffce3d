use Rattle.std.proofs.Common.{arith}
use Rattle.std.proofs.lemmas.Grind.{common_steps}
use Rattle.h5w_bytes.proofs.Links.{little_bytes-le}
use Rattle.h5w_bytes.proofs.put.Goals as goal

pub returns : goal.returns
returns c = record { written = rw (← little_bytes-le c.args.width c.args.v) (grind (arith, common_steps)) }
