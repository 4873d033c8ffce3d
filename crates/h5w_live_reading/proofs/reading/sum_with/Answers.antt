use Rattle.std.proofs.Common.{rules}
use Rattle.std.proofs.lemmas.Int.{wraps}
use Rattle.h5w_live_reading.proofs.reading.sum_with.Goals as goal

pub returns : goal.returns
returns c = search (rules, wraps)
