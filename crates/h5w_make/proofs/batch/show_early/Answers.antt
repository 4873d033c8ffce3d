use Rattle.std.proofs.Common.{arith}
use Rattle.std.proofs.lemmas.List.{nil_from_length}
use Rattle.h5w_make.proofs.BatchLemmas.{none_stands}
use Rattle.h5w_make.proofs.batch.show_early.Goals as goal

pub returns-else-pending-gt0-clause-stands : goal.returns-else-pending-gt0-clause-stands
returns-else-pending-gt0-clause-stands c = none_stands c.args.session.now (nil_from_length c.args.session.now.pending (omega (arith, c.if-pending-gt0.false, c.pending.ensures)))
