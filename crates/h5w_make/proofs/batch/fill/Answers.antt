use Rattle.h5w_make.specs.Commands.{batches}
use Rattle.h5w_make.proofs.batch.fill.Goals as goal

pub returns : goal.returns
returns c = c.close.ensures (batches c.args.seed c.args.n) c.in_ok-put_all.ensures
