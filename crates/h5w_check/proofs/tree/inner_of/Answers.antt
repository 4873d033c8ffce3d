use Rattle.h5w_bt.specs.Fields.{btin_of}
use Rattle.h5w_check.proofs.TreeLemmas.{inner_formed}
use Rattle.h5w_check.proofs.tree.inner_of.Goals as goal

pub returns-in-Ok-clause-formed : goal.returns-in-Ok-clause-formed
returns-in-Ok-clause-formed c = inner_formed c.args.b.now c.args.at c.args.n c.args.depth (btin_of c.in-Ok.t) c.in-Ok.ensures.exact
