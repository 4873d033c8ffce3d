use Rattle.h5w_check.proofs.CheckLemmas.{checks}
use Rattle.h5w_check.proofs.check.Goals as goal

pub returns-clause-exact : goal.returns-clause-exact
returns-clause-exact g c = checks c.args.names.now c.args.size _ c.ranges.size.fits c.requires c.verdict_on.ensures
