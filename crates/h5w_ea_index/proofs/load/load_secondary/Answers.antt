use Rattle.std.proofs.Common.{◌+◌, ◌*◌, arith}
use Rattle.h5w_ea_index.proofs.LoadingLemmas.{loading_skip, no_secondary}
use Rattle.h5w_ea_index.proofs.load.load_secondary.Goals as goal

pub returns-then-sblock-lt-FIRST_SECONDARY-clause-loading : goal.returns-then-sblock-lt-FIRST_SECONDARY-clause-loading
returns-then-sblock-lt-FIRST_SECONDARY-clause-loading g c =
    loading_skip c.args.header (65 * c.args.sblock) (65 * c.args.sblock + 1) c.args.cache.now (omega arith) (no_secondary c.args.sblock c.if-sblock-lt-FIRST_SECONDARY.true) c.requires.loading
