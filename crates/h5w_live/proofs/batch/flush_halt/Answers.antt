use Rattle.std.proofs.Common.{rules}
use Rattle.h5w_live.proofs.BatchLemmas.{no_other}
use Rattle.h5w_live.proofs.batch.flush_halt.Goals as goal

pub unreachable-requires : goal.unreachable-requires
unreachable-requires c = no_other c.args.error c.requires (search rules) (search rules) (search rules)
