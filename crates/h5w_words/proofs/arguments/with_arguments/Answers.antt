use Rattle.h5w_words.proofs.WordLemmas.{one_more}
use Rattle.h5w_words.proofs.arguments.with_arguments.Goals as goal

pub loop-argument-preserved : goal.loop-argument-preserved
loop-argument-preserved c =
    one_more c.args.command _ _ c.arg.result c.args.table.now c.loop-argument.argument-index _ c.loop-argument-test.true c.loop-argument.invariant c.in-Ok.ensures c.arg.ensures.rule c.arg.ensures.local
