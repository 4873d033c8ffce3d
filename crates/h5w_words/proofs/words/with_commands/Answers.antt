use Rattle.clap.specs.Words.{app_of}
use Rattle.h5w_words.proofs.WordLemmas.{one_more_known}
use Rattle.h5w_words.proofs.words.with_commands.Goals as goal

pub loop-each-preserved : goal.loop-each-preserved
loop-each-preserved c =
    one_more_known (app_of c.args.command) _ c.in-Ok.more _ c.args.table.now c.loop-each.each-index _ c.loop-each-test.true c.loop-each.invariant c.in-Ok-subcommand.ensures c.in-Ok.ensures.shape c.in-Ok.ensures.local
