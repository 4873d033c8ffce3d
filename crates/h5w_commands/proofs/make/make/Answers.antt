use Rattle.h5w_commands.proofs.MakeLemmas.{makes_done, makes_nothing}
use Rattle.h5w_commands.proofs.make.make.Goals as goal

pub returns-in-Ok-clause-makes : goal.returns-in-Ok-clause-makes
returns-in-Ok-clause-makes g c =
    makes_done c.args.count c.args.seed c.in-Ok.ensures.0 c.in-Ok.line.items c.deref.result.now c.say.result c.in-Ok.ensures.1 c.in-Ok.ensures.2 c.deref.ensures.value c.say.ensures

pub returns-in-Err-clause-makes : goal.returns-in-Err-clause-makes
returns-in-Err-clause-makes g c = makes_nothing c.args.count c.args.seed c.say_line.result c.say_line.ensures
