use Rattle.h5w_several_core.specs.Worlds.{rules_of}
use Rattle.h5w_several_playing.proofs.AloneLemmas.{one_script}
use Rattle.h5w_several_playing.proofs.script.SeveralScript.of_one.Goals as goal

pub invariant_of-result : goal.invariant_of-result
invariant_of-result c = one_script (rules_of c.args.world) c.columns-columns.result c.requires c.columns-columns.ensures.some c.columns-columns.ensures.value
