use Rattle.std.proofs.Common.{arith}
use Rattle.h5w_commands.proofs.NewLemmas.{names_may}
use Rattle.h5w_commands.proofs.PlayLemmas.{by_one}
use Rattle.h5w_commands.proofs.play.play.Goals as goal

pub play_several-requires-clause-names : goal.play_several-requires-clause-names
play_several-requires-clause-names g c = (names_may c.args.names.now c.requires.names).0

pub play_several-requires-clause-named : goal.play_several-requires-clause-named
play_several-requires-clause-named g c = (names_may c.args.names.now c.requires.names).1

pub returns-then-len-eq1-clause-plays : goal.returns-then-len-eq1-clause-plays
returns-then-len-eq1-clause-plays g c = by_one c.args.options.now.name c.args.names.now c.args.options.now c.args.attempts c.play_alone.result _ _ _ _ (omega arith) c.play_alone.ensures.plays
