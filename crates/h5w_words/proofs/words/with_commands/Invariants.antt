use Rattle.std.proofs.Common.{◌≡◌, false, take}
use Rattle.clap.specs.Words.{app_of}
use Rattle.h5w_words.specs.Arguments.{has_globals}
use Rattle.h5w_words.specs.Commands.{with_known}
use Rattle.h5w_words.proofs.words.with_commands.Given as goal

abbrev pub invariant-loop-each : goal.invariant-loop-each
invariant-loop-each l = (app_of l.made ≡ with_known (app_of l.initial.made) (take l.each-index l.table)) × (has_globals l.made ≡ false)
