use Rattle.std.proofs.Common.{◌≡◌, map, take}
use Rattle.clap.specs.Words.{app_of}
use Rattle.h5w_words.specs.Arguments.{has_globals, rule_named, with_rules}
use Rattle.h5w_words.proofs.arguments.with_arguments.Given as goal

abbrev pub invariant-loop-argument : goal.invariant-loop-argument
invariant-loop-argument l = (app_of l.made ≡ with_rules (app_of l.initial.made) (map rule_named (take l.argument-index l.table))) × (has_globals l.made ≡ has_globals l.initial.made)
