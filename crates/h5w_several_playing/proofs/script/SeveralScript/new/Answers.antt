use Rattle.h5w_several_playing.proofs.StartLemmas.{first_inside, new_fits, new_script, new_spelling}
use Rattle.h5w_several_playing.proofs.script.SeveralScript.new.Goals as goal

pub columns-columns-requires : goal.columns-columns-requires
columns-columns-requires c = first_inside c.in_ok-world.world c.args.names.now c.args.options.now c.args.attempts 0 c.in_ok-world.ensures.rules c.requires.names

pub invariant_of-result : goal.invariant_of-result
invariant_of-result c =
    let w = c.in_ok-world in
    new_script w.world c.args.names.now c.args.options.now c.args.attempts c.columns-columns.result w.ensures.rules c.requires.names c.columns-columns.ensures.value c.columns-columns.ensures.some

pub returns-clause-fits : goal.returns-clause-fits
returns-clause-fits c =
    let w = c.in_ok-world in
    new_fits w.world c.args.names.now c.args.options.now c.args.attempts c.columns-columns.result w.ensures.rules w.ensures.fits

pub returns-clause-spelling : goal.returns-clause-spelling
returns-clause-spelling c =
    let w = c.in_ok-world in
    new_spelling w.world c.args.names.now c.args.options.now c.args.attempts c.columns-columns.result w.ensures.rules c.requires.names c.columns-columns.ensures.value
