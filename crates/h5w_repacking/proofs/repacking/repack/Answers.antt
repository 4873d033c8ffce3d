use Rattle.std.proofs.Common.{◌∙◌}
use Rattle.h5w_repacking.proofs.EndLemmas.{repacks_done, repacks_told}
use Rattle.h5w_repacking.proofs.TellLemmas.{repack_tells}
use Rattle.h5w_repacking.proofs.repacking.repack.Goals as goal

pub returns-in-Ok-clause-repacks : goal.returns-in-Ok-clause-repacks
returns-in-Ok-clause-repacks g c =
    let done = c.in-Ok.ensures in
    repacks_done c.args.rewrite.file.now c.args.rewrite.to.now c.args.names.now c.args.rewrite.limit c.args.rewrite.ranges done.new_file c.deref.result.now c.say.result done.done (c.deref.ensures.value ∙ done.text_is) c.say.ensures

pub returns-clause-repacks : goal.returns-clause-repacks
returns-clause-repacks g c = repacks_told c.args.rewrite.file.now c.args.rewrite.to.now c.args.names.now c.args.rewrite.limit c.args.rewrite.ranges c.in-Err.error c.tell.result c.in-Err.ensures c.tell.ensures

pub returns-in-Ok-clause-tells : goal.returns-in-Ok-clause-tells
returns-in-Ok-clause-tells g c =
    let done = c.in-Ok.ensures in
    repack_tells c.args.rewrite.file.now c.args.rewrite.to.now c.args.names.now c.args.rewrite.limit c.args.rewrite.ranges c.say.result
    (repacks_done c.args.rewrite.file.now c.args.rewrite.to.now c.args.names.now c.args.rewrite.limit c.args.rewrite.ranges done.new_file c.deref.result.now c.say.result done.done (c.deref.ensures.value ∙ done.text_is) c.say.ensures)

pub returns-clause-tells : goal.returns-clause-tells
returns-clause-tells g c =
    repack_tells c.args.rewrite.file.now c.args.rewrite.to.now c.args.names.now c.args.rewrite.limit c.args.rewrite.ranges c.tell.result
    (repacks_told c.args.rewrite.file.now c.args.rewrite.to.now c.args.names.now c.args.rewrite.limit c.args.rewrite.ranges c.in-Err.error c.tell.result c.in-Err.ensures c.tell.ensures)
