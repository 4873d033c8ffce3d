use Rattle.std.proofs.Common.{Ok, ap}
use Rattle.h5w_space.specs.declared.Full.{Full}
use Rattle.h5w_stopping.proofs.WritingLemmas.{amid_flush, full_space, no_other_flush}
use Rattle.h5w_stopping.proofs.writing.flush.Goals as goal

pub returns-in-Flushing-clause-amid : goal.returns-in-Flushing-clause-amid
returns-in-Flushing-clause-amid c = λ o lines f.
    amid_flush o lines c.args.world.now c.step.new.self f c.in-Ok.reply c.in-Flushing.pieces c.in-Flushing.is c.step.ensures.rules c.step.ensures.named c.in-Ok.ensures.logged c.in-Ok.ensures.lawful

pub returns-in-FullSpace-clause-refused : goal.returns-in-FullSpace-clause-refused
returns-in-FullSpace-clause-refused c = λ o lines number f.
    let full : Full = record { at = c.in-FullSpace.at; size = c.in-FullSpace.size; limit = c.in-FullSpace.limit } in
    full_space o lines c.args.world.now c.step.new.self f c.in-Ok.reply number full c.in-FullSpace.is (c.in-Ok.ensures.full full (ap Ok c.in-FullSpace.is)) c.in-Ok.ensures.lawful

pub unreachable-requires : goal.unreachable-requires
unreachable-requires c =
    no_other_flush c.requires.0 c.requires.1 c.args.world.now c.step.new.self c.requires.2 c.in-Ok.reply c.in_default-reply.not-Flushing c.in_default-reply.not-FullSpace c.in-Ok.ensures.lawful
