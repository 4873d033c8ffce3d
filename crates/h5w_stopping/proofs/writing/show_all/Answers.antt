use Rattle.std.proofs.Common.{◌≡◌, length, arith}
use Rattle.h5w_stopping.proofs.ShowingLemmas.{shows_all, shows_more, shows_none}
use Rattle.h5w_stopping.proofs.writing.show_all.Goals as goal

pub loop-init : goal.loop-init
loop-init c = shows_none c.args.world.now

pub loop-preserved : goal.loop-preserved
loop-preserved c =
    shows_more c.args.world.now c.loop.world c.step.new.self c.loop.counter c.in-Ok.field-0 c.requires.0 c.requires.1 c.loop.invariant (omega arith) c.step.ensures.rules c.step.ensures.named c.in-Ok.ensures.logged
    c.in-Ok.ensures.lawful

pub returns : goal.returns
returns c =
    let all : c.loop.counter ≡ length c.args.world.now.session.pending = omega arith in
    shows_all c.args.world.now c.loop.world c.loop.counter all c.loop.invariant
