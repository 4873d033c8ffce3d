use Rattle.std.proofs.Common.{◌<◌, arith}
use Rattle.h5w_core.proofs.CreationLemmas.{shows_more, some_left, total}
use Rattle.h5w_core.proofs.world.show_all.Goals as goal

pub loop-init : goal.loop-init
loop-init c = (λ o start. start, c.requires, c.pending-pieces.ensures)

pub loop-preserved : goal.loop-preserved
loop-preserved c =
    let e = c.show.ensures in (
      λ o start.
          let few : c.loop.counter < total o = omega (arith, c.loop-test.true, c.loop.invariant.2, some_left o 0 c.args.session.now c.args.image.now start) in
          shows_more o c.loop.counter c.loop.session c.show.new.session c.loop.image c.show.new.image few (c.loop.invariant.0 o start)
          (λ w ws pending. let p = e.piece w ws pending in (p.1, p.2, e.stands w ws pending)) e.room,
      e.room,
      c.loop.invariant.2,
    )
