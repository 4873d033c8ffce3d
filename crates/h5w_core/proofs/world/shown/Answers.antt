use Rattle.std.proofs.Common.{ℕ, ap, length, arith, subst}
use Rattle.h5w_writer.specs.Sessions.{Session}
use Rattle.h5w_core.specs.Creation.{Creates}
use Rattle.h5w_core.proofs.CreationLemmas.{begins}
use Rattle.h5w_core.proofs.world.shown.Goals as goal

pub show_all-requires : goal.show_all-requires
show_all-requires c =
    let room = c.in_ok-make_room.ensures in
    record { pieces = omega (arith, c.pending.ensures, room.pieces); end = omega (arith, c.end.ensures, room.end) }

pub returns : goal.returns
returns c = λ o creating.
    let room = c.in_ok-make_room.ensures in
    let start = begins o c.args.session.now c.in_ok-image.image c.make_room.new.self creating.are creating.created creating.budget creating.stands c.in_ok-image.ensures room.same (omega (arith, c.pending.ensures, room.pieces)) (omega (arith, c.end.ensures, room.end)) in
    subst (λ (n : ℕ). Creates o n c.show_all.new.session c.show_all.new.image) (ap (λ (x : Session). length x.pending) creating.created.session) (c.show_all.ensures o start)
