use Rattle.std.proofs.Common.{rules, true}
use Rattle.h5w_shared.proofs.ThreadLemmas.{through_seats}
use Rattle.h5w_live.proofs.WritingLemmas.{stays_seated}
use Rattle.h5w_live.proofs.seated.flush.Goals as goal

pub returns-clause-seat : goal.returns-clause-seat
returns-clause-seat g c =
    let name = (through_seats.same true _ c.flush.new.image.pen.ghost_name c.args.seat.now c.flush.new.image.pen.now c.flush.ensures.image).0 in
    let stays = stays_seated _ c.flush.new.image.pen.ghost_name c.args.seat.now c.flush.new.image.pen.now c.flush.ensures.image in
    search (rules, name, stays)
