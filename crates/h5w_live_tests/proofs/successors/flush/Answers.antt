use Rattle.std.proofs.Common.{rules, true}
use Rattle.h5w_shared.proofs.ThreadLemmas.{through_seats}
use Rattle.h5w_live_tests.proofs.successors.flush.Goals as goal

pub returns : goal.returns
returns g c =
    let same = through_seats.same true _ c.flush.new.image.seat.ghost_name c.args.seat.now c.flush.new.image.seat.now c.flush.ensures.image in
    let name = same.0 in
    let image = same.1 in
    search (rules, name, image)
