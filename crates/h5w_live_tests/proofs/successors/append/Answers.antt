use Rattle.std.proofs.Common.{rules, true}
use Rattle.h5w_shared.proofs.ThreadLemmas.{through_seats}
use Rattle.h5w_live_tests.proofs.successors.append.Goals as goal

pub returns : goal.returns
returns g c =
    let same = through_seats.same true _ c.append.new.image.seat.ghost_name c.args.seat.now c.append.new.image.seat.now c.append.ensures.image in
    let name = same.0 in
    let image = same.1 in
    search (rules, name, image)
