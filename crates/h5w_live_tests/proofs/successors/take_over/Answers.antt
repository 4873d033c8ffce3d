use Rattle.std.proofs.Common.{◌∙◌, rules, refl, true}
use Rattle.h5w_shared.proofs.ThreadLemmas.{through_seats}
use Rattle.h5w_live_tests.proofs.successors.take_over.Goals as goal

pub returns : goal.returns
returns g c =
    let same = through_seats.same true _ c.begin_one.new.image.seat.ghost_name c.args.seat.now c.begin_one.new.image.seat.now (c.begin_one.ensures.looked.still refl) in
    let name = same.0 in
    let there = same.1 ∙ c.requires in
    search (rules, name, there)
