use Rattle.std.proofs.Common.{ap, ◌∙◌}
use Rattle.h5w_shared.specs.Seats.{ImageId, SeatView}
use Rattle.h5w_live.proofs.EndLemmas.{created_flushed, has_room, some_pieces}
use Rattle.h5w_live.proofs.creating.show_created.Goals as goal

pub show-requires-clause-some : goal.show-requires-clause-some
show-requires-clause-some g c κs within =
    let made = c.requires.creates in
    some_pieces made.0 made.1 c.args.session.now made.2.created

pub returns-in-Ok-show-clause-created : goal.returns-in-Ok-show-clause-created
returns-in-Ok-show-clause-created g c = λ f most creating.
    let made = c.in-Ok.ensures.made in
    created_flushed f most c.args.session.now c.show.new.session c.reserve.new.self c.show.new.seat creating.is creating.created creating.stands
    (ap (λ (v : SeatView). v.image.start) made.same ∙ (ap (λ (x : ImageId). x.start) c.requires.image ∙ c.requires.start)) (ap (λ (v : SeatView). v.seen) made.same ∙ c.requires.seen)
    (has_room c.args.session.now c.args.seat.now c.reserve.new.self c.pending.result c.end.result c.pending.ensures c.end.ensures made)
    c.in-Ok-show.ensures.session c.in-Ok-show.ensures.seat c.in-Ok-show.ensures.stands
