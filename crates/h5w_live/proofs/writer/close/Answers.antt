use Rattle.std.proofs.Common.{rules}
use Rattle.h5w_live.proofs.EndLemmas.{closed_after, closed_last}
use Rattle.h5w_live.proofs.writer.close.Goals as goal

pub returns-clause-closed : goal.returns-clause-closed
returns-clause-closed g c = λ f most done lines h.
    closed_after f most done c.args.session.now c.close.new.self c.show.new.session c.args.seat.now c.show.new.seat lines h (search rules) (search rules) (search rules) c.in_ok-show.ensures.session c.in_ok-show.ensures.seat c.in_ok-show.ensures.stands

pub returns-clause-last : goal.returns-clause-last
returns-clause-last g c = closed_last c.args.session.now c.close.new.self c.args.seat.now c.show.new.seat (search rules) c.in_ok-show.ensures.seat
