use Rattle.h5w_live.proofs.SecondLemmas.{followed_begins}
use Rattle.h5w_live.proofs.seconds.second_judged.Goals as goal

pub returns-clause-agrees : goal.returns-clause-agrees
returns-clause-agrees c = λ s fs j.
    c.in_ok-lines.ensures.agrees s c.args.seat.now fs j (followed_begins c.args.seat.now c.meet.new.self c.args.second.follow c.note.new.self c.note.result c.meet.ensures.same c.note.ensures.same c.note.ensures.note c.meet.ensures.begins c.note.ensures.mirrored)

pub returns-clause-seats : goal.returns-clause-seats
returns-clause-seats c = λ s fs j.
    c.in_ok-lines.ensures.seats s c.args.seat.now fs j (followed_begins c.args.seat.now c.meet.new.self c.args.second.follow c.note.new.self c.note.result c.meet.ensures.same c.note.ensures.same c.note.ensures.note c.meet.ensures.begins c.note.ensures.mirrored)
