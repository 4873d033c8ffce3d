use Rattle.std.proofs.Common.{ap, arith, subst, sym}
use Rattle.h5w_writer.specs.Sessions.{Session}
use Rattle.h5w_writer.specs.Stands.{Stands}
use Rattle.h5w_live.proofs.BatchLemmas.{has_appended, taken_settled, taken_writes, writes_still}
use Rattle.h5w_live.proofs.batch.add.Goals as goal

pub show_early-requires-clause-early : goal.show_early-requires-clause-early
show_early-requires-clause-early g c =
    let h = c.requires.flushed in
    taken_settled c.args.session.now c.take.new.session c.args.values.now c.in-Ok.ensures.added h.4.settled

pub show_early-requires-clause-room : goal.show_early-requires-clause-room
show_early-requires-clause-room g c = record { pieces = omega (arith, c.in-Ok.ensures.room.pieces); end = c.in-Ok.ensures.room.end }

pub returns-in-Err-clause-left : goal.returns-in-Err-clause-left
returns-in-Err-clause-left g c = λ f w.
    let same = c.in-Err.ensures.kept in
    writes_still f c.args.session.now c.take.new.session c.args.seat.now c.take.new.seat w c.take.ensures.seat (ap (λ (s : Session). s.name) same) (ap (λ (s : Session). s.dataset) same)
    (λ log stands. subst (λ (s : Session). Stands s log) (sym same) stands)

pub returns-in-Ok-show_early-clause-added : goal.returns-in-Ok-show_early-clause-added
returns-in-Ok-show_early-clause-added g c = (
  c.take.new.session.pending,
  has_appended c.args.values.now c.args.session.now c.take.new.session c.show_early.new.session c.args.seat.now c.take.new.seat c.show_early.new.seat c.in-Ok.ensures.added c.in-Ok.ensures.stands c.take.ensures.seat
      c.in-Ok-show_early.ensures.session c.in-Ok-show_early.ensures.seat c.in-Ok-show_early.ensures.stands,
)

pub returns-in-Err-show_early-clause-left : goal.returns-in-Err-show_early-clause-left
returns-in-Err-show_early-clause-left g c = λ f w.
    c.in-Err-show_early.ensures.left f (taken_writes f c.args.session.now c.take.new.session c.args.seat.now c.take.new.seat c.args.values.now w c.in-Ok.ensures.added c.in-Ok.ensures.stands c.take.ensures.seat)
