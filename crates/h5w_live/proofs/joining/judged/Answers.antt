use Rattle.std.proofs.Common.{Err, ap, ◌∙◌, subst}
use Rattle.h5w_shared.specs.Seats.{SeatView}
use Rattle.h5w_shared.specs.Turns.{StartsWith}
use Rattle.h5w_live.proofs.JoinLemmas.{agree, images, none_strays, seats_told, stray_image}
use Rattle.h5w_live.proofs.joining.judged.Goals as goal

pub meet_all-requires-clause-notes : goal.meet_all-requires-clause-notes
meet_all-requires-clause-notes c =
    images c.args.image.now c.requires.joined.0 c.args.seat.now c.requires.joined.1 c.args.ended c.requires.joined.2 c.in-Ok.field-0 c.in-Ok.is

pub meet-requires-clause-note : goal.meet-requires-clause-note
meet-requires-clause-note c =
    stray_image c.args.image.now c.requires.joined.0 c.args.seat.now c.requires.joined.1 c.args.ended c.requires.joined.2 c.in-Err-Stray.note (c.in-Err-Stray.is ∙ ap Err c.in-Err-Stray.field-0-is)

pub unreachable-requires : goal.unreachable-requires
unreachable-requires c =
    none_strays c.args.image.now c.requires.joined.0 c.args.seat.now c.requires.joined.1 c.args.ended c.requires.joined.2 c.in-Err-Stray.note (c.in-Err-Stray.is ∙ ap Err c.in-Err-Stray.field-0-is)
    (subst (λ (s : SeatView). StartsWith s.seen c.in-Err-Stray.note.seen) c.meet.ensures.same c.meet.ensures.begins)

pub returns-in-Ok-clause-agrees : goal.returns-in-Ok-clause-agrees
returns-in-Ok-clause-agrees c = λ s fs j. agree c.args.image.now s c.args.seat.now fs c.args.ended j c.in-Ok.field-0 c.in-Ok.is c.meet_all.ensures.begins

pub returns-in-Ok-clause-seats : goal.returns-in-Ok-clause-seats
returns-in-Ok-clause-seats c = λ s fs j. seats_told c.args.image.now s c.args.seat.now fs c.args.ended j c.in-Ok.field-0 c.in-Ok.is c.meet_all.ensures.begins
