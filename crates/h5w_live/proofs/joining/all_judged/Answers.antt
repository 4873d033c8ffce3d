use Rattle.std.proofs.Common.{◌≡◌, ◌+◌, rules, None, refl, subst}
use Rattle.h5w_shared.specs.Seats.{SeatView}
use Rattle.h5w_live.specs.Reports.{TellPart, run_of}
use Rattle.h5w_live.proofs.JoinLemmas.{agree_alone, agree_both, at_seat, beside_of, first_part, none_beside, second_part, tell_alone, tell_both}
use Rattle.h5w_live.proofs.joining.all_judged.Goals as goal

pub judged-requires-clause-joined : goal.judged-requires-clause-joined
judged-requires-clause-joined c =
    let j = c.requires.joined in
    (j.0, j.1, first_part c.args.image.now j.0 c.args.seat.now j.1 c.args.ended c.args.beside j.2)

pub returns-in_default-clause-agrees : goal.returns-in_default-clause-agrees
returns-in_default-clause-agrees c = λ s fs j.
    let none : c.args.beside ≡ None = search (rules, c.in_default.is) in
    agree_alone (run_of j.file j.attempts (j.readers + j.mirrors) j.calls j.batches fs) j.batches j.readers j.mirrors c.in-Ok.lines.items refl j.flushed.agree refl
    (none_beside c.args.image.now s c.args.seat.now fs c.args.ended c.args.beside j none)
    (c.in-Ok.ensures.agrees s fs (first_part c.args.image.now s c.args.seat.now fs c.args.ended c.args.beside j))

pub returns-in_default-clause-seats : goal.returns-in_default-clause-seats
returns-in_default-clause-seats c = λ s fs j.
    let none : c.args.beside ≡ None = search (rules, c.in_default.is) in
    tell_alone j.file j.attempts j.readers j.mirrors j.calls c.args.seat.now.seen c.in-Ok.lines.items (none_beside c.args.image.now s c.args.seat.now fs c.args.ended c.args.beside j none)
    (c.in-Ok.ensures.seats s fs (first_part c.args.image.now s c.args.seat.now fs c.args.ended c.args.beside j))

pub returns-in-Ok-append-clause-agrees : goal.returns-in-Ok-append-clause-agrees
returns-in-Ok-append-clause-agrees c = λ s fs j.
    let i = c.args.image.now in
    let w = c.judged.new.seat in
    let k = at_seat i s c.args.seat.now fs c.args.ended c.args.beside j w c.in-Ok.ensures.same in
    agree_both (run_of j.file j.attempts (j.readers + j.mirrors) j.calls j.batches fs) j.batches j.readers j.mirrors c.in-Ok.lines.items c.in-Ok-second_judged.judged.1.items c.append.new.self.items refl j.flushed.agree refl
    (c.in-Ok.ensures.agrees s fs (first_part i s c.args.seat.now fs c.args.ended c.args.beside j))
    (c.in-Ok-second_judged.ensures.agrees s fs (second_part i s w fs c.args.ended c.args.beside k c.in-Some.field-0 (beside_of i s w fs c.args.ended c.args.beside k c.in-Some.field-0 c.in-Some.is)))
    (search rules)

pub returns-in-Ok-append-clause-seats : goal.returns-in-Ok-append-clause-seats
returns-in-Ok-append-clause-seats c = λ s fs j.
    let i = c.args.image.now in
    let w = c.judged.new.seat in
    let k = at_seat i s c.args.seat.now fs c.args.ended c.args.beside j w c.in-Ok.ensures.same in
    let first = first_part i s c.args.seat.now fs c.args.ended c.args.beside j in
    tell_both j.file j.attempts j.readers j.mirrors j.calls c.args.seat.now.seen c.in-Ok.lines.items c.in-Ok-second_judged.judged.1.items c.append.new.self.items (c.in-Ok.ensures.agrees s fs first).count
    (c.in-Ok.ensures.seats s fs first)
    (subst (λ (v : SeatView). TellPart j.file j.attempts j.readers j.mirrors j.calls v.seen c.in-Ok-second_judged.judged.1.items) c.in-Ok.ensures.same
    (c.in-Ok-second_judged.ensures.seats s fs (second_part i s w fs c.args.ended c.args.beside k c.in-Some.field-0 (beside_of i s w fs c.args.ended c.args.beside k c.in-Some.field-0 c.in-Some.is))))
    (search rules)
