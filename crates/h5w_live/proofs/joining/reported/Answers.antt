use Rattle.std.proofs.Common.{◌+◌, ap, sym, ◌∙◌, subst}
use Rattle.h5w_shared.specs.Seats.{SeatView}
use Rattle.h5w_live.specs.Writing.{HasFlushed}
use Rattle.h5w_live.proofs.JoinLemmas.{reported}
use Rattle.h5w_live.proofs.joining.reported.Goals as goal

pub returns : goal.returns
returns g c = λ j.
    let same = c.in-Ok.ensures.same in
    let h : HasFlushed j.file j.most j.batches c.args.session.now c.all_judged.new.seat c.args.flushes.items = subst (λ (v : SeatView). HasFlushed j.file j.most j.batches c.args.session.now v c.args.flushes.items) (sym same) j.flushed in
    reported j.file j.batches j.attempts (j.readers + j.mirrors) j.calls c.shut.new.session c.in-Ok-shut.seat c.args.flushes.items (c.in-Ok-shut.ensures.closed j.file j.most j.batches c.args.flushes.items h)
    c.args.seat.seen (c.in-Ok-shut.ensures.last ∙ ap (λ (v : SeatView). v.seen) same) c.in_ok-journal.journal c.from_vec.result c.from_vec-2.result c.in-Ok.judged.0.items
    c.in_ok-journal.ensures c.from_vec.ensures c.from_vec-2.ensures (c.in-Ok.ensures.agrees c.args.session.now c.args.flushes.items j) (c.in-Ok.ensures.seats c.args.session.now c.args.flushes.items j)
