use Rattle.std.proofs.Common.{drop, length, ap, ◌∙◌, arith}
use Rattle.h5w_writer.specs.Sessions.{Session}
use Rattle.h5w_shared.specs.Seats.{SeatView}
use Rattle.h5w_writer.proofs.StateLemmas.{oldest}
use Rattle.h5w_live.proofs.WritingLemmas.{shows_next, stands_done, writes_failed}
use Rattle.h5w_live.proofs.writing.show.Goals as goal
use Rattle.h5w_writer_laws.proofs.PieceLemmas.{after_pending, no_piece}

pub returns-in-Err-clause-left : goal.returns-in-Err-clause-left
returns-in-Err-clause-left g c = λ f w.
    writes_failed f c.args.session.now c.loop-w.session c.failed.new.self c.args.seat.now c.loop-w.seat c.write.new.self c.loop-w.invariant.1 c.in-Err.ensures.refused c.failed.ensures.session c.failed.ensures.stands w

pub returns-in-Err-clause-stopped : goal.returns-in-Err-clause-stopped
returns-in-Err-clause-stopped g c = (ap (λ (s : Session). s.stopped) c.failed.ensures.session, ap (λ (s : Session). s.pending) c.failed.ensures.session)

pub loop-w-smaller : goal.loop-w-smaller
loop-w-smaller g c =
    let t = c.loop-w.session in
    let w = c.in-Some.w.now in
    let ws = drop 1 t.pending in
    let pending = oldest w t.pending c.in-Some.ensures.oldest in
    omega (arith, ap length pending, ap length (after_pending t c.written.new.self ws (c.written.ensures.piece w ws pending)))

pub loop-w-preserved : goal.loop-w-preserved
loop-w-preserved g c =
    let t = c.loop-w.session in
    let w = c.in-Some.w.now in
    let ws = drop 1 t.pending in
    let pending = oldest w t.pending c.in-Some.ensures.oldest in (
      ap (λ (y : SeatView). y.image) c.in-Ok.ensures.wrote ∙ c.loop-w.invariant.0,
      shows_next c.args.session.now t c.written.new.self c.args.seat.now c.loop-w.seat c.write.new.self w ws c.loop-w.invariant.1 pending (c.written.ensures.piece w ws pending) c.in-Ok.ensures.wrote
          (c.written.ensures.stands w ws pending),
    )

pub returns-clause-stands : goal.returns-clause-stands
returns-clause-stands g c =
    stands_done c.args.session.now c.loop-w.session c.args.seat.now c.loop-w.seat c.loop-w.invariant.1 (no_piece c.loop-w.session.pending c.in_default.ensures.oldest)
