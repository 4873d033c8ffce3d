use Rattle.std.proofs.Common.{subst}
use Rattle.std.specs.Prelude.{IfErr, IfOk}
use Rattle.h5w_live.specs.Writing.{Explains, HasFlushed}
use Rattle.h5w_live.proofs.JoinLemmas.{joined}
use Rattle.h5w_live.proofs.joining.settled.Goals as goal

pub reported-requires-clause-joined : goal.reported-requires-clause-joined
reported-requires-clause-joined g c =
    let r = c.requires in
    joined c.args.image.now (record { seat = c.args.seat; session = c.args.session.now; lines = c.args.lines }) c.args.ended c.args.beside r c.in-Ok.flushes.items (subst (λ x. IfOk x (λ lines. HasFlushed r.file r.most r.batches c.args.session.now c.args.seat lines.items)) c.in-Ok.is r.put.flushed)

pub returns-in-Ok-reported-clause-reports : goal.returns-in-Ok-reported-clause-reports
returns-in-Ok-reported-clause-reports g c = λ r.
    c.in-Ok-reported.ensures
    (joined c.args.image.now (record { seat = c.args.seat; session = c.args.session.now; lines = c.args.lines }) c.args.ended c.args.beside r c.in-Ok.flushes.items (subst (λ x. IfOk x (λ lines. HasFlushed r.file r.most r.batches c.args.session.now c.args.seat lines.items)) c.in-Ok.is r.put.flushed))

pub returns-in-Err-clause-cause : goal.returns-in-Err-clause-cause
returns-in-Err-clause-cause g c = λ r. c.halted.ensures r.file r.most r.batches (subst (λ x. IfErr x (λ e. Explains r.file r.most r.batches e.0 e.1)) c.in-Err.is r.put.refused)
