use Rattle.std.proofs.Common.{rules, sym, subst}
use Rattle.std.specs.Prelude.{List, ◌++◌, ◌∷◌, []}
use Rattle.h5w_model.specs.declared.report.FlushLine.{FlushLine}
use Rattle.h5w_live.specs.Writing.{HasFlushed}
use Rattle.h5w_live.proofs.WriterLemmas.{empty_flushed}
use Rattle.h5w_live.proofs.writer.put_next.Goals as goal

pub returns-then-is_empty-clause-flushed : goal.returns-then-is_empty-clause-flushed
returns-then-is_empty-clause-flushed g c = λ f most done h. empty_flushed f most done c.args.values.now c.args.session.now c.args.seat.now c.args.lines.now.items (search rules) h

pub returns-in-Ok-push-clause-flushed : goal.returns-in-Ok-push-clause-flushed
returns-in-Ok-push-clause-flushed g c = λ f most done h.
    subst (λ (ls : List FlushLine). HasFlushed f most (done ++ c.args.values.now ∷ []) c.put.new.session c.put.new.seat ls) (sym c.in-Ok-push.ensures.items)
    (c.in-Ok.ensures.flushed f most done c.args.lines.now.items h)

pub returns-in-Ok-push-clause-accepted : goal.returns-in-Ok-push-clause-accepted
returns-in-Ok-push-clause-accepted g c = λ f most done h. c.in-Ok.ensures.accepted f most done c.args.lines.now.items h

pub returns-in-Err-clause-refused : goal.returns-in-Err-clause-refused
returns-in-Err-clause-refused g c = λ f most done h. c.in-Err.ensures.refused f most done c.args.lines.now.items h
