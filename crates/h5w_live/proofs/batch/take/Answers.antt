use Rattle.std.proofs.Common.{◌∙◌, ap, sym, subst, Err}
use Rattle.h5w_laws.proofs.ResultLemmas.{err_is}
use Rattle.h5w_writer.specs.declared.refusal.AppendError.TheVariants as appending
use Rattle.h5w_writer.specs.Refusals.{append_refusal}
use Rattle.h5w_live.specs.Writing.{HaltsAppend}
use Rattle.h5w_live.specs.declared.writing.Halt.TheVariants as halts
use Rattle.h5w_live.proofs.BatchLemmas.{accepted_none, append_halts, not_busy, not_stopped, refused_as}
use Rattle.h5w_live.proofs.batch.take.Goals as goal

pub returns-in-Ok-clause-accepted : goal.returns-in-Ok-clause-accepted
returns-in-Ok-clause-accepted g c = accepted_none (append_refusal c.args.session.now c.args.values.now) c.append.result c.in-Ok.field-0 c.in-Ok.is c.append.ensures.refused

pub append_halt-requires-clause-stopped : goal.append_halt-requires-clause-stopped
append_halt-requires-clause-stopped g c = λ is.
    let h = c.requires.flushed in
    not_stopped h.0 h.1 h.2 c.args.session.now c.args.seat.now h.3 c.args.values.now h.4 c.requires.rows c.requires.some
    (refused_as (append_refusal c.args.session.now c.args.values.now) c.append.result appending.Stopped (λ e. cc) (λ e. cc) (c.in-Err.is ∙ ap Err is) c.append.ensures.causes)

pub append_halt-requires-clause-busy : goal.append_halt-requires-clause-busy
append_halt-requires-clause-busy g c = λ pending is.
    let h = c.requires.flushed in
    not_busy h.0 h.1 h.2 c.args.session.now c.args.seat.now h.3 c.args.values.now pending h.4 c.requires.rows c.requires.some
    (refused_as (append_refusal c.args.session.now c.args.values.now) c.append.result (appending.Busy pending) (λ e. cc) (λ e. cc) (c.in-Err.is ∙ ap Err is) c.append.ensures.causes)

pub returns-in-Err-clause-refused : goal.returns-in-Err-clause-refused
returns-in-Err-clause-refused g c =
    subst (HaltsAppend c.args.session.now c.args.values.now) (sym c.append_halt.ensures.is) (append_halts c.args.session.now c.args.values.now c.in-Err.error c.in-Err.ensures.causes)

pub returns-in-Err-clause-failed : goal.returns-in-Err-clause-failed
returns-in-Err-clause-failed g c = λ same. c.append.ensures.failed (c.in-Err.is ∙ ap Err (c.append_halt.ensures.failed (err_is c.append_halt.result halts.Failed same)))
