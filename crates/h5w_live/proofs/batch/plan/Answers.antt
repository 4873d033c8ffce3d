use Rattle.std.proofs.Common.{◌∙◌, Err, ap, sym, subst}
use Rattle.h5w_laws.proofs.ResultLemmas.{err_is}
use Rattle.h5w_writer.specs.Refusals.{flush_refusal}
use Rattle.h5w_live.specs.Writing.{HaltsFlush}
use Rattle.h5w_live.specs.declared.writing.Halt.TheVariants as halts
use Rattle.h5w_live.proofs.BatchLemmas.{flush_halts, plan_refused}
use Rattle.h5w_live.proofs.batch.plan.Goals as goal

pub flush_halt-requires : goal.flush_halt-requires
flush_halt-requires g c =
    let made = c.requires.created in
    plan_refused (flush_refusal c.args.session.now) c.in-Err.error c.requires.taken c.in-Err.ensures.causes (λ deep. c.flush.ensures.shallow made.0 made.1 made.2 (c.in-Err.is ∙ ap Err deep))

pub returns-in-Err-clause-refused : goal.returns-in-Err-clause-refused
returns-in-Err-clause-refused g c =
    subst (HaltsFlush c.args.session.now) (sym c.flush_halt.ensures.is)
    (flush_halts c.args.session.now c.in-Err.error (λ full same. c.flush.ensures.full full (c.in-Err.is ∙ ap Err same)) (λ full same. c.flush.ensures.bounds full (c.in-Err.is ∙ ap Err same)))

pub returns-in-Err-clause-failed : goal.returns-in-Err-clause-failed
returns-in-Err-clause-failed g c = λ same. c.flush.ensures.failed (c.in-Err.is ∙ ap Err (c.flush_halt.ensures.failed (err_is c.flush_halt.result halts.Failed same)))
