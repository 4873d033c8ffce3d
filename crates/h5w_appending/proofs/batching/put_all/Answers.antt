use Rattle.std.proofs.Common.{sym, ◌∙◌}
use Rattle.h5w_appending.proofs.StoreLemmas.{puts_all, puts_halted, puts_late}
use Rattle.h5w_appending.proofs.batching.put_all.Goals as goal

pub returns-then-faults-target : goal.returns-then-faults-target
returns-then-faults-target g c =
    puts_late c.args.target.faults c.args.target.file.now c.args.session.now c.failed.new.self (λ e. c.if-faults-target.true (c.faults.ensures ∙ e)) (record { session = c.failed.ensures.session; stands = c.failed.ensures.stands })

pub returns-in-Ok : goal.returns-in-Ok
returns-in-Ok g c =
    puts_all c.args.target.faults c.args.target.file.now c.args.session.now c.put_pending.new.session (sym c.faults.ensures ∙ c.if-faults-target.false) c.in-Ok.ensures.puts c.in-Ok.ensures.all c.in-Ok.ensures.calm

pub returns-in-Err : goal.returns-in-Err
returns-in-Err g c =
    puts_halted c.args.target.faults c.args.target.file.now c.args.session.now c.put_pending.new.session c.failed-in-Err.new.self (sym c.faults.ensures ∙ c.if-faults-target.false) c.in-Err.ensures.failed
    (record { session = c.failed-in-Err.ensures.session; stands = c.failed-in-Err.ensures.stands })
