use Rattle.std.proofs.Common.{ap, rules}
use Rattle.h5w_stopping.proofs.TakingLemmas.{all_read, all_refused}
use Rattle.h5w_stopping.proofs.stopping.script.Goals as goal

pub returns-clause-done : goal.returns-clause-done
returns-clause-done g c = λ o f.
    all_read o c.take_lines.new.world c.take_lines.result _ _ _ _ c.new-lines.result.intake.now (c.take_lines.ensures.done o f) (search rules) (ap g.S.Source.view c.new-lines.ensures.source) (ap g.S.Source.view (search rules))

pub returns-clause-refused : goal.returns-clause-refused
returns-clause-refused g c = λ o f.
    all_refused o c.take_lines.result _ _ _ _ c.new-lines.result.intake.now (c.take_lines.ensures.refused o f) (search rules) (ap g.S.Source.view c.new-lines.ensures.source) (ap g.S.Source.view (search rules))
