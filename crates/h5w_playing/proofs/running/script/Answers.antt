use Rattle.std.proofs.Common.{ap, rules}
use Rattle.h5w_playing.proofs.PlayLemmas.{runs_of}
use Rattle.h5w_playing.proofs.running.script.Goals as goal

pub returns-clause-runs : goal.returns-clause-runs
returns-clause-runs g c = λ F f.
    runs_of _ F _ _ _ _ _ c.new-lines.result.intake.now _ _ (c.answer_lines.ensures.runs F f) (search rules) (ap g.S.Source.view c.new-lines.ensures.source)
    (ap g.S.Source.view (search rules))
