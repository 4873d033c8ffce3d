use Rattle.std.proofs.Common.{ap, rules}
use Rattle.h5w_appending.proofs.InputLemmas.{input_of}
use Rattle.h5w_appending.proofs.appending.take_source.Goals as goal

pub returns-clause-takes : goal.returns-clause-takes
returns-clause-takes g c =
    input_of c.args.target.faults c.args.target.file.now c.args.session.now c.take_lines.new.session _ _ _ _ c.new-lines.result.intake.now _ _ _ _ c.take_lines.result c.take_lines.ensures.takes (search rules) (ap g.S.Source.view c.new-lines.ensures.source) (ap g.S.Source.view (search rules))
