use Rattle.h5w_input.proofs.LineLemmas.{takes_numbers}
use Rattle.h5w_input.proofs.lines.Lines.take_numbers.Goals as goal

pub returns-clause-taken : goal.returns-clause-taken
returns-clause-taken g c = λ is.
    takes_numbers c.args.columns c.take_numbers.new.values.items (g.S.Source.view c.args.self.now.source.now) c.args.self.now.intake.now c.take_numbers.new.self (c.take_numbers.ensures.taken is)
