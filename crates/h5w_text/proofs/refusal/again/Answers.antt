use Rattle.std.specs.Prelude.{codes}
use Rattle.h5w_text.proofs.HexLemmas.{four_numbers}
use Rattle.h5w_text.proofs.refusal.again.Goals as goal

pub returns : goal.returns
returns c = four_numbers c.with_numbers.result c.args.out.now.items c.with_numbers.new.out.items (codes "error again") c.args.attempts c.args.at c.args.first c.args.last c.with_numbers.ensures
