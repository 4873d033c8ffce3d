use Rattle.std.proofs.Common.{arith}
use Rattle.h5w_model.proofs.HeaderLemmas.{size_width-within}
use Rattle.h5w_links.proofs.link.name_length_width.Goals as goal

pub returns-clause-high : goal.returns-clause-high
returns-clause-high c = let w = size_width-within c.args.flags in omega arith
