use Rattle.std.proofs.Common.{◌∙◌}
use Rattle.h5w_bytes.proofs.Links.{little_number-field}
use Rattle.h5w_bytes.proofs.number.Goals as goal

pub returns : goal.returns
returns c = c.read_uint.ensures ∙ little_number-field c.args.b.now c.args.at c.args.width c.requires.inside
