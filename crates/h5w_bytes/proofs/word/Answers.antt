use Rattle.std.proofs.Common.{◌∙◌}
use Rattle.h5w_bytes.proofs.Links.{little_number-field}
use Rattle.h5w_bytes.proofs.word.Goals as goal

pub returns : goal.returns
returns c = c.read_u32.ensures ∙ little_number-field c.args.b.now c.args.at 4 c.requires
