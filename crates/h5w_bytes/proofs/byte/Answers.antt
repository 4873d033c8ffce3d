use Rattle.std.proofs.Common.{sym}
use Rattle.h5w_model.proofs.NumberLemmas.{field-byte}
use Rattle.h5w_bytes.proofs.byte.Goals as goal

pub returns : goal.returns
returns c = sym (field-byte c.args.b.now c.args.at c.requires)
