use Rattle.std.proofs.Common.{◌∙◌}
use Rattle.h5w_check.proofs.known.KnownNodes.get.Goals as goal

pub returns : goal.returns
returns c = c.copied.ensures ∙ c.get.ensures.value
