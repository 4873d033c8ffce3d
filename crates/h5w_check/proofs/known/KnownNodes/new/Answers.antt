use Rattle.std.proofs.Common.{ap}
use Rattle.std.specs.BTreeMap.{is_at}
use Rattle.std.specs.Map.{lookup}
use Rattle.h5w_check.specs.Known.{name_cmp}
use Rattle.h5w_check.proofs.known.KnownNodes.new.Goals as goal

pub returns : goal.returns
returns c depth place n = ap (lookup (is_at (name_cmp (depth, (place, n))))) c.new.ensures.empty
