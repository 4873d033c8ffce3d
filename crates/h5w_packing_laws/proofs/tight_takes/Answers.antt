use Rattle.h5w_packing_laws.proofs.TightLemmas.{took_tight}
use Rattle.h5w_packing_laws.proofs.tight_takes.Goals as goal

pub returns : goal.returns
returns c = took_tight
