use Rattle.h5w_packing_laws.proofs.SourceLemmas.{valid_source}
use Rattle.h5w_packing_laws.proofs.valid_source.Goals as goal

pub returns : goal.returns
returns c = valid_source
