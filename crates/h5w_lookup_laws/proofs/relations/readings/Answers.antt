use Rattle.h5w_lookup_laws.proofs.ReadingLemmas.{finds_readings}
use Rattle.h5w_lookup_laws.proofs.relations.readings.Goals as goal

pub returns : goal.returns
returns c = finds_readings
