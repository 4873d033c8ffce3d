use Rattle.h5w_reader_laws.proofs.ValueLemmas.{reads_values}
use Rattle.h5w_reader_laws.proofs.headline.reads_values.Goals as goal

pub returns : goal.returns
returns c = reads_values
