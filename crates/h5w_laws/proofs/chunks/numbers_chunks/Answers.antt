use Rattle.h5w_laws.proofs.NumberLemmas.{numbers_chunks}
use Rattle.h5w_laws.proofs.chunks.numbers_chunks.Goals as goal

pub returns : goal.returns
returns c = numbers_chunks
