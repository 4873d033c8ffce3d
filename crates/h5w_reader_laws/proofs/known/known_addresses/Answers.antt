use Rattle.h5w_reader_laws.proofs.KnownLemmas.{known_addresses}
use Rattle.h5w_reader_laws.proofs.known.known_addresses.Goals as goal

pub returns : goal.returns
returns c = known_addresses
