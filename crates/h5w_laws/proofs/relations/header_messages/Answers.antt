use Rattle.h5w_laws.proofs.DatasetReads.{finds_messages}
use Rattle.h5w_laws.proofs.relations.header_messages.Goals as goal

pub returns : goal.returns
returns c = finds_messages
