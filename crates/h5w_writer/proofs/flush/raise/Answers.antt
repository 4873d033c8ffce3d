use Rattle.std.proofs.Common.{inr}
use Rattle.h5w_writer.proofs.flush.raise.Goals as goal

pub encode-requires : goal.encode-requires
encode-requires c = inr c.requires
