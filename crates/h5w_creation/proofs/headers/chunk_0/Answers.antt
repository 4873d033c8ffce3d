use Rattle.std.proofs.Common.{arith}
use Rattle.h5w_creation.proofs.HeaderLemmas.{messages_short}
use Rattle.h5w_creation.proofs.headers.chunk_0.Goals as goal

pub encode-len-requires-clause-size : goal.encode-len-requires-clause-size
encode-len-requires-clause-size c = omega (arith, messages_short c.args.list.now c.requires)
