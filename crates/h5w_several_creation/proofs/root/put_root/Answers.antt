use Rattle.std.proofs.Common.{arith}
use Rattle.h5w_several_creation.proofs.SetLemmas.{root_fits}
use Rattle.h5w_several_creation.proofs.root.put_root.Goals as goal

pub encode-len-requires-clause-room : goal.encode-len-requires-clause-room
encode-len-requires-clause-room c = omega (arith, root_fits c.args.list.now c.requires.size)
