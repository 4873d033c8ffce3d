use Rattle.std.proofs.Common.{arith, length, rules}
use Rattle.h5w_model.specs.Headers.{msgs_bytes}
use Rattle.h5w_model.proofs.HeaderLemmas.{length-header_bytes}
use Rattle.h5w_creation.proofs.HeaderLemmas.{prefix_short}
use Rattle.h5w_packing.proofs.writing.put_root.Goals as goal

pub encode-len-requires-clause-room : goal.encode-len-requires-clause-room
encode-len-requires-clause-room c = omega (arith, length-header_bytes c.args.links.now, prefix_short (length (msgs_bytes c.args.links.now)), c.requires.size)

pub put_pieces-requires-clause-room : goal.put_pieces-requires-clause-room
put_pieces-requires-clause-room c = search (rules, length-header_bytes c.args.links.now, prefix_short (length (msgs_bytes c.args.links.now)))
