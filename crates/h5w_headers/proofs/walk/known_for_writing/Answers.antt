use Rattle.std.proofs.Common.{sym}
use Rattle.h5w_headers.proofs.KnownLemmas.{known_said}
use Rattle.h5w_headers.proofs.walk.known_for_writing.Goals as goal

pub returns-in-Ok : goal.returns-in-Ok
returns-in-Ok c = sym (rw c.in-Ok.is at (known_said c.args.msgs c.for_writing.result c.for_writing.ensures))

pub returns-in-Err : goal.returns-in-Err
returns-in-Err c = sym (rw c.in-Err.is at (known_said c.args.msgs c.for_writing.result c.for_writing.ensures))
