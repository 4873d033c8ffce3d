use Rattle.std.proofs.Common.{subst}
use Rattle.h5w_writer.specs.Sessions.{IsSession}
use Rattle.h5w_writer.proofs.state.WriterCore.stay_within.Goals as goal

pub returns-then-is_some-clause-is : goal.returns-then-is_some-clause-is
returns-then-is_some-clause-is g c = subst IsSession c.self.view_is c.self.invariant.0
