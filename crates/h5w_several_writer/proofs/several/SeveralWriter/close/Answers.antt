use Rattle.std.proofs.Common.{subst}
use Rattle.h5w_several_writer_laws.specs.Sessions.{AreParts, AreSessions, Sessions}
use Rattle.h5w_several_writer.proofs.FlowLemmas.{close_pends}
use Rattle.h5w_several_writer.proofs.StandLemmas.{close_stands}
use Rattle.h5w_several_writer.proofs.several.SeveralWriter.close.Goals as goal

pub returns-clause-stands : goal.returns-clause-stands
returns-clause-stands c =
    let e = c.clear.ensures in
    let parts = subst (λ (S : Sessions). AreParts S S.parts) c.self.view_is c.self.invariant.sessions.each in
    close_stands c.clear.result c.args.self.now _ e.going e.idle parts e.reads e.closed

pub returns-clause-pending : goal.returns-clause-pending
returns-clause-pending c = close_pends c.clear.result c.args.self.now _ (subst AreSessions c.self.view_is c.self.invariant.sessions) c.clear.ensures.closed
