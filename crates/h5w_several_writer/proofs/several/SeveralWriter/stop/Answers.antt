use Rattle.std.proofs.Common.{sym, subst}
use Rattle.h5w_several_writer_laws.specs.Sessions.{Sessions}
use Rattle.h5w_several_writer_laws.specs.Standing.{StandsAll}
use Rattle.h5w_several_writer_laws.proofs.CallLemmas.{calls_stand}
use Rattle.h5w_several_writer.proofs.several.SeveralWriter.stop.Goals as goal

pub returns-clause-stands : goal.returns-clause-stands
returns-clause-stands c log stands = subst (λ (S : Sessions). StandsAll S log) (sym c.drop_pending.ensures.session) (calls_stand.stops c.args.self.now log stands)
