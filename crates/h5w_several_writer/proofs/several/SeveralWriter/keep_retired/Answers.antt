use Rattle.std.proofs.Common.{sym, subst}
use Rattle.h5w_several_writer_laws.specs.Sessions.{Sessions, keeping}
use Rattle.h5w_several_writer_laws.specs.Standing.{StandsAll}
use Rattle.h5w_several_writer_laws.proofs.CallLemmas.{calls_stand}
use Rattle.h5w_several_writer.proofs.CountedLemmas.{counted_keeping}
use Rattle.h5w_several_writer.proofs.several.SeveralWriter.keep_retired.Goals as goal

pub invariant_of-self : goal.invariant_of-self
invariant_of-self c = counted_keeping _ c.self.invariant

pub returns-clause-stands : goal.returns-clause-stands
returns-clause-stands c log stands = subst (λ (S : Sessions). StandsAll (keeping S) log) (sym c.self.view_is) (calls_stand.keeps c.args.self.now log stands)

pub returns-clause-sessions : goal.returns-clause-sessions
returns-clause-sessions c = (invariant_of-self c).sessions
