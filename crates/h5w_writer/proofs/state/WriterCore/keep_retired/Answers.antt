use Rattle.std.proofs.Common.{true, ap, sym, subst, refl}
use Rattle.h5w_writer.specs.Sessions.{Session}
use Rattle.h5w_writer.specs.Stands.{Stands}
use Rattle.h5w_writer.proofs.CreatingLemmas.{keep_stands}
use Rattle.h5w_writer.proofs.StateLemmas.{still_is}
use Rattle.h5w_writer.proofs.state.WriterCore.keep_retired.Goals as goal

pub invariant_of-self : goal.invariant_of-self
invariant_of-self c =
    let is = c.self.invariant.0 in (
      still_is _ c.self.inside.root c.self.inside.committed _ c.self.inside.stopped true c.self.inside.backlog.flushing refl (λ e. (is.flushing e, is.busy e)) is,
      c.self.invariant.1,
      c.self.invariant.2,
      c.self.invariant.3,
      c.self.invariant.4,
    )

pub returns-clause-stands : goal.returns-clause-stands
returns-clause-stands c log stands =
    subst (λ (t : Session). Stands t log) (sym (ap (λ (t : Session). record t { keeps = true }) c.self.view_is)) (keep_stands c.args.self.now log stands)
