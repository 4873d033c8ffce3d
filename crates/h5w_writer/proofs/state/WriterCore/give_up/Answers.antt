use Rattle.std.proofs.Common.{subst}
use Rattle.h5w_writer.specs.Halves.{IsHalf}
use Rattle.h5w_writer.specs.declared.planned.Planned.{Planned}
use Rattle.h5w_writer.proofs.HalfLemmas.{alone_kept, start_kept}
use Rattle.h5w_writer.proofs.state.WriterCore.give_up.Goals as goal

pub returns-in-Grows : goal.returns-in-Grows
returns-in-Grows c = record { kept = λ old half. c.shrink.ensures.kept old (subst (λ (p : Planned). IsHalf old c.args.self.now p) c.in-Grows.is half) }

pub returns-in-Alone : goal.returns-in-Alone
returns-in-Alone c = record { kept = λ old half. let h = subst (λ (p : Planned). IsHalf old c.args.self.now p) c.in-Alone.is half in alone_kept old c.args.self.now _ h.0 h.1 }

pub returns : goal.returns
returns c = record { kept = λ old half. let h = subst (λ (p : Planned). IsHalf old c.args.self.now p) c.in-Starts.is half in start_kept old c.args.self.now _ h.0 h.1 }
