use Rattle.std.proofs.Common.{subst, inl}
use Rattle.h5w_writer.specs.Halves.{IsHalf}
use Rattle.h5w_writer.specs.declared.planned.Planned.{Planned}
use Rattle.h5w_writer.proofs.state.WriterCore.carry_out.Goals as goal

pub returns-in-Grows-clause-flushed : goal.returns-in-Grows-clause-flushed
returns-in-Grows-clause-flushed c old half = inl (c.carry_growing.ensures.flushed old (subst (λ (p : Planned). IsHalf old c.args.self.now p) c.in-Grows.is half))
