use Rattle.std.proofs.Common.{List, arith, sym, subst, true, false, refl}
use Rattle.h5w_model.specs.declared.piece.Write.{Write}
use Rattle.h5w_writer.specs.Sessions.{ArePieces, Session}
use Rattle.h5w_writer.specs.Stands.{Stands}
use Rattle.h5w_writer.proofs.StateLemmas.{still_is, stopped_is}
use Rattle.h5w_writer.proofs.StandLemmas.{stop_stands}
use Rattle.h5w_writer.proofs.state.WriterCore.stop.Goals as goal

pub invariant_of-self : goal.invariant_of-self
invariant_of-self c =
    let i = c.self.inside in
    let is = c.self.invariant.0 in (
      still_is _ i.root i.committed _ true i.keeps false refl (λ e. cc) is,
      c.self.invariant.1,
      subst (λ (ws : List Write). ArePieces i.places.end ws) (sym c.clear.ensures.items) (record { sized = tt; within = tt }),
      omega arith,
      omega (arith, c.clear.ensures.capacity, c.self.invariant.4),
    )

pub returns-clause-stands : goal.returns-clause-stands
returns-clause-stands c log stands =
    subst (λ (t : Session). Stands t log) (sym (stopped_is _ c.args.self.now c.clear.new.self.items c.self.view_is c.clear.ensures.items)) (stop_stands c.args.self.now log stands)
