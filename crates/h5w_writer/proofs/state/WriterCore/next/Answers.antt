use Rattle.std.proofs.Common.{sym, subst, List}
use Rattle.h5w_model.specs.Images.{AllSized}
use Rattle.h5w_model.specs.declared.piece.Write.{Write}
use Rattle.h5w_writer.specs.Sessions.{Session, AllEndBy}
use Rattle.h5w_writer.proofs.StateLemmas.{told_sized, told_within}
use Rattle.h5w_writer.proofs.state.WriterCore.next.Goals as goal

pub returns-clause-some : goal.returns-clause-some
returns-clause-some c =
    let sized = subst AllSized (sym c.deref.ensures.value) c.self.invariant.2.sized in
    told_sized c.deref.result.now c.self.inside.backlog.shown c.get.result _ _ sized c.get.ensures.lookup.1 c.get.ensures.lookup.3

pub returns-clause-within : goal.returns-clause-within
returns-clause-within c =
    let own = subst (λ (ws : List Write). AllEndBy c.self.inside.places.end ws) (sym c.deref.ensures.value) c.self.invariant.2.within in
    let within = subst (λ (t : Session). AllEndBy t.places.end c.deref.result.now) c.self.view_is own in
    told_within c.args.self.now.places.end c.deref.result.now c.self.inside.backlog.shown c.get.result _ _ within c.get.ensures.lookup.1 c.get.ensures.lookup.3
