use Rattle.std.proofs.Common.{◌∙◌, List, length, map, true, sym, ap, subst, arith}
use Rattle.h5w_writer.specs.Sessions.{Session, stopped_of}
use Rattle.h5w_several_writer.specs.Parts.{AreCounted}
use Rattle.h5w_several_writer.proofs.CountedLemmas.{back, counted_stopped}
use Rattle.h5w_several_writer.proofs.EndLemmas.{stopped_length}
use Rattle.h5w_several_writer.proofs.several.SeveralWriter.drop_pending.Goals as goal

pub invariant_of-self : goal.invariant_of-self
invariant_of-self c =
    let i = c.self.inside in
    let ss = i.parts.items in
    let us = c.stop_all.new.parts in
    let stopped = c.stop_all.ensures ∙ ap (λ (vs : List Session). map stopped_of vs) c.deref_mut.ensures.value in
    let long = ap (λ (vs : List Session). length vs) stopped ∙ stopped_length ss in
    let lent = ap (λ (vs : List Session). length vs) c.deref_mut.ensures.value in
    let same = back i.parts.len us ss long (omega (arith, lent, c.deref_mut.ensures.len)) ∙ stopped in
    subst (λ (vs : List Session). AreCounted (record { root = i.root; places = i.places; parts = vs; stopped = true; keeps = i.keeps })) (sym same) (counted_stopped _ c.self.invariant)

pub returns-clause-sessions : goal.returns-clause-sessions
returns-clause-sessions c = (invariant_of-self c).sessions
