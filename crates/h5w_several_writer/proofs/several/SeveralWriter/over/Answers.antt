use Rattle.std.proofs.Common.{◌∙◌, List, length, false, sym, ap, subst, arith}
use Rattle.h5w_writer.specs.Sessions.{Session}
use Rattle.h5w_several_writer.specs.Opened.{places_from, settled}
use Rattle.h5w_several_writer.specs.Parts.{AllSessions, AreCounted}
use Rattle.h5w_several_writer.proofs.CountedLemmas.{back, counted_over, settled_length}
use Rattle.h5w_several_writer.proofs.several.SeveralWriter.over.Goals as goal

pub invariant_of-result : goal.invariant_of-result
invariant_of-result c =
    let root = c.args.root in
    let limit = c.args.limit in
    let ss = c.args.parts.items in
    let us = c.settle_all.new.parts in
    let from = places_from root.end limit in
    let is = c.settle_all.ensures.settled ∙ ap (settled root from) c.deref_mut.ensures.value in
    let r = c.requires in
    let k = counted_over root limit ss r.some r.few r.opened r.version r.limit (subst AllSessions is c.settle_all.ensures.sessions) in
    let lent = ap (λ (vs : List Session). length vs) c.deref_mut.ensures.value in
    let long = ap (λ (vs : List Session). length vs) is ∙ settled_length root limit ss in
    let same = back c.args.parts.len us ss long (omega (arith, lent, c.deref_mut.ensures.len)) ∙ is in
    subst AreCounted (λ j. record { root = root; places = sym c.new-places.ensures j; parts = sym same j; stopped = false; keeps = false }) k

pub returns-clause-sessions : goal.returns-clause-sessions
returns-clause-sessions c = (invariant_of-result c).sessions
