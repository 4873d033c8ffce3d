use Rattle.std.proofs.Common.{◌≡◌, ◌∙◌, ℕ, List, length, sym, ap, subst, arith, OnErr, OnOk}
use Rattle.h5w_writer.specs.Sessions.{Session}
use Rattle.h5w_several_writer.specs.Parts.{AreCounted, AreIdle}
use Rattle.h5w_several_writer_laws.specs.Sessions.{AreFlushed, AreSameBut, Sessions, all_pending}
use Rattle.h5w_several_writer.proofs.PartLemmas.{first_begun, idle_parts}
use Rattle.h5w_several_writer.proofs.CountedLemmas.{back, flushed_either, flushed_length}
use Rattle.h5w_several_writer.proofs.several.SeveralWriter.flush_all.Goals as goal

pub flush_parts-requires-clause-idle : goal.flush_parts-requires-clause-idle
flush_parts-requires-clause-idle g c =
    let idle = idle_parts _ _ c.self.invariant.sessions.each (ap (λ (S : Sessions). length (all_pending S.parts)) c.self.view_is ∙ c.requires.idle) in
    subst (λ (n : ℕ). AreIdle n c.deref_mut.result.now) (sym c.end-from.ensures) (subst (λ (ss : List Session). AreIdle c.self.inside.places.end ss) (sym c.deref_mut.ensures.value) idle)

pub flush_parts-requires-clause-begun : goal.flush_parts-requires-clause-begun
flush_parts-requires-clause-begun g c = let s = c.self.invariant.sessions in first_begun _ _ s.some s.each

pub invariant_of-self : goal.invariant_of-self
invariant_of-self g c =
    let i = c.self.inside in
    let S : Sessions = record { root = i.root; places = i.places; parts = i.parts.items; stopped = i.stopped; keeps = i.keeps } in
    let r = c.flush_parts.result in
    let n = c.flush_parts.new in
    let e = c.flush_parts.ensures in
    let f = subst (λ (ss : List Session). OnOk r (AreFlushed i.root i.places ss n.root n.places n.parts)) c.deref_mut.ensures.value e.flushed in
    let same = subst (λ (ss : List Session). OnErr r (AreSameBut ss n.parts)) c.deref_mut.ensures.value e.kept in
    let limit = subst (λ (l : ℕ). OnOk r (n.places.limit ≡ l)) c.limit.ensures e.limit in
    let x = flushed_either S r n.root n.places n.parts c.self.invariant f e.sessions e.version limit e.few same e.root e.places in
    let lent = ap (λ (vs : List Session). length vs) c.deref_mut.ensures.value in
    let parts = back i.parts.len n.parts i.parts.items (flushed_length S r n.root n.places n.parts f same) (omega (arith, lent, c.deref_mut.ensures.len)) in
    subst (λ (vs : List Session). AreCounted (record { root = n.root; places = n.places; parts = vs; stopped = i.stopped; keeps = i.keeps })) (sym parts) x

pub returns-clause-sessions : goal.returns-clause-sessions
returns-clause-sessions g c = (invariant_of-self g c).sessions
