use Rattle.std.proofs.Common.{◌≡◌, ◌∙◌, List, Ok, length, true, sym, ap, subst, arith}
use Rattle.h5w_model.specs.Superblock.{super_at, super_bytes}
use Rattle.h5w_model.specs.declared.root.Super.{Super}
use Rattle.h5w_writer.specs.Sessions.{Session}
use Rattle.h5w_several_writer.specs.Parts.{AllSessions, AreCounted, AreEnded}
use Rattle.h5w_several_writer_laws.specs.Sessions.{Sessions, closed_parts, closed_super}
use Rattle.h5w_several_writer.proofs.CountedLemmas.{back, counted_closed}
use Rattle.h5w_several_writer.proofs.EndLemmas.{closed_length, ended_parts}
use Rattle.h5w_several_writer.proofs.PartLemmas.{first_begun}
use Rattle.h5w_several_writer.proofs.several.SeveralWriter.clear.Goals as goal

pub close_all-requires-clause-begun : goal.close_all-requires-clause-begun
close_all-requires-clause-begun c = let s = c.self.invariant.sessions in omega (arith, c.end.ensures, first_begun _ _ s.some s.each)

pub close_all-requires-clause-ends : goal.close_all-requires-clause-ends
close_all-requires-clause-ends c =
    let i = c.self.inside in
    subst (λ (ss : List Session). AreEnded c.end.result c.limit.result ss) (sym c.deref_mut.ensures.value) (ended_parts _ c.end.result c.limit.result i.parts.items c.end.ensures c.limit.ensures c.self.invariant.sessions.each)

pub invariant_of-self : goal.invariant_of-self
invariant_of-self c =
    let i = c.self.inside in
    let S : Sessions = record { root = i.root; places = i.places; parts = i.parts.items; stopped = i.stopped; keeps = i.keeps } in
    let root : c.in-Ok.root ≡ closed_super S = c.in-Ok.ensures.root in
    let us = c.close_all.new.parts in
    let closed : us ≡ closed_parts (closed_super S) i.parts.items = c.in-Ok.ensures.closed ∙ (λ j. closed_parts (root j) (c.deref_mut.ensures.value j)) in
    let k = counted_closed S c.self.invariant (subst AllSessions closed c.close_all.ensures.sessions) in
    let lent = ap (λ (vs : List Session). length vs) c.deref_mut.ensures.value in
    let long = ap (λ (vs : List Session). length vs) closed ∙ closed_length (closed_super S) i.parts.items in
    let same = back i.parts.len us i.parts.items long (omega (arith, lent, c.deref_mut.ensures.len)) ∙ closed in
    subst AreCounted (λ j. record { root = sym root j; places = i.places; parts = sym same j; stopped = true; keeps = i.keeps }) k

pub returns-in-Ok-clause-reads : goal.returns-in-Ok-clause-reads
returns-in-Ok-clause-reads c =
    let i = c.self.inside in
    let root : c.in-Ok.root ≡ closed_super c.args.self.now = c.in-Ok.ensures.root ∙ ap closed_super c.self.view_is in
    subst (λ (r : Super). super_at (super_bytes r) ≡ Ok r) root c.in-Ok.ensures.reads

pub returns-in-Ok-clause-sessions : goal.returns-in-Ok-clause-sessions
returns-in-Ok-clause-sessions c = (invariant_of-self c).sessions
