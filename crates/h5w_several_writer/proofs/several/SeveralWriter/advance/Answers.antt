use Rattle.std.proofs.Common.{◌≡◌, ◌<◌, List, ◌∷◌, length, refl, sym, ap, subst, arith}
use Rattle.h5w_model.specs.declared.piece.Write.{Write}
use Rattle.h5w_writer.specs.Sessions.{Session}
use Rattle.h5w_writer.proofs.StandLemmas.{freed_keeps}
use Rattle.h5w_several_writer.specs.Parts.{AreCounted}
use Rattle.h5w_several_writer_laws.specs.Sessions.{AreShown, Sessions, all_pending}
use Rattle.h5w_several_writer.proofs.CountedLemmas.{back, counted_written}
use Rattle.h5w_several_writer.proofs.several.SeveralWriter.advance.Goals as goal

pub invariant_of-self : goal.invariant_of-self
invariant_of-self c =
    let i = c.self.inside in
    let S : Sessions = record { root = i.root; places = i.places; parts = i.parts.items; stopped = i.stopped; keeps = i.keeps } in
    let us = c.show_piece.new.parts in
    let t = c.let_go.new.places in
    let value = c.deref_mut.ensures.value in
    let some : 0 < length (all_pending i.parts.items) = omega (arith, c.requires, ap (λ (v : Sessions). length (all_pending v.parts)) c.self.view_is) in
    let shown = subst (λ (ss : List Session). (w : Write) (ws : List Write) → all_pending ss ≡ w ∷ ws → AreShown w ss us) value c.show_piece.ensures.shown in
    let left = subst (λ (ss : List Session). (w : Write) (ws : List Write) → all_pending ss ≡ w ∷ ws → all_pending us ≡ ws) value c.show_piece.ensures.left in
    let k = freed_keeps i.keeps i.places t c.let_go.ensures in
    let x = counted_written S us t c.self.invariant some shown left k.0 k.1 in
    let lent = ap (λ (vs : List Session). length vs) value in
    let parts = back i.parts.len us i.parts.items x.1 (omega (arith, lent, c.deref_mut.ensures.len)) in
    subst (λ (vs : List Session). AreCounted (record { root = i.root; places = t; parts = vs; stopped = i.stopped; keeps = i.keeps })) (sym parts) x.0

pub invariant_of-self-else-show_piece : goal.invariant_of-self-else-show_piece
invariant_of-self-else-show_piece c =
    let i = c.self.inside in
    let S : Sessions = record { root = i.root; places = i.places; parts = i.parts.items; stopped = i.stopped; keeps = i.keeps } in
    let us = c.show_piece.new.parts in
    let value = c.deref_mut.ensures.value in
    let some : 0 < length (all_pending i.parts.items) = omega (arith, c.requires, ap (λ (v : Sessions). length (all_pending v.parts)) c.self.view_is) in
    let shown = subst (λ (ss : List Session). (w : Write) (ws : List Write) → all_pending ss ≡ w ∷ ws → AreShown w ss us) value c.show_piece.ensures.shown in
    let left = subst (λ (ss : List Session). (w : Write) (ws : List Write) → all_pending ss ≡ w ∷ ws → all_pending us ≡ ws) value c.show_piece.ensures.left in
    let x = counted_written S us i.places c.self.invariant some shown left refl refl in
    let lent = ap (λ (vs : List Session). length vs) value in
    let parts = back i.parts.len us i.parts.items x.1 (omega (arith, lent, c.deref_mut.ensures.len)) in
    subst (λ (vs : List Session). AreCounted (record { root = i.root; places = i.places; parts = vs; stopped = i.stopped; keeps = i.keeps })) (sym parts) x.0

pub returns-then-show_piece-clause-sessions : goal.returns-then-show_piece-clause-sessions
returns-then-show_piece-clause-sessions c = (invariant_of-self c).sessions

pub returns-else-show_piece-clause-sessions : goal.returns-else-show_piece-clause-sessions
returns-else-show_piece-clause-sessions c = (invariant_of-self-else-show_piece c).sessions
