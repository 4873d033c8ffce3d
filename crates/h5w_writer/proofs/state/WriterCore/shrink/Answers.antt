use Rattle.std.proofs.Common.{◌≡◌, ◌∙◌, ℕ, [], List, drop, ap, sym, subst, arith}
use Rattle.std.specs.List.{All}
use Rattle.std.specs.Global.{Vec}
use Rattle.std.specs.Prelude.{vec_capacity}
use Rattle.h5w_model.specs.Tables.{keys_across}
use Rattle.h5w_model.specs.declared.cell.Key.{Key}
use Rattle.h5w_model.specs.declared.piece.Write.{Write}
use Rattle.h5w_index.specs.Held.{view_of}
use Rattle.h5w_index.specs.Placing.{IsPartly}
use Rattle.h5w_index.specs.Views.{HasSlot}
use Rattle.h5w_writer.specs.Halves.{PlansGrowth}
use Rattle.h5w_writer.specs.Sessions.{ArePieces, IsRoomy, Session, most_lines, rows_of}
use Rattle.h5w_writer.proofs.SessionFields.{session_of}
use Rattle.h5w_writer.proofs.HalfLemmas.{back_same, back_session}
use Rattle.h5w_writer.proofs.state.WriterCore.shrink.Goals as goal

-- the first session, as the second is seen
growth_in : (c : goal.After-drop-added) (old : Session) → PlansGrowth old c.args.self.now c.args.growing → PlansGrowth old (session_of c.self.inside) c.args.growing
growth_in c old g = subst (λ (m : Session). PlansGrowth old m c.args.growing) (sym c.self.view_is) g

pub unset-requires-clause-sound : goal.unset-requires-clause-sound
unset-requires-clause-sound c = c.self.invariant.0.sound

pub unset-requires-clause-slots : goal.unset-requires-clause-slots
unset-requires-clause-slots c =
    let h = c.requires.growth in
    let g : PlansGrowth h.old (session_of c.self.inside) c.args.growing = subst (λ (m : Session). PlansGrowth h.old m c.args.growing) (sym c.self.view_is) h.growth in
    subst (λ (ks : List Key). All (HasSlot (view_of c.self.inside.index)) ks) (sym c.deref.ensures.value) g.ready.prepared.names.partly.slots

-- no chunk of the rows has an address that had none
partly_in : (c : goal.After-drop-added) (old : Session) → PlansGrowth old (session_of c.self.inside) c.args.growing → IsPartly old.dataset (rows_of old) old.index [] (view_of c.unset.new.index)
partly_in c old g =
    c.unset.ensures.taken_back old.dataset (rows_of old) old.index
    (subst (λ (ks : List Key). IsPartly old.dataset (rows_of old) old.index ks (view_of c.self.inside.index)) (sym c.deref.ensures.value) g.ready.prepared.names.partly)

-- nothing is pending
idle_in : (c : goal.After-drop-added) → drop c.put_back.new.self.shown c.put_back.new.self.plan.items ≡ []
idle_in c =
    let e = c.put_back.ensures in
    ap (λ (n : ℕ). drop n c.put_back.new.self.plan.items) e.shown ∙ ap (λ (ws : Vec Write). ws.items) e.plan ∙ c.clear.ensures.items

pub invariant_of-self : goal.invariant_of-self
invariant_of-self c =
    let i = c.self.inside in
    let h = c.requires.growth in
    let g = growth_in c h.old h.growth in
    let e = c.put_back.ensures in
    let grid = c.self.invariant.1 in
    let none = ap (λ (ws : Vec Write). ws.items) e.plan ∙ c.clear.ensures.items in (
      back_session h.old (session_of i) c.args.growing g (view_of c.unset.new.index) c.put_back.new.self e.rows (idle_in c) e.flushing (partly_in c h.old g),
      record {
        shaped = grid.shaped;
        typed = grid.typed;
        chunked = record { rows = grid.chunked.rows; cols = grid.chunked.cols; line = grid.chunked.line; small = grid.chunked.small; index = grid.chunked.index };
        filled = grid.filled;
      },
      subst (λ (ws : List Write). ArePieces c.args.growing.before.end ws) (sym none) (record { sized = tt; within = tt }),
      omega (arith, e.shown),
      omega (arith, ap (λ (ws : Vec Write). vec_capacity ws) e.plan, c.clear.ensures.capacity, c.self.invariant.4),
    )

pub returns : goal.returns
returns c = record {
  kept = λ old growth.
      let i = c.self.inside in
      let g = growth_in c old growth in
      let e = c.put_back.ensures in
      let d = old.dataset in
      let roomy : IsRoomy d old.index → IsRoomy d (view_of c.unset.new.index) = λ r. c.unset.ensures.within (most_lines d) (keys_across d) (g.ready.roomy r) in
      back_same old (session_of i) c.args.growing g (view_of c.unset.new.index) c.put_back.new.self e.rows (idle_in c) e.flushing (partly_in c old g) roomy;
}
