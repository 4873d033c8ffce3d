use Rattle.std.proofs.Common.{◌≡◌, ◌+◌, List, ℕ, ◌++◌, ◌∷◌, [], take, get_or, subst, sym, ap, ◌∙◌, arith}
use Rattle.std.proofs.lemmas.List.{take_more}
use Rattle.h5w_deps.specs.declared.Edge.{Edge}
use Rattle.h5w_deps.specs.Edges.{edge}
use Rattle.h5w_deps.specs.Walk.{Follows}
use Rattle.h5w_deps.proofs.WalkLemmas.{Follows-other, Follows-parent}
use Rattle.h5w_deps.proofs.walk.follow.Goals as goal
use Rattle.h5w_deps.proofs.walk.follow.Goals.{then-edge-block+in_ok-note, else-edge-block}

pub loop-edge-preserved : goal.loop-edge-preserved
loop-edge-preserved c =
    let old = c.args.reached.now.items in
    let i = c.loop-edge.edge-index in
    let e : Edge = get_or c.args.edges.now i (edge 0 0) in
    let more : take (i + 1) c.args.edges.now ≡ take i c.args.edges.now ++ e ∷ [] = take_more c.args.edges.now i (edge 0 0) c.loop-edge-test.true in
    elim c.if-edge-block.branch [
      | then-edge-block+in_ok-note w ↦
          subst (λ (es : List Edge). Follows es c.args.block old c.if-edge-block.reached.items) (sym more)
          (subst (λ (new : List ℕ). Follows (take i c.args.edges.now ++ e ∷ []) c.args.block old new) (sym (w.in_ok-note.ensures) ∙ ap (λ v. v.items) (sym w.reached-is))
          (Follows-parent (take i c.args.edges.now) e c.args.block old c.loop-edge.reached.items w.if-edge-block.true (omega arith) c.loop-edge.invariant))
      | else-edge-block w ↦
          subst (λ (es : List Edge). Follows es c.args.block old c.if-edge-block.reached.items) (sym more)
          (subst (λ (new : List ℕ). Follows (take i c.args.edges.now ++ e ∷ []) c.args.block old new) (ap (λ v. v.items) (sym w.reached-is))
          (Follows-other (take i c.args.edges.now) e c.args.block old c.loop-edge.reached.items w.if-edge-block.false c.loop-edge.invariant))
    ]
