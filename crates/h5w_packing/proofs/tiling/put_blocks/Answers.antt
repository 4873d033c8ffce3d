use Rattle.std.proofs.Common.{refl, ◌++◌, ◌∷◌, [], ◌∙◌, ℕ, ap}
use Rattle.h5w_packing.proofs.PutLemmas.{move_passed, move_put, moves_put}
use Rattle.h5w_packing.proofs.tiling.put_blocks.Goals as goal
use Rattle.h5w_packing.proofs.tiling.put_blocks.Goals.{then-not-block+in_ok-push, else-not-block}

pub loop-block-init : goal.loop-block-init
loop-block-init c = refl

pub loop-block-preserved : goal.loop-block-preserved
loop-block-preserved c = elim c.if-not-block.branch [
  | then-not-block+in_ok-push w ↦ move_put c.args.index c.args.moves.now c.loop-block.block-index _ c.loop-block.ranges _ _ c.loop-block-test.true c.loop-block.invariant w.if-not-block.true (w.ranges-is ∙ w.in_ok-push.ensures.put ∙ ap (λ (k : ℕ). c.loop-block.ranges ++ record { place = _; len = _; kind = k } ∷ []) w.block_kind.ensures)
  | else-not-block w ↦ move_passed c.args.index c.args.moves.now c.loop-block.block-index _ c.loop-block.ranges _ _ c.loop-block-test.true c.loop-block.invariant w.if-not-block.false w.ranges-is
]

pub returns : goal.returns
returns c = moves_put c.args.index c.args.moves.now c.loop-block.block-index c.loop-block.ranges _ c.loop-block-test.false c.loop-block.invariant
