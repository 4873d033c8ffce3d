use Rattle.std.proofs.Common.{◌≡◌, false}
use Rattle.std.proofs.lemmas.List.Elements.{All-more}
use Rattle.h5w_cache.specs.declared.moves.Move.{Move}
use Rattle.h5w_cache.proofs.moves.copies.Goals as goal

pub loop-i-preserved : goal.loop-i-preserved
loop-i-preserved c = All-more (λ (m : Move). m.in_place ≡ false) c.args.moves.now c.loop-i.i _ c.loop-i-test.true c.loop-i.invariant c.if-block_move.false
