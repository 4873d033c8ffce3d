use Rattle.std.proofs.Common.{arith}
use Rattle.std.proofs.lemmas.Grind.{common_steps}
use Rattle.h5w_image.proofs.Overwrite.{over_filled}
use Rattle.h5w_image.proofs.store.put.Goals as goal

pub returns-clause-applied : goal.returns-clause-applied
returns-clause-applied c =
    let over = over_filled c.args.at c.args.piece.now c.args.bytes.now.items c.fill.new.bytes.items c.fill.ensures.filled in
    grind (arith, common_steps)
