use Rattle.std.proofs.Common.{refl, arith}
use Rattle.h5w_model.proofs.Writes.{numbers_more}
use Rattle.h5w_bytes.proofs.several.put_each.Goals as goal

pub loop-i-preserved : goal.loop-i-preserved
loop-i-preserved c =
    numbers_more c.args.b.now c.loop-i.b c.put.new.b c.args.at c.args.width c.loop-i.i _ c.args.numbers.now (omega arith) refl c.requires.inside c.loop-i.invariant c.put.ensures.written
