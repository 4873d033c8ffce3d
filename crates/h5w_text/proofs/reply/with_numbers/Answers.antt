use Rattle.std.proofs.Common.{arith}
use Rattle.h5w_text.specs.Replies.{spaced}
use Rattle.h5w_text.proofs.ValueLemmas.{more_texts}
use Rattle.h5w_text.proofs.reply.with_numbers.Goals as goal

pub loop-n-preserved : goal.loop-n-preserved
loop-n-preserved c =
    more_texts spaced 0 c.args.numbers.now c.loop-n.n-index c.text.new.out.items c.loop-n.out.items c.number.new.out.items (omega arith) c.loop-n.invariant c.in_ok-number.ensures
