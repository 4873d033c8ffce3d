use Rattle.std.proofs.Common.{◌++◌, take, drop, ap, ◌∙◌}
use Rattle.h5w_model.specs.Numbers.{le}
use Rattle.h5w_ea.proofs.Spelling.{slots-sealed}
use Rattle.h5w_ea.proofs.slots.encode.Goals as goal

pub returns-clause-spelled : goal.returns-clause-spelled
returns-clause-spelled c =
    c.seal_front.ensures
    ∙ slots-sealed c.args.signature.now _ c.args.out.now c.put_head.new.out c.put.new.b c.put-2.new.b c.put_numbers.new.out
    (record {
      four = c.told-signature;
      head = c.put_head.ensures;
      address = c.put.ensures.written;
      number = c.put-2.ensures.written ∙ ap (λ v. (take 14 c.put.new.b ++ le 4 v) ++ drop 18 c.put.new.b) c.from.ensures;
      slots = c.put_numbers.ensures.written;
    })
