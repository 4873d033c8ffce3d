use Rattle.std.proofs.Common.{◌+◌, ◌≤◌, length, arith}
use Rattle.h5w_bt.specs.Parts.{child_of}
use Rattle.h5w_bt.proofs.Tables.{pointer_size-inner}
use Rattle.h5w_bt.proofs.Writing.{inner-put}
use Rattle.h5w_bt.proofs.children.Child.write.Goals as goal

pub returns-then-depth-gt1-clause-written : goal.returns-then-depth-gt1-clause-written
returns-then-depth-gt1-clause-written c =
    let room : c.args.at + 9 + c.args.depth ≤ length c.args.out.now = omega (arith, c.requires.inside, pointer_size-inner c.args.depth c.if-depth-gt1.true) in
    inner-put c.args.out.now c.put.new.b c.put-2.new.b c.put-then-depth-gt1.new.b c.args.at c.args.depth (child_of c.args.self.now) c.if-depth-gt1.true room
    c.put.ensures.written c.put-2.ensures.written c.put-then-depth-gt1.ensures.written
