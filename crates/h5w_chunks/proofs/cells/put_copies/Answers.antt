use Rattle.std.proofs.Common.{arith, ◌+◌, ◌-◌, ◌++◌}
use Rattle.h5w_chunks.specs.Grids.{copies}
use Rattle.h5w_chunks.proofs.Loops.{copies_more, copies_all}
use Rattle.h5w_chunks.proofs.cells.put_copies.Goals as goal

pub loop-preserved : goal.loop-preserved
loop-preserved c =
    let test = c.loop-test.true in
    copies_more c.loop.out.items c.extend_from_slice.new.self.items (c.args.out.now.items ++ copies c.args.count c.args.bytes.now) c.args.bytes.now (c.args.count - c.loop.counter) (c.args.count - (c.loop.counter + 1)) (omega arith)
    c.in_ok-extend_from_slice.ensures.items c.loop.invariant

pub returns : goal.returns
returns c =
    let test = c.loop-test.false in
    copies_all c.loop.out.items (c.args.out.now.items ++ copies c.args.count c.args.bytes.now) c.args.bytes.now (c.args.count - c.loop.counter) (omega arith) c.loop.invariant
