use Rattle.std.proofs.Common.{◌+◌, ◌<◌, ◌^◌, arith}
use Rattle.h5w_reader.proofs.HeaderLemmas.{differ_below}
use Rattle.h5w_reader.proofs.header.again.Goals as goal

pub overflow_add-result : goal.overflow_add-result
overflow_add-result c =
    let v = c.args.first.now in
    let w = c.args.last.now in
    let n = c.same_front-n.result in
    let told = c.same_front-n.ensures in
    let low : c.args.rules.now.place + n < 2 ^ 64 = differ_below c.args.rules.now.place n v w c.requires.first c.requires.last c.requires.whole_first c.requires.whole_last c.requires.differ
    (rw (← c.as_slice-a.ensures) told.first) (rw (← c.as_slice-b.ensures) told.last) (rw (← c.as_slice-a.ensures, ← c.as_slice-b.ensures) told.front) in
    omega arith
