use Rattle.std.proofs.Common.{◌≤◌, ◌^◌, length, take, arith, ap, refl}
use Rattle.std.proofs.lemmas.Bool.{le-ltb}
use Rattle.std.proofs.lemmas.List.{length-append}
use Rattle.h5w_model.specs.Headers.{msg_bytes, msgs_bytes}
use Rattle.h5w_model.proofs.HeaderLemmas.{length-one_msg}
use Rattle.h5w_ohdr.proofs.Pieces.{pieces_more, pieces_within}
use Rattle.h5w_ohdr.proofs.spelling.small_size_of.Goals as goal

pub returns-then-len-ge-LIMIT : goal.returns-then-len-ge-LIMIT
returns-then-len-ge-LIMIT c =
    let within = pieces_within msg_bytes c.args.list.now c.loop-m.m-index c.m-item.result c.loop-m-test.true c.m-item.is in
    let one = length-one_msg c.m-item.result in
    let same = ap length c.as_slice-len.ensures in
    let large : 2 ^ 16 ≤ length (msgs_bytes c.args.list.now) = omega arith in
    rw (le-ltb (length (msgs_bytes c.args.list.now)) (2 ^ 16) large) refl

pub returns-then-size-ge-LIMIT : goal.returns-then-size-ge-LIMIT
returns-then-size-ge-LIMIT c =
    let within = pieces_within msg_bytes c.args.list.now c.loop-m.m-index c.m-item.result c.loop-m-test.true c.m-item.is in
    let one = length-one_msg c.m-item.result in
    let same = ap length c.as_slice-len.ensures in
    let large : 2 ^ 16 ≤ length (msgs_bytes c.args.list.now) = omega arith in
    rw (le-ltb (length (msgs_bytes c.args.list.now)) (2 ^ 16) large) refl

pub loop-m-preserved : goal.loop-m-preserved
loop-m-preserved c =
    let more = ap length (pieces_more msg_bytes c.args.list.now c.loop-m.m-index c.m-item.result c.loop-m-test.true c.m-item.is) in
    let one = length-one_msg c.m-item.result in
    let same = ap length c.as_slice-len.ensures in
    record {
      size_is = omega (arith, length-append (msgs_bytes (take c.loop-m.m-index c.args.list.now)) (msg_bytes c.m-item.result));
      small = omega arith;
    }
