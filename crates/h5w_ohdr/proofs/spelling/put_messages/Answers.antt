use Rattle.std.proofs.Common.{◌-◌, length, take, drop, arith}
use Rattle.std.proofs.lemmas.List.{length-append, length-take, length-drop}
use Rattle.h5w_model.specs.Headers.{msg_bytes, msgs_bytes}
use Rattle.h5w_ohdr.proofs.Pieces.{pieces_more, pieces_within, written_more}
use Rattle.h5w_ohdr.proofs.spelling.put_messages.Goals as goal

pub put_message-end-requires-clause-size : goal.put_message-end-requires-clause-size
put_message-end-requires-clause-size c =
    omega (arith, pieces_within msg_bytes c.args.list.now c.loop-m.m-index c.m-item.result c.loop-m-test.true c.m-item.is)

pub put_message-end-requires-clause-room : goal.put_message-end-requires-clause-room
put_message-end-requires-clause-room c =
    omega (arith, length-take (length c.loop-m.out - c.loop-m.end) (drop c.loop-m.end c.loop-m.out), length-drop c.loop-m.end c.loop-m.out, pieces_within msg_bytes c.args.list.now c.loop-m.m-index c.m-item.result c.loop-m-test.true c.m-item.is)

pub loop-m-preserved : goal.loop-m-preserved
loop-m-preserved c =
    let more = pieces_more msg_bytes c.args.list.now c.loop-m.m-index c.m-item.result c.loop-m-test.true c.m-item.is in
    let front = msgs_bytes (take c.loop-m.m-index c.args.list.now) in
    let piece = msg_bytes c.m-item.result in
    record {
      end_is = rw more (omega (arith, length-append front piece));
      out_is = rw more (written_more front piece c.args.out.now c.loop-m.out c.put_message-end.new.out c.loop-m.end c.loop-m.invariant.end_is c.loop-m.invariant.out_is c.put_message-end.ensures.spelled);
    }
