use Rattle.std.proofs.Common.{◌≡◌, ◌-◌, length, drop, arith}
use Rattle.std.proofs.lemmas.List.{length-take, length-drop}
use Rattle.h5w_model.specs.Headers.{msgs_bytes, prefix_bytes}
use Rattle.h5w_model.proofs.HeaderLemmas.{length-prefix_bytes, length-msgs_bytes, length-header_bytes}
use Rattle.h5w_ohdr.proofs.Pieces.{written_more}
use Rattle.h5w_ohdr.proofs.spelling.put_body.Goals as goal

pub size_of-requires : goal.size_of-requires
size_of-requires c = omega (arith, length-msgs_bytes c.args.list.now)

pub put_prefix-start-requires-clause-size : goal.put_prefix-start-requires-clause-size
put_prefix-start-requires-clause-size c = omega (arith, length-msgs_bytes c.args.list.now)

pub put_prefix-start-requires-clause-room : goal.put_prefix-start-requires-clause-room
put_prefix-start-requires-clause-room c =
    let low = length-prefix_bytes (length (msgs_bytes c.args.list.now)) in
    omega (arith, length-header_bytes c.args.list.now)

pub put_messages-requires-clause-room : goal.put_messages-requires-clause-room
put_messages-requires-clause-room c =
    let size : c.size_of.result ≡ length (msgs_bytes c.args.list.now) = omega (arith, length-msgs_bytes c.args.list.now) in
    let start = rw size at c.put_prefix-start.ensures.length in
    omega (arith, length-header_bytes c.args.list.now, length-take (length c.put_prefix-start.new.out - c.put_prefix-start.result) (drop c.put_prefix-start.result c.put_prefix-start.new.out), length-drop c.put_prefix-start.result c.put_prefix-start.new.out)

pub returns-clause-length : goal.returns-clause-length
returns-clause-length c =
    let size : c.size_of.result ≡ length (msgs_bytes c.args.list.now) = omega (arith, length-msgs_bytes c.args.list.now) in
    let start = rw size at c.put_prefix-start.ensures.length in
    omega (arith, length-header_bytes c.args.list.now)

pub returns-clause-spelled : goal.returns-clause-spelled
returns-clause-spelled c =
    let size : c.size_of.result ≡ length (msgs_bytes c.args.list.now) = omega (arith, length-msgs_bytes c.args.list.now) in
    let start = rw size at c.put_prefix-start.ensures.length in
    let spelled = rw size at c.put_prefix-start.ensures.spelled in
    written_more (prefix_bytes (length (msgs_bytes c.args.list.now))) (msgs_bytes c.args.list.now) c.args.out.now c.put_prefix-start.new.out c.put_messages.new.out c.put_prefix-start.result start spelled c.put_messages.ensures.spelled
