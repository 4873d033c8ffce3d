use Rattle.std.proofs.Common.{◌≡◌, ◌+◌, ◌≤◌, ◌++◌, length, drop, arith}
use Rattle.std.proofs.lemmas.List.{length-append}
use Rattle.h5w_model.specs.Headers.{msgs_bytes, prefix_bytes, header_bytes}
use Rattle.h5w_model.proofs.HeaderLemmas.{length-header_bytes}
use Rattle.h5w_model.proofs.HeaderRoundTrip.{messages_at-written}
use Rattle.h5w_ohdr.proofs.Pieces.{sealed_front}
use Rattle.h5w_ohdr.proofs.list.Msgs.encode.Goals as goal

pub returns-clause-spelled : goal.returns-clause-spelled
unfolding header_bytes
returns-clause-spelled c =
    let ms = c.args.self.now in
    let body = prefix_bytes (length (msgs_bytes ms)) ++ msgs_bytes ms in
    let spelled = rw (c.as_slice.ensures) at c.put_body-end.ensures.spelled in
    let len = rw (c.as_slice.ensures) at c.put_body-end.ensures.length in
    let whole = length-header_bytes ms in
    let parts = length-append (prefix_bytes (length (msgs_bytes ms))) (msgs_bytes ms) in
    let end : c.put_body-end.result + 4 ≡ length body + 4 = omega arith in
    let room : length body + 4 ≤ length c.args.out.now = omega arith in
    sealed_front body c.args.out.now c.put_body-end.new.out c.seal.new.b (c.put_body-end.result + 4) end spelled room c.seal.ensures

pub returns-clause-reads_back : goal.returns-clause-reads_back
returns-clause-reads_back c readable =
    rw (returns-clause-spelled c) (messages_at-written c.args.self.now (drop (length (header_bytes c.args.self.now)) c.args.out.now) c.requires.size readable)
