use Rattle.std.proofs.Common.{◌∙◌, ap, true, [], length, sym}
use Rattle.std.proofs.lemmas.List.{append-nil}
use Rattle.h5w_model.specs.Headers.{messages_at}
use Rattle.h5w_model.specs.Datasets.{found_at}
use Rattle.h5w_reader.specs.Walking.{walk_rest, chunk_0_rest, walked}
use Rattle.h5w_lookup.proofs.PieceLemmas.{along}
use Rattle.h5w_dataset.proofs.ListedLemmas.{messages_listed, listed_ok, listed_err}
use Rattle.h5w_reader.proofs.WalkLemmas.{gives_ok, gives_err, chunk_ok, chunk_err}
use Rattle.h5w_reader.proofs.walk.Walk.start.Goals as goal

pub put_before-requires-clause-listed : goal.put_before-requires-clause-listed
put_before-requires-clause-listed c =
    let b = c.args.bytes.now in
    listed_ok (length b) c.messages.result (messages_at b) c.in-Ok.msgs c.messages.ensures.exact (messages_listed b) c.in-Ok.is

pub header_refusal-requires-clause-overrun : goal.header_refusal-requires-clause-overrun
header_refusal-requires-clause-overrun c =
    let b = c.args.bytes.now in
    listed_err (length b) c.messages.result (messages_at b) c.in-Err.error c.messages.ensures.exact (messages_listed b) c.in-Err.is

pub returns-in_ok-header_refusal-in-Err : goal.returns-in_ok-header_refusal-in-Err
returns-in_ok-header_refusal-in-Err c =
    let b = c.args.bytes.now in
    let told = c.in_ok-header_refusal-in-Err.ensures in
    let said = gives_err c.messages.result (messages_at b) c.in-Err.error c.messages.ensures.exact c.in-Err.is told.other in
    rw told.exact (sym (chunk_err c.args.place c.args.p.now b c.in-Err.error said))

pub returns-in_ok-put_before-in-Ok : goal.returns-in_ok-put_before-in-Ok
returns-in_ok-put_before-in-Ok c =
    let b = c.args.bytes.now in
    let place = c.args.place in
    let said = gives_ok c.messages.result (messages_at b) c.in-Ok.msgs c.messages.ensures.exact c.in-Ok.is in
    along walked c.go_on.result _ (chunk_0_rest place c.args.p.now b) c.go_on.ensures
    (rw (c.in_ok-put_before-in-Ok.ensures, c.new-next.ensures.items, c.new.ensures.items)
    (ap (walk_rest 32 place c.args.p.now.tracked []) (append-nil (found_at place true c.in-Ok.msgs)) ∙ sym (chunk_ok place c.args.p.now b c.in-Ok.msgs said)))
