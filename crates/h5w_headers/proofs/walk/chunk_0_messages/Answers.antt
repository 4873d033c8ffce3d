use Rattle.std.proofs.Common.{length}
use Rattle.h5w_model.specs.Headers.{messages_at}
use Rattle.h5w_headers.specs.Walks.{known_by}
use Rattle.h5w_dataset.proofs.ListedLemmas.{messages_listed, listed_ok, listed_err}
use Rattle.h5w_headers.proofs.KnownLemmas.{known_by_listed}
use Rattle.h5w_headers.proofs.WalkLemmas.{chunk_refused, gives_err, header_kind}
use Rattle.h5w_headers.proofs.walk.chunk_0_messages.Goals as goal

pub put_before-requires-clause-listed : goal.put_before-requires-clause-listed
put_before-requires-clause-listed c =
    let a = c.args in
    let b = a.bytes.now in
    listed_ok (length b) c.chunk_0_list.result (known_by a.writing (messages_at b)) c.in-Ok.msgs c.chunk_0_list.ensures (known_by_listed (length b) a.writing (messages_at b) (messages_listed b)) c.in-Ok.is

pub refused_header-requires-clause-overrun : goal.refused_header-requires-clause-overrun
refused_header-requires-clause-overrun c =
    let a = c.args in
    let b = a.bytes.now in
    listed_err (length b) c.chunk_0_list.result (known_by a.writing (messages_at b)) c.in-Err.error c.chunk_0_list.ensures (known_by_listed (length b) a.writing (messages_at b) (messages_listed b)) c.in-Err.is

pub returns-in-Err-clause-kinds : goal.returns-in-Err-clause-kinds
returns-in-Err-clause-kinds c = rw c.refused_header.ensures (header_kind c.args.place c.in-Err.error)

pub returns-in-Err-clause-told : goal.returns-in-Err-clause-told
returns-in-Err-clause-told c =
    let a = c.args in
    let b = a.bytes.now in
    rw c.refused_header.ensures (chunk_refused a.writing a.place b c.in-Err.error (gives_err c.chunk_0_list.result (known_by a.writing (messages_at b)) c.in-Err.error c.chunk_0_list.ensures c.in-Err.is))
