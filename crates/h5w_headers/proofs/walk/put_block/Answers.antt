use Rattle.std.proofs.Common.{length}
use Rattle.h5w_model.specs.Headers.{block_at}
use Rattle.h5w_headers.specs.Walks.{known_by}
use Rattle.h5w_dataset.specs.Founds.{stack}
use Rattle.h5w_dataset.proofs.ListedLemmas.{block_listed, listed_ok, listed_err}
use Rattle.h5w_headers.proofs.KnownLemmas.{known_by_listed}
use Rattle.h5w_headers.proofs.WalkLemmas.{before_refused, gives_err, header_kind}
use Rattle.h5w_headers.proofs.walk.put_block.Goals as goal

pub put_before-requires-clause-listed : goal.put_before-requires-clause-listed
put_before-requires-clause-listed c =
    let a = c.args in
    let b = a.bytes.now in
    listed_ok (length b) c.block_list.result (known_by a.writing (block_at a.tracked b)) c.in-Ok.msgs c.block_list.ensures (known_by_listed (length b) a.writing (block_at a.tracked b) (block_listed a.tracked b)) c.in-Ok.is

pub refused_header-requires-clause-overrun : goal.refused_header-requires-clause-overrun
refused_header-requires-clause-overrun c =
    let a = c.args in
    let b = a.bytes.now in
    listed_err (length b) c.block_list.result (known_by a.writing (block_at a.tracked b)) c.in-Err.error c.block_list.ensures (known_by_listed (length b) a.writing (block_at a.tracked b) (block_listed a.tracked b)) c.in-Err.is

pub returns-in-Err-clause-kinds : goal.returns-in-Err-clause-kinds
returns-in-Err-clause-kinds c = rw c.refused_header.ensures (header_kind c.args.place c.in-Err.error)

pub returns-in-Err-clause-told : goal.returns-in-Err-clause-told
returns-in-Err-clause-told c =
    let a = c.args in
    let b = a.bytes.now in
    rw c.refused_header.ensures
    (before_refused a.writing a.tracked a.place a.len b (stack a.next.now.items) c.in-Err.error c.if-got-len.false
    (gives_err c.block_list.result (known_by a.writing (block_at a.tracked b)) c.in-Err.error c.block_list.ensures c.in-Err.is))
