use Rattle.std.proofs.Common.{length, sym}
use Rattle.h5w_model.specs.Headers.{block_at}
use Rattle.h5w_dataset.specs.Founds.{founds, stack}
use Rattle.h5w_reader.specs.Walking.{block_left, walked}
use Rattle.h5w_dataset.proofs.ListedLemmas.{block_listed, listed_ok, listed_err}
use Rattle.h5w_reader.proofs.WalkLemmas.{gives_ok, gives_err, block_cut, block_read, block_refused}
use Rattle.h5w_lookup.proofs.PieceLemmas.{along}
use Rattle.h5w_reader.proofs.walk.Walk.enter.Goals as goal

pub returns-then-got-len : goal.returns-then-got-len
returns-then-got-len c =
    let s = c.args.self in
    sym (block_cut s.more s.header s.tracked (founds s.done.items) (stack s.next.items) c.args.place c.args.len c.args.bytes.now c.if-got-len.true)

pub put_before-requires-clause-listed : goal.put_before-requires-clause-listed
put_before-requires-clause-listed c =
    let b = c.args.bytes.now in
    listed_ok (length b) c.block.result (block_at c.args.self.tracked b) c.in-Ok.msgs c.block.ensures.exact (block_listed c.args.self.tracked b) c.in-Ok.is

pub header_refusal-requires-clause-overrun : goal.header_refusal-requires-clause-overrun
header_refusal-requires-clause-overrun c =
    let b = c.args.bytes.now in
    listed_err (length b) c.block.result (block_at c.args.self.tracked b) c.in-Err.error c.block.ensures.exact (block_listed c.args.self.tracked b) c.in-Err.is

pub returns-in_ok-put_before-in-Ok : goal.returns-in_ok-put_before-in-Ok
returns-in_ok-put_before-in-Ok c =
    let s = c.args.self in
    let b = c.args.bytes.now in
    let said = gives_ok c.block.result (block_at s.tracked b) c.in-Ok.msgs c.block.ensures.exact c.in-Ok.is in
    along walked c.go_on.result _ (block_left s c.args.place c.args.len b) c.go_on.ensures
    (rw c.in_ok-put_before-in-Ok.ensures (sym (block_read s.more s.header s.tracked (founds s.done.items) (stack s.next.items) c.args.place c.args.len b c.in-Ok.msgs c.if-got-len.false said)))

pub returns-in_ok-header_refusal-in-Err : goal.returns-in_ok-header_refusal-in-Err
returns-in_ok-header_refusal-in-Err c =
    let s = c.args.self in
    let b = c.args.bytes.now in
    let told = c.in_ok-header_refusal-in-Err.ensures in
    let said = gives_err c.block.result (block_at s.tracked b) c.in-Err.error c.block.ensures.exact c.in-Err.is told.other in
    rw told.exact (sym (block_refused s.more s.header s.tracked (founds s.done.items) (stack s.next.items) c.args.place c.args.len b c.in-Err.error c.if-got-len.false said))
