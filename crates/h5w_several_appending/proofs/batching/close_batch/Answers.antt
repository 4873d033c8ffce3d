use Rattle.std.proofs.Common.{◌≡◌, length, map, ap, Err, rules, ◌∙◌}
use Rattle.std.proofs.lemmas.Result.{err_from_is_err_and}
use Rattle.h5w_writer.specs.Sessions.{rows_of}
use Rattle.h5w_several_writer_laws.specs.Sessions.{all_pending}
use Rattle.h5w_several_appending.specs.Taken.{columns_in, told_line}
use Rattle.h5w_several_appending.proofs.StepLemmas.{closes_broke, closes_ended, closes_half, closes_none, closes_wanting, closes_whole, columns_batch, none_planned, ready_batch, ready_flush_ended, ready_puts_ended, ready_same, some_planned}
use Rattle.h5w_several_appending.proofs.batching.close_batch.Goals as goal

pub returns-in-Err-clause-closes : goal.returns-in-Err-clause-closes
returns-in-Err-clause-closes g c = closes_wanting c.args.target.faults c.args.target.file.now c.args.session.now

pub returns-in_err-flush-clause-ready : goal.returns-in_err-flush-clause-ready
returns-in_err-flush-clause-ready g c =
    let gone = err_from_is_err_and c.from_residual.result c.from_residual.ensures.1 in
    let is : c.from_residual.result ≡ Err c.in_err-flush.field-0.0 = gone.1 ∙ ap (λ x. Err x) gone.2 in
    rw is (ready_flush_ended c.args.target.file.now c.args.session.now c.flush.new.session c.in_err-flush.field-0.0 c.in_err-flush.ensures.unput c.in_err-flush.ensures.flushes c.requires)

pub returns-in_err-flush-clause-closes : goal.returns-in_err-flush-clause-closes
returns-in_err-flush-clause-closes g c =
    let gone = err_from_is_err_and c.from_residual.result c.from_residual.ensures.1 in
    let is : c.from_residual.result ≡ Err c.in_err-flush.field-0.0 = gone.1 ∙ ap (λ x. Err x) gone.2 in
    rw is (closes_ended (g.K.Sink.view c.args.sink.now) c.args.target.faults c.args.target.file.now c.args.session.now c.flush.new.session c.in_err-flush.field-0.0 c.requires c.in_err-flush.ensures.unput c.in_err-flush.ensures.flushes)

pub returns-then-pending-eq0-clause-ready : goal.returns-then-pending-eq0-clause-ready
returns-then-pending-eq0-clause-ready g c =
    let zero_left : length (all_pending c.flush.new.session.parts) ≡ 0 = search rules in
    ready_same c.args.target.file.now c.args.session.now c.flush.new.session (none_planned c.args.target.file.now c.args.session.now c.flush.new.session c.in_ok-flush.ensures.flushes zero_left).same c.in_ok-flush.ensures.unput c.requires

pub returns-then-pending-eq0-clause-columns : goal.returns-then-pending-eq0-clause-columns
returns-then-pending-eq0-clause-columns g c =
    let zero_left : length (all_pending c.flush.new.session.parts) ≡ 0 = search rules in
    ap (λ x. columns_in x.parts) (none_planned c.args.target.file.now c.args.session.now c.flush.new.session c.in_ok-flush.ensures.flushes zero_left).same

pub returns-then-pending-eq0-clause-closes : goal.returns-then-pending-eq0-clause-closes
returns-then-pending-eq0-clause-closes g c =
    let zero_left : length (all_pending c.flush.new.session.parts) ≡ 0 = search rules in
    closes_none c.args.target.faults c.args.target.file.now c.args.session.now c.flush.new.session c.in_ok-flush.ensures.unput (none_planned c.args.target.file.now c.args.session.now c.flush.new.session c.in_ok-flush.ensures.flushes zero_left)

pub returns-in_err-put_all-clause-ready : goal.returns-in_err-put_all-clause-ready
returns-in_err-put_all-clause-ready g c =
    let gone = err_from_is_err_and c.from_residual-in_err-put_all.result c.from_residual-in_err-put_all.ensures.1 in
    let is : c.from_residual-in_err-put_all.result ≡ Err c.in_err-put_all.field-0.0 = gone.1 ∙ ap (λ x. Err x) gone.2 in
    rw is (ready_puts_ended _ _ c.args.target.faults c.args.target.file.now c.flush.new.session c.put_all.new.session c.in_err-put_all.field-0.0 c.in_err-put_all.ensures)

pub returns-in_err-put_all-clause-closes : goal.returns-in_err-put_all-clause-closes
returns-in_err-put_all-clause-closes g c =
    let gone = err_from_is_err_and c.from_residual-in_err-put_all.result c.from_residual-in_err-put_all.ensures.1 in
    let is : c.from_residual-in_err-put_all.result ≡ Err c.in_err-put_all.field-0.0 = gone.1 ∙ ap (λ x. Err x) gone.2 in
    let plan = some_planned c.args.target.file.now c.args.session.now c.flush.new.session c.requires c.in_ok-flush.ensures.flushes (search rules) in
    rw is (closes_broke _ (g.K.Sink.view c.args.sink.now) c.args.target.faults c.args.target.file.now c.args.session.now c.flush.new.session c.put_all.new.session c.in_err-put_all.field-0.0 c.requires c.in_ok-flush.ensures.unput plan c.in_err-put_all.ensures)

pub returns-in-Ok-write-clause-ready : goal.returns-in-Ok-write-clause-ready
returns-in-Ok-write-clause-ready g c =
    let plan = some_planned c.args.target.file.now c.args.session.now c.flush.new.session c.requires c.in_ok-flush.ensures.flushes (search rules) in
    ready_batch c.args.target.faults c.args.target.file.now c.args.session.now c.flush.new.session c.put_all.new.session c.in_ok-flush.ensures.unput plan c.in_ok-put_all.ensures c.requires

pub returns-in-Ok-write-clause-columns : goal.returns-in-Ok-write-clause-columns
returns-in-Ok-write-clause-columns g c =
    let plan = some_planned c.args.target.file.now c.args.session.now c.flush.new.session c.requires c.in_ok-flush.ensures.flushes (search rules) in
    columns_batch c.args.target.faults c.args.target.file.now c.args.session.now c.flush.new.session c.put_all.new.session plan c.in_ok-put_all.ensures

pub returns-in-Err-write-clause-ready : goal.returns-in-Err-write-clause-ready
returns-in-Err-write-clause-ready g c =
    let plan = some_planned c.args.target.file.now c.args.session.now c.flush.new.session c.requires c.in_ok-flush.ensures.flushes (search rules) in
    ready_batch c.args.target.faults c.args.target.file.now c.args.session.now c.flush.new.session c.put_all.new.session c.in_ok-flush.ensures.unput plan c.in_ok-put_all.ensures c.requires

pub returns-in-Ok-write-clause-closes : goal.returns-in-Ok-write-clause-closes
returns-in-Ok-write-clause-closes g c =
    let plan = some_planned c.args.target.file.now c.args.session.now c.flush.new.session c.requires c.in_ok-flush.ensures.flushes (search rules) in
    let text : c.deref.result.now ≡ told_line (map rows_of c.args.session.now.parts) = search rules in
    closes_whole c.args.target.faults c.args.target.file.now c.args.session.now c.flush.new.session c.put_all.new.session c.deref.result.now c.requires c.in_ok-flush.ensures.unput plan c.in_ok-put_all.ensures text c.in-Ok-write.ensures.gave

pub returns-in-Err-write-clause-closes : goal.returns-in-Err-write-clause-closes
returns-in-Err-write-clause-closes g c =
    let plan = some_planned c.args.target.file.now c.args.session.now c.flush.new.session c.requires c.in_ok-flush.ensures.flushes (search rules) in
    let text : c.deref.result.now ≡ told_line (map rows_of c.args.session.now.parts) = search rules in
    closes_half c.args.target.faults c.args.target.file.now c.args.session.now c.flush.new.session c.put_all.new.session c.deref.result.now c.requires c.in_ok-flush.ensures.unput plan c.in_ok-put_all.ensures text c.in-Err-write.ensures.cause c.in-Err-write.ensures.failed
