use Rattle.std.proofs.Common.{◌≡◌, length, Err, rules, ◌∙◌, ap}
use Rattle.std.proofs.lemmas.Result.{err_from_is_err_and}
use Rattle.h5w_writer.specs.Sessions.{rows_of}
use Rattle.h5w_files.specs.Polls.{count_text}
use Rattle.h5w_appending.proofs.StepLemmas.{close_half, close_none, close_whole, flush_ended, none_planned, puts_ended, ready_batch, some_planned}
use Rattle.h5w_appending.proofs.batching.close_batch.Goals as goal

pub returns-in_err-flush-clause-steps : goal.returns-in_err-flush-clause-steps
returns-in_err-flush-clause-steps g c =
    let gone = err_from_is_err_and c.from_residual.result c.from_residual.ensures.1 in
    let is : c.from_residual.result ≡ Err c.in_err-flush.field-0.0 = gone.1 ∙ ap (λ x. Err x) gone.2 in
    rw is (flush_ended (g.K.Sink.view c.args.sink.now) c.args.target.faults c.args.target.file.now c.args.session.now c.flush.new.session c.in_err-flush.field-0.0 c.in_err-flush.ensures.unput c.in_err-flush.ensures.flushes)

pub returns-then-pending-eq0-clause-steps : goal.returns-then-pending-eq0-clause-steps
returns-then-pending-eq0-clause-steps g c =
    let zero_left : length c.flush.new.session.pending ≡ 0 = search rules in
    close_none c.args.target.faults c.args.target.file.now c.args.session.now c.flush.new.session c.in_ok-flush.ensures.unput (none_planned c.args.target.file.now c.args.session.now c.flush.new.session c.in_ok-flush.ensures.flushes zero_left)

pub returns-in_err-put_all-clause-steps : goal.returns-in_err-put_all-clause-steps
returns-in_err-put_all-clause-steps g c =
    let gone = err_from_is_err_and c.from_residual-in_err-put_all.result c.from_residual-in_err-put_all.ensures.1 in
    let is : c.from_residual-in_err-put_all.result ≡ Err c.in_err-put_all.field-0.0 = gone.1 ∙ ap (λ x. Err x) gone.2 in
    let plan = some_planned c.args.target.file.now c.args.session.now c.flush.new.session c.requires c.in_ok-flush.ensures.flushes (search rules) in
    rw is (puts_ended _ (g.K.Sink.view c.args.sink.now) c.args.target.faults c.args.target.file.now c.args.session.now c.flush.new.session c.put_all.new.session c.in_err-put_all.field-0.0 c.requires c.in_ok-flush.ensures.unput plan c.in_err-put_all.ensures)

pub returns-in-Ok-write-clause-ready : goal.returns-in-Ok-write-clause-ready
returns-in-Ok-write-clause-ready g c =
    let plan = some_planned c.args.target.file.now c.args.session.now c.flush.new.session c.requires c.in_ok-flush.ensures.flushes (search rules) in
    ready_batch c.args.target.faults c.args.target.file.now c.args.session.now c.flush.new.session c.put_all.new.session c.in_ok-flush.ensures.unput plan c.in_ok-put_all.ensures c.requires

pub returns-in-Err-write-clause-ready : goal.returns-in-Err-write-clause-ready
returns-in-Err-write-clause-ready g c =
    let plan = some_planned c.args.target.file.now c.args.session.now c.flush.new.session c.requires c.in_ok-flush.ensures.flushes (search rules) in
    ready_batch c.args.target.faults c.args.target.file.now c.args.session.now c.flush.new.session c.put_all.new.session c.in_ok-flush.ensures.unput plan c.in_ok-put_all.ensures c.requires

pub returns-in-Ok-write-clause-steps : goal.returns-in-Ok-write-clause-steps
returns-in-Ok-write-clause-steps g c =
    let plan = some_planned c.args.target.file.now c.args.session.now c.flush.new.session c.requires c.in_ok-flush.ensures.flushes (search rules) in
    let text : c.deref.result.now ≡ count_text (rows_of c.args.session.now) = search rules in
    close_whole c.args.target.faults c.args.target.file.now c.args.session.now c.flush.new.session c.put_all.new.session c.deref.result.now c.requires c.in_ok-flush.ensures.unput plan c.in_ok-put_all.ensures text c.in-Ok-write.ensures.gave

pub returns-in-Err-write-clause-steps : goal.returns-in-Err-write-clause-steps
returns-in-Err-write-clause-steps g c =
    let plan = some_planned c.args.target.file.now c.args.session.now c.flush.new.session c.requires c.in_ok-flush.ensures.flushes (search rules) in
    let text : c.deref.result.now ≡ count_text (rows_of c.args.session.now) = search rules in
    close_half c.args.target.faults c.args.target.file.now c.args.session.now c.flush.new.session c.put_all.new.session c.deref.result.now c.requires c.in_ok-flush.ensures.unput plan c.in_ok-put_all.ensures text c.in-Err-write.ensures.cause c.in-Err-write.ensures.failed
