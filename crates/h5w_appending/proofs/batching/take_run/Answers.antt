use Rattle.h5w_appending.proofs.StepLemmas.{run_broke, run_failed, run_whole}
use Rattle.h5w_appending.proofs.batching.take_run.Goals as goal

pub append_values-requires-clause-rows : goal.append_values-requires-clause-rows
append_values-requires-clause-rows g c = (c.requires.rows.0, c.requires.rows.1)

pub returns-in-Ok-put_all : goal.returns-in-Ok-put_all
returns-in-Ok-put_all g c =
    run_whole c.args.target.faults c.args.target.file.now c.args.session.now c.append_values.new.session c.put_all.new.session c.requires.rows.0 c.args.values.now c.requires.ready c.in-Ok.ensures.unput c.requires.some c.requires.rows.1 c.in-Ok.ensures.appends c.in-Ok-put_all.ensures

pub returns-in-Err : goal.returns-in-Err
returns-in-Err g c =
    run_broke _ c.args.target.faults c.args.target.file.now c.args.session.now c.append_values.new.session c.put_all.new.session c.requires.rows.0 c.args.values.now c.in-Err.ending c.requires.ready c.in-Ok.ensures.unput c.requires.some c.requires.rows.1 c.in-Ok.ensures.appends c.in-Err.ensures

pub returns-in-Err-Disk : goal.returns-in-Err-Disk
returns-in-Err-Disk g c =
    run_failed c.args.target.faults c.args.target.file.now c.args.session.now c.append_values.new.session c.args.values.now c.in-Err-Disk.ensures.unput (rw c.in-Err-Disk.field-0-is at c.in-Err-Disk.ensures.appends)
