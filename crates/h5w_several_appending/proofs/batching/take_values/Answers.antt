use Rattle.std.proofs.Common.{◌≡◌, ◌≤◌, [], length, rules, arith}
use Rattle.std.proofs.lemmas.Grind.{common_steps}
use Rattle.h5w_several_appending.proofs.StepLemmas.{columns_appends, ready_appends, says_closes, says_values}
use Rattle.h5w_several_appending.proofs.batching.take_values.Goals as goal

pub returns-then-is_empty-clause-says : goal.returns-then-is_empty-clause-says
returns-then-is_empty-clause-says g c =
    let none : c.args.values.now ≡ [] = first_of (search rules, grind (arith, common_steps)) in
    says_closes (g.D.Disk.view c.close_batch.new.disk) (g.K.Sink.view c.close_batch.new.sink) c.args.target.faults c.args.target.file.now c.args.place.used c.args.place.number c.args.values.now c.args.session.now c.close_batch.new.session c.close_batch.result none c.close_batch.ensures.closes

pub returns-clause-ready : goal.returns-clause-ready
returns-clause-ready g c = ready_appends c.args.target.file.now c.args.place.number c.args.place.used c.args.values.now c.args.session.now c.append_values.new.session c.append_values.result c.append_values.ensures.unput c.append_values.ensures.appends c.requires.ready

pub returns-clause-columns : goal.returns-clause-columns
returns-clause-columns g c = columns_appends (g.D.Disk.view c.args.disk.now) (g.D.Disk.view c.append_values.new.disk) c.args.target.file.now c.args.place.number c.args.place.used c.args.values.now c.args.session.now c.append_values.new.session c.append_values.result c.append_values.ensures.appends

pub returns-clause-says : goal.returns-clause-says
returns-clause-says g c =
    let some : 1 ≤ length c.args.values.now = first_of (search rules, grind (arith, common_steps)) in
    says_values (g.K.Sink.view c.args.sink.now) c.args.target.faults c.args.target.file.now c.args.place.used c.args.place.number c.args.values.now c.args.session.now c.append_values.new.session c.append_values.result c.requires.ready some c.requires.rows c.append_values.ensures.unput c.append_values.ensures.appends
