use Rattle.std.proofs.Common.{rules, ◌≡◌, true, None}
use Rattle.h5w_handles.specs.Handles.{are_attempts}
use Rattle.h5w_handles.proofs.HoldLemmas.{opens_reader}
use Rattle.h5w_handles.proofs.handle.Handle.open_reader.Goals as goal

pub returns-in-Ok : goal.returns-in-Ok
returns-in-Ok c =
    let none : c.args.self.now.at.held ≡ None = search rules in
    let are : are_attempts c.args.attempts ≡ true = search rules in
    opens_reader c.args.name.now c.args.attempts c.in-Ok.state c.args.self.now.at.held c.hold_reader.result c.hold_reader.new.self.at.held none are c.in-Ok.ensures c.hold_reader.ensures
