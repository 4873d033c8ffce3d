use Rattle.std.proofs.Common.{rules, ◌≡◌, None}
use Rattle.h5w_options.specs.Options.{AreOptions}
use Rattle.h5w_writer_handles.specs.CreatedBy.{options_of}
use Rattle.h5w_writer_handles.proofs.HoldLemmas.{creates}
use Rattle.h5w_writer_handles.proofs.opening.create.Goals as goal

pub returns-in-Ok : goal.returns-in-Ok
returns-in-Ok c =
    let none : c.args.handle.now.at.held ≡ None = search rules in
    let are : AreOptions (options_of c.args.name.now c.args.o.now) = search rules in
    creates c.args.name.now c.args.o.now c.in-Ok.core c.args.handle.now.at.held c.hold.result c.hold.new.handle.at.held none are c.in-Ok.ensures c.hold.ensures
