use Rattle.h5w_several_handles.proofs.HoldLemmas.{creates_session}
use Rattle.h5w_several_handles.proofs.opening.create_named.Goals as goal

pub returns-in-Ok : goal.returns-in-Ok
returns-in-Ok c = creates_session c.args.names.now c.args.options.now c.in-Ok.state c.hold.result c.hold.new.handle.at.held c.in-Ok.ensures c.hold.ensures
