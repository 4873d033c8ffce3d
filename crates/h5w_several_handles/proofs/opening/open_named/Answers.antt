use Rattle.h5w_handles.specs.declared.several.SeveralState.{SeveralState}
use Rattle.std.proofs.Common.{refl}
use Rattle.h5w_several_handles.proofs.HoldLemmas.{opens_refused, opens_session}
use Rattle.h5w_several_handles.proofs.opening.open_named.Goals as goal

pub returns-in-Ok : goal.returns-in-Ok
returns-in-Ok c =
    let state : SeveralState = record { first = c.new-first.result; session = c.in-Ok.session } in
    opens_session c.args.takes c.args.file.now c.args.names.now c.args.limit c.args.budget c.args.text.now c.in-Ok.session state c.hold.result c.hold.new.handle.at.held c.in-Ok.ensures refl c.new-first.ensures.items c.hold.ensures

pub returns-in-Err : goal.returns-in-Err
returns-in-Err c =
    opens_refused c.args.takes c.args.file.now c.args.names.now c.args.limit c.args.budget c.args.text.now c.in-Err.error c.refuse_file.result c.refuse_file.new.text c.args.handle.now.at.held c.in-Err.ensures c.refuse_file.ensures c.requires.none
