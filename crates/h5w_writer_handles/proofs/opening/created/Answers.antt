use Rattle.h5w_writer_handles.proofs.HoldLemmas.{new_writer}
use Rattle.h5w_writer_handles.proofs.opening.created.Goals as goal

pub returns : goal.returns
returns c = new_writer c.args.name.now c.args.o.now c.in_ok-options.options c.create.result c.in_ok-options.ensures c.create.ensures.session c.create.ensures.budget c.create.ensures.stands
