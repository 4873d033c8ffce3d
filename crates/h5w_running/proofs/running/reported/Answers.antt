use Rattle.h5w_creation.specs.NewFiles.{new_file}
use Rattle.h5w_running.proofs.running.reported.Goals as goal

pub returns-in-Err-clause-halts : goal.returns-in-Err-clause-halts
returns-in-Err-clause-halts g c = c.refusal_of.ensures (new_file c.args.options.now) c.args.options.now.limit c.args.batches.now c.in-Err.ensures.cause
