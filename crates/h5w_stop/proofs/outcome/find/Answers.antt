use Rattle.h5w_stop.proofs.outcome.find.Goals as goal

pub returns-clause-outcome : goal.returns-clause-outcome
returns-clause-outcome c = c.found.ensures.outcome c.args.name.now c.in_ok-reader.ensures.begun
