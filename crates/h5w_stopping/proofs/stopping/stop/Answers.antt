use Rattle.h5w_stopping.proofs.ReportLemmas.{stops_done, stops_refused, stops_whole}
use Rattle.h5w_stopping.proofs.stopping.stop.Goals as goal

pub returns-in-Ok-clause-stops : goal.returns-in-Ok-clause-stops
returns-in-Ok-clause-stops g c = stops_done c.args.options.now c.say.result c.in-Ok.text.items c.deref.result.now c.in-Ok.ensures.sweeps c.deref.ensures.value c.say.ensures

pub returns-in-Err-clause-stops : goal.returns-in-Err-clause-stops
returns-in-Err-clause-stops g c = stops_refused c.args.options.now c.tell.result c.in-Err.error c.in-Err.ensures.refused c.tell.ensures

pub returns-in-Ok-clause-completes : goal.returns-in-Ok-clause-completes
returns-in-Ok-clause-completes g c = stops_whole c.args.options.now c.say.result (returns-in-Ok-clause-stops g c)

pub returns-in-Err-clause-completes : goal.returns-in-Err-clause-completes
returns-in-Err-clause-completes g c = stops_whole c.args.options.now c.tell.result (returns-in-Err-clause-stops g c)
