use Rattle.h5w_live_reading.proofs.ActorLemmas.{leave_at}
use Rattle.h5w_live.proofs.threads.fn.run_both.join+arg2.Goals as goal

pub returns : goal.returns
returns g c = leave_at _ _ _ _ c.read_all.result c.new.ensures c.new-others.ensures c.read_all.ensures
