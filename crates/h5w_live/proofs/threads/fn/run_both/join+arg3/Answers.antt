use Rattle.std.proofs.Common.{subst}
use Rattle.h5w_live_reading.proofs.ActorLemmas.{leave_at}
use Rattle.h5w_live.specs.Threads.{WriterLeaves}
use Rattle.h5w_live.specs.declared.threads.Writer.{Writer}
use Rattle.h5w_live.proofs.threads.fn.run_both.join+arg3.Goals as goal

pub returns : goal.returns
returns g c = record {
  written = subst (λ (w : Writer). WriterLeaves w c.run.result.0) c.new-writer.ensures c.run.ensures.written;
  ended = leave_at _ _ _ _ c.run.result.1 c.new.ensures c.new-readers.ensures c.run.ensures.ended;
}
