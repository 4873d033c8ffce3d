use Rattle.std.proofs.Common.{subst}
use Rattle.h5w_live_reading.proofs.ActorLemmas.{leave_at}
use Rattle.h5w_live.specs.Threads.{WriterLeaves}
use Rattle.h5w_live.specs.declared.threads.Writer.{Writer}
use Rattle.h5w_live.proofs.threads.fn.run_mirrored.join+arg3.Goals as goal

pub returns : goal.returns
returns g c = record {
  written = subst (λ (w : Writer). WriterLeaves w c.run_both.result.0.0) c.new-writer.ensures c.run_both.ensures.written;
  ended = leave_at _ _ _ _ c.run_both.result.0.1 c.new-calls.ensures c.new-readers.ensures c.run_both.ensures.ended;
  beside = leave_at _ _ _ _ c.run_both.result.1 c.new-calls.ensures c.new-others.ensures c.run_both.ensures.beside;
}
