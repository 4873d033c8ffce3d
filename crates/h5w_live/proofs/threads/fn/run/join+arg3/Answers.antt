use Rattle.std.proofs.Common.{subst}
use Rattle.h5w_live.specs.Threads.{WriterLeaves}
use Rattle.h5w_live.specs.declared.threads.Writer.{Writer}
use Rattle.h5w_live.proofs.threads.fn.run.join+arg3.Goals as goal

pub returns : goal.returns
returns g c = subst (λ (w : Writer). WriterLeaves w c.write.result) c.new-writer.ensures c.write.ensures
