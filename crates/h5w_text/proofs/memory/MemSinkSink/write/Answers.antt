use Rattle.std.proofs.Common.{arith, ap, refl}
use Rattle.h5w_text.specs.Memory.{MemSinkView}
use Rattle.h5w_text.proofs.StreamLemmas.{gave_nothing}
use Rattle.h5w_text.proofs.memory.MemSinkSink.write.Goals as goal

pub returns-in_err-call-clause-failed : goal.returns-in_err-call-clause-failed
returns-in_err-call-clause-failed c = gave_nothing c.from_residual.result c.args.bytes.now _ _
    (ap (λ (s : MemSinkView). s.written) c.self.view_is)
    (omega (arith, ap (λ (s : MemSinkView). s.faults) c.self.view_is, c.call.ensures.rises))
    refl
