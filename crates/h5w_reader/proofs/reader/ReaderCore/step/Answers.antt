use Rattle.h5w_reader.proofs.AbsorbLemmas.{goes_wants}
use Rattle.h5w_reader.proofs.reader.ReaderCore.step.Goals as goal

pub returns-in-Ok-true-clause-wanting : goal.returns-in-Ok-true-clause-wanting
returns-in-Ok-true-clause-wanting c = λ _.
    let s = c.args.self.now in
    goes_wants s.attempts s.name s.known c.absorb.new.call (c.absorb.ensures.there (cc (c.in-Ok-true.is, c.in-Ok-true.field-0-test)))
    (λ v e. let before = c.absorb.ensures.values v e in s.known_first before.0 before.1)
