use Rattle.h5w_reader.proofs.AbsorbLemmas.{range_more, range_same, beside_more, beside_same}
use Rattle.h5w_reader.proofs.values.Reads.absorb.Goals as goal

pub returns-in-Range-clause-more : goal.returns-in-Range-clause-more
returns-in-Range-clause-more c = λ ok k.
    range_more k c.args.self.now c.in-Range.ranged c.absorb.new.self c.args.piece.now c.in-Range.is (record { left = c.absorb.ensures.more ok; start = c.absorb.ensures.start })

pub returns-in-Range-clause-same : goal.returns-in-Range-clause-same
returns-in-Range-clause-same c = λ ok k. range_same k c.args.self.now c.in-Range.ranged c.absorb.new.self c.in-Range.is (c.absorb.ensures.same ok)

pub returns-in-Beside-clause-more : goal.returns-in-Beside-clause-more
returns-in-Beside-clause-more c = λ ok k.
    let took = c.absorb-in-Beside in
    beside_more k c.args.self.now c.in-Beside.beside took.new.self c.args.piece.now c.in-Beside.is (record { left = took.ensures.more ok; start = took.ensures.start })

pub returns-in-Beside-clause-same : goal.returns-in-Beside-clause-same
returns-in-Beside-clause-same c = λ ok k.
    let took = c.absorb-in-Beside in
    beside_same k c.args.self.now c.in-Beside.beside took.new.self c.in-Beside.is (took.ensures.same ok)
