use Rattle.h5w_c.proofs.GaveLemmas.{gave_rows}
use Rattle.h5w_c.proofs.reader.h5w_reader_give.Goals as goal

pub returns-clause-rows : goal.returns-clause-rows
returns-clause-rows c = λ s t old new zero. gave_rows c.args.bytes.now s t c.give.result (c.give.ensures.called s t old new) zero
