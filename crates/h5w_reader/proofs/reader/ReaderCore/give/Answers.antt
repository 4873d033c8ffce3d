use Rattle.h5w_reader.specs.Cores.{reader}
use Rattle.h5w_reader.proofs.AskedLemmas.{asked_give}
use Rattle.h5w_reader.proofs.reader.ReaderCore.give.Goals as goal

pub returns-clause-asked : goal.returns-clause-asked
returns-clause-asked c = λ asks look asked wanted. asked_give (reader c.args.self.now) (reader c.step.new.self) asks c.step.result c.args.piece.now look c.step.ensures.told asked wanted
