use Rattle.h5w_reader.proofs.StageLemmas.{values_want}
use Rattle.h5w_reader.proofs.reader.give_values.Goals as goal

pub returns-in-Ok-Looks-clause-wanting : goal.returns-in-Ok-Looks-clause-wanting
returns-in-Ok-Looks-clause-wanting c = λ _ most name. values_want most name c.args.known.now c.in-Ok-Looks.reads c.requires.known
