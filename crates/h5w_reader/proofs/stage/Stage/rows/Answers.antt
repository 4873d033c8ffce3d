use Rattle.h5w_lookup.specs.Attempts.{rules_of}
use Rattle.h5w_reader.proofs.CallLemmas.{rows_are}
use Rattle.h5w_reader.proofs.stage.Stage.rows.Goals as goal

pub returns : goal.returns
returns c = λ most name known. rows_are (rules_of c.args.rules known)
