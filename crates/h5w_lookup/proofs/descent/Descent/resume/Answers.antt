use Rattle.h5w_lookup.specs.Attempts.{known_of, rules_of}
use Rattle.h5w_lookup.proofs.descent.Descent.resume.Goals as goal

pub returns-in_ok-wait-in-Miss : goal.returns-in_ok-wait-in-Miss
returns-in_ok-wait-in-Miss c = rw c.in-Miss.is (c.in_ok-wait-in-Miss.ensures (rules_of c.args.rules.now (known_of c.args.known.now)))
