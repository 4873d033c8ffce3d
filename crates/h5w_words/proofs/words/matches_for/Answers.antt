use Rattle.std.proofs.Common.{map}
use Rattle.std.specs.Prelude.{string_bytes}
use Rattle.h5w_words.proofs.WordLemmas.{faulty, matched, usage_alone}
use Rattle.h5w_words.proofs.words.matches_for.Goals as goal

pub returns-in_err-matches-clause-usage : goal.returns-in_err-matches-clause-usage
returns-in_err-matches-clause-usage c =
    usage_alone c.from_residual-in_err-matches.result c.from_residual-in_err-matches.ensures.1
    (λ other. faulty _ (map string_bytes c.args.words.now) c.in_err-matches.field-0.0 c.in_ok-command.ensures.0 c.in_err-matches.ensures.kinds other)

pub returns-clause-ok : goal.returns-clause-ok
returns-clause-ok c = matched _ (map string_bytes c.args.words.now) c.in_ok-matches.matches c.in_ok-command.ensures.0 c.in_ok-matches.ensures.kinds c.in_ok-matches.ensures.matches
