use Rattle.std.proofs.Common.{sym}
use Rattle.h5w_lookup.specs.Attempts.{known_of, rules_of}
use Rattle.h5w_reader.specs.Calling.{came, attempt_rest, rows_given}
use Rattle.h5w_lookup.proofs.PieceLemmas.{along}
use Rattle.h5w_reader.proofs.CallLemmas.{rows_given_is}
use Rattle.h5w_reader.proofs.stage.Stage.after_header.Goals as goal

pub returns : goal.returns
returns c = λ most name.
    let g = rules_of c.args.rules (known_of c.args.known.now) in
    along (came most name (known_of c.args.known.now)) c.begin.result (attempt_rest g c.saturating_sub.result c.in_ok-view.view) (rows_given g c.args.look.now) (c.begin.ensures most name)
    (rw (c.saturating_sub.ensures, c.in_ok-view.ensures.exact) (sym (rows_given_is g c.args.look.now)))
