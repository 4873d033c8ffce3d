use Rattle.std.proofs.Common.{◌∙◌, sym, ap}
use Rattle.h5w_model.specs.Programs.{fed}
use Rattle.h5w_reader.specs.Calling.{behind_left}
use Rattle.h5w_reader.proofs.behind.Behind.absorb.Goals as goal

pub returns-in-Lookup-clause-more : goal.returns-in-Lookup-clause-more
returns-in-Lookup-clause-more c = λ ok g. c.absorb.ensures.more ok g ∙ ap (λ b. fed c.args.piece.now (behind_left g b)) (sym c.in-Lookup.is)

pub returns-in-Lookup-clause-same : goal.returns-in-Lookup-clause-same
returns-in-Lookup-clause-same c = λ ok g. c.absorb.ensures.same ok g ∙ ap (behind_left g) (sym c.in-Lookup.is)
