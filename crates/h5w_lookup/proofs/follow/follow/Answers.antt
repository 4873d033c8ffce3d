use Rattle.h5w_lookup.specs.Indexes.{in_place_of}
use Rattle.h5w_lookup.specs.Spans.{IsSpan}
use Rattle.h5w_lookup.specs.Stores.{kept}
use Rattle.h5w_lookup.proofs.follow.follow.Goals as goal

pub returns-in-Some-clause-same : goal.returns-in-Some-clause-same
returns-in-Some-clause-same c =
    let ahead : IsSpan (kept c.args.store.now) (in_place_of c.args.index.now) c.in-Some.span = rw c.in-Some.is at c.requires.ahead in
    c.take.ensures.same (in_place_of c.args.index.now) ahead
