use Rattle.h5w_model.specs.Headers.{header_view}
use Rattle.h5w_reader.specs.Headers.{IsView}
use Rattle.h5w_reader.proofs.HeaderLemmas.{view_of}
use Rattle.h5w_lookup.proofs.PieceLemmas.{told}
use Rattle.h5w_reader.proofs.header.view_at.Goals as goal

pub returns-clause-seen : goal.returns-clause-seen
returns-clause-seen c = told c.header_view.result (header_view c.args.look.now) (IsView c.args.place) c.header_view.ensures.exact (view_of c.args.place c.args.look.now c.requires c.ranges.place.fits)
