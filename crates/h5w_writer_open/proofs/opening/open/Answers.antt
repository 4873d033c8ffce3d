use Rattle.h5w_index.specs.Held.{view_of}
use Rattle.h5w_opening.specs.Views.{opened_of}
use Rattle.h5w_writer_open.proofs.OpenAnswerLemmas.{begun_so, opened_here, stands_here}
use Rattle.h5w_writer_open.proofs.opening.open.Goals as goal

pub returns-clause-exact : goal.returns-clause-exact
returns-clause-exact g c img still =
    let f = c.in_ok-found in
    opened_here img c.args.size c.args.name.now c.args.limit c.args.budget (opened_of f.found) f.header (view_of f.index) (f.ensures.step.exact img still) c.in_ok-session.session c.in_ok-session.ensures.session

pub returns-clause-begun : goal.returns-clause-begun
returns-clause-begun g c =
    let f = c.in_ok-found in
    begun_so (opened_of f.found) f.header (view_of f.index) c.args.name.now c.args.limit c.args.budget c.in_ok-session.session c.in_ok-session.ensures.session

pub returns-clause-stands : goal.returns-clause-stands
returns-clause-stands g c img rows columns values sm still valid reads =
    let f = c.in_ok-found in
    let o = opened_of f.found in
    let s = c.in_ok-session in
    stands_here img c.args.size c.args.name.now c.args.limit c.args.budget o f.header (view_of f.index) (f.ensures.step.exact img still) s.session s.ensures.session rows columns values sm f.ensures.ready.found
    c.requires.low c.requires.high s.ensures.reads valid reads
