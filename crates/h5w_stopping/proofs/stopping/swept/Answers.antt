use Rattle.std.proofs.Common.{sym}
use Rattle.h5w_stopping.proofs.stopping.swept.Goals as goal

pub swept_on-swept-requires : goal.swept_on-swept-requires
swept_on-swept-requires g c = (c.args.options.now, c.in-Ok.ensures, sym c.as_slice.ensures)

pub returns-clause-sweeps : goal.returns-clause-sweeps
returns-clause-sweeps g c = c.swept_on-swept.ensures.sweeps c.args.options.now c.in-Ok.ensures (sym c.as_slice.ensures)

pub returns-clause-refused : goal.returns-clause-refused
returns-clause-refused g c = c.swept_on-swept.ensures.refused c.args.options.now c.in-Ok.ensures
