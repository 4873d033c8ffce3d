use Rattle.std.proofs.Common.{rules}
use Rattle.h5w_live.proofs.WritingLemmas.{shows_none, stands_none, wrote_none}
use Rattle.h5w_live.proofs.writing.show_early.Goals as goal

pub returns-then-pending-eq0-clause-session : goal.returns-then-pending-eq0-clause-session
returns-then-pending-eq0-clause-session g c = shows_none c.args.session.now (search rules)

pub returns-then-pending-eq0-clause-stands : goal.returns-then-pending-eq0-clause-stands
returns-then-pending-eq0-clause-stands g c = stands_none c.args.session.now (search rules)

pub returns-then-pending-eq0-clause-seat : goal.returns-then-pending-eq0-clause-seat
returns-then-pending-eq0-clause-seat g c = wrote_none c.args.session.now c.args.seat.now (search rules)
