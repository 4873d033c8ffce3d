use Rattle.std.proofs.Common.{rules}
use Rattle.h5w_shared.proofs.TurnLemmas.{looks, saw_none, saw_turn}
use Rattle.h5w_shared.proofs.place.wait.Goals as goal

pub load-serving-requires : goal.load-serving-requires
load-serving-requires g c = (search rules, search rules, looks _ _ _ c.args.ticket _ _ (search rules) (search rules) (search rules))

pub returns-then-serving-ticket-clause-served : goal.returns-then-serving-ticket-clause-served
returns-then-serving-ticket-clause-served g c = saw_turn c.args.shelf.now.table_id.slots _ _ _ _ _ c.load-serving.ensures.2 c.loop.invariant.3 c.requires.waits c.requires.bare c.if-serving-ticket.true

pub loop-preserved : goal.loop-preserved
loop-preserved g c =
    (tt, tt, search rules, saw_none c.args.shelf.now.table_id.slots _ _ _ _ _ c.load-serving.ensures.2 c.loop.invariant.3 c.requires.waits c.if-serving-ticket.false)

pub loop-preserved-then-tries-lt-SPINS : goal.loop-preserved-then-tries-lt-SPINS
loop-preserved-then-tries-lt-SPINS g c =
    (tt, tt, search rules, saw_none c.args.shelf.now.table_id.slots _ _ _ _ _ c.load-serving.ensures.2 c.loop.invariant.3 c.requires.waits c.if-serving-ticket.false)
