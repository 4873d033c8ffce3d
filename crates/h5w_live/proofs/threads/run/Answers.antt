use denote.Exit.{yes}
use denote.Param.Send.{IsSync, arg_send, given_sync, param_send}
use Rattle.std.proofs.Crossing.{Vec-send}
use Rattle.h5w_shared.proofs.Sent.{reader_is_sent}
use Rattle.h5w_live_reading.proofs.Sent.{given}
use Rattle.h5w_live.proofs.Sent.{readers_sent}
use Rattle.std.proofs.Common.{subst}
use Rattle.h5w_live_reading.proofs.ActorLemmas.{leave_at}
use Rattle.h5w_live.specs.Threads.{WriterLeaves}
use Rattle.h5w_live.specs.declared.threads.Writer.{Writer}
use Rattle.h5w_live.proofs.threads.run.Goals as goal
use Rattle.h5w_live.proofs.threads.run.Lts as lts

pub join-ended-requires-send-F : goal.join-ended-requires-send-F
join-ended-requires-send-F g c κs within =
    let r : IsSync g.row.R = given_sync 0 g.row.R c.type_bounds.sync-R in
    let q : IsSync g.row.G = given_sync 1 g.row.G c.type_bounds.sync-G in
    param_send 1 (lts.arg-3-1 g.row.R g.row.G g.R.laws g.G.laws g.R.Threads-dict g.R.Wait-dict g.G.Gate-dict κs)
    (arg_send _ yes _ (readers_sent _ _ _ _ _ g.row.R _ g.row.G r (Vec-send _ reader_is_sent) q))

pub join-ended-requires-send-A : goal.join-ended-requires-send-A
join-ended-requires-send-A g c κs within = search given depth 40

pub returns-clause-written : goal.returns-clause-written
returns-clause-written g c = subst (λ (w : Writer). WriterLeaves w c.join-ended.result.1) c.into_parts-seat.ensures c.join-ended.ensures.second

pub returns-clause-ended : goal.returns-clause-ended
returns-clause-ended g c = leave_at _ _ _ _ c.join-ended.result.0 c.into_parts-attempts.ensures c.into_parts-seats.ensures c.join-ended.ensures.first
