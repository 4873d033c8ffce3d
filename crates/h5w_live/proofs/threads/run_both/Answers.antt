use denote.Exit.{yes}
use denote.Param.Send.{IsSync, arg_send, given_sync, param_send}
use Rattle.std.proofs.Crossing.{Vec-send}
use Rattle.h5w_shared.proofs.Sent.{reader_is_sent}
use Rattle.h5w_live_reading.proofs.Sent.{given}
use Rattle.h5w_live.proofs.Sent.{readers_sent}
use Rattle.std.proofs.Common.{subst, sym}
use Rattle.h5w_live_reading.proofs.ActorLemmas.{leave_at}
use Rattle.h5w_live_reading.specs.Seats.{AreSeated}
use Rattle.h5w_live.specs.Threads.{IsWriting, WriterLeaves}
use Rattle.h5w_live.specs.declared.threads.Writer.{Writer}
use Rattle.h5w_live.proofs.threads.run_both.Goals as goal
use Rattle.h5w_live.proofs.threads.run_both.Lts as lts

pub join-beside-requires-send-F : goal.join-beside-requires-send-F
join-beside-requires-send-F g c κs within =
    let r : IsSync g.row.R = given_sync 0 g.row.R c.type_bounds.sync-R in
    let q : IsSync g.row.G = given_sync 1 g.row.G c.type_bounds.sync-G in
    param_send 1 (lts.arg-3-1 g.row.R g.row.G g.R.laws g.G.laws g.R.Threads-dict g.R.Wait-dict g.G.Gate-dict κs)
    (arg_send _ yes _ (readers_sent _ _ _ _ _ g.row.R _ g.row.G r (Vec-send _ reader_is_sent) q))

pub join-beside-requires-send-A : goal.join-beside-requires-send-A
join-beside-requires-send-A g c κs within = search given depth 40

pub join-beside-requires-after_bounds : goal.join-beside-requires-after_bounds
join-beside-requires-after_bounds g c κs within = (
  (subst AreSeated (sym c.into_parts-more.ensures) c.requires.others, (search, search)),
  ((search, search), (subst IsWriting (sym c.into_parts-seat.ensures) c.requires.writer, (subst AreSeated (sym c.into_parts-seats.ensures) c.requires.readers, (search, search)))),
)

pub returns-clause-written : goal.returns-clause-written
returns-clause-written g c = subst (λ (w : Writer). WriterLeaves w c.join-beside.result.1.0) c.into_parts-seat.ensures c.join-beside.ensures.second.0

pub returns-clause-ended : goal.returns-clause-ended
returns-clause-ended g c = leave_at _ _ _ _ c.join-beside.result.1.1 c.into_parts-attempts.ensures c.into_parts-seats.ensures c.join-beside.ensures.second.1

pub returns-clause-beside : goal.returns-clause-beside
returns-clause-beside g c = leave_at _ _ _ _ c.join-beside.result.0 c.into_parts-attempts.ensures c.into_parts-more.ensures c.join-beside.ensures.first
