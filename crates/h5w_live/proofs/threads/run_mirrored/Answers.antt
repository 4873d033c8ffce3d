use denote.Exit.{yes}
use denote.Param.Send.{IsSync, arg_send, given_sync, param_send}
use Rattle.h5w_replica.proofs.Sent.{sent}
use Rattle.h5w_live.proofs.Sent.{following_sent}
use Rattle.std.proofs.Common.{◌≡◌, ◌∙◌, ap, subst, sym}
use Rattle.h5w_live_reading.proofs.ActorLemmas.{leave_at}
use Rattle.h5w_live_reading.specs.Seats.{AreSeated}
use Rattle.h5w_live_reading.specs.declared.actors.Seated.{Seated}
use Rattle.h5w_live.specs.Threads.{IsWriting, WriterLeaves}
use Rattle.h5w_live.specs.declared.threads.Writer.{Writer}
use Rattle.h5w_live.proofs.threads.run_mirrored.Goals as goal
use Rattle.h5w_live.proofs.threads.run_mirrored.Lts as lts

pub join-requires-send-F : goal.join-requires-send-F
join-requires-send-F g c κs within =
    let r : IsSync g.row.R = given_sync 0 g.row.R c.type_bounds.sync-R in
    let q : IsSync g.row.G = given_sync 1 g.row.G c.type_bounds.sync-G in
    param_send 1 (lts.arg-4-1 g.row.R g.row.G g.R.laws g.G.laws g.R.Threads-dict g.R.Wait-dict g.G.Gate-dict κs)
    (arg_send _ yes _ (following_sent _ _ _ _ _ _ g.row.R g.row.G r q))

pub join-requires-send-A : goal.join-requires-send-A
join-requires-send-A g c κs within = search sent depth 40

pub join-requires-after_bounds : goal.join-requires-after_bounds
join-requires-after_bounds g c κs within =
    let first : c.args.mirrored.follow.seat.image ≡ c.into_parts-seat.result.0.now = c.requires.mirrored.first ∙ sym (ap (λ (w : Writer). w.image.now) c.into_parts-seat.ensures) in
    let second : c.args.mirrored.follow.second.image ≡ c.into_parts-more.result.0.now = c.requires.mirrored.second ∙ sym (ap (λ (s : Seated). s.image.now) c.into_parts-more.ensures) in
    let others : AreSeated (record { image = c.into_parts-more.result.0; seats = c.into_parts-more.result.1; before = c.into_parts-more.result.2 }) = subst AreSeated (sym c.into_parts-more.ensures) c.requires.mirrored.readers in (
      (first, (second, (search, search))),
      ((search, search), (subst IsWriting (sym c.into_parts-seat.ensures) c.requires.writer, (subst AreSeated (sym c.into_parts-seats.ensures) c.requires.readers, (others, (search, search))))),
    )

pub returns-clause-written : goal.returns-clause-written
returns-clause-written g c = subst (λ (w : Writer). WriterLeaves w c.join.result.1.0.0) c.into_parts-seat.ensures c.join.ensures.second.0

pub returns-clause-ended : goal.returns-clause-ended
returns-clause-ended g c = leave_at _ _ _ _ c.join.result.1.0.1 c.into_parts-attempts.ensures c.into_parts-seats.ensures c.join.ensures.second.1.0

pub returns-clause-beside : goal.returns-clause-beside
returns-clause-beside g c = leave_at _ _ _ _ c.join.result.1.1 c.into_parts-attempts.ensures c.into_parts-more.ensures c.join.ensures.second.1.1
