use Rattle.std.proofs.Common.{ap, arith, subst, sym, List}
use Rattle.rtrb.specs.Ring.{sent}
use Rattle.h5w_model.specs.declared.piece.Write.{Write}
use Rattle.h5w_shared.specs.Seats.{SeatView}
use Rattle.h5w_replica.specs.Feeds.{FeedView, IsFeed}
use Rattle.h5w_replica.proofs.FeedLemmas.{fed_more}
use Rattle.h5w_replica.proofs.feed.Feed.write.Goals as goal

pub invariant_of-self-2 : goal.invariant_of-self-2
invariant_of-self-2 g c =
    let seat = c.in_ok-write.ensures.seat in (
      subst (λ (l : List Write). IsFeed c.write.new.self.seat.now (sent c.self.inside.producer) c.self.inside.back l) (sym c.push.ensures.last)
          (fed_more c.self.inside.seat c.write.new.self.seat.now (sent c.self.inside.producer) c.self.inside.back c.self.inside.unsent.writes c.args.w.now c.self.invariant.0 (ap (λ (s : SeatView). s.image) seat) (ap (λ (s : SeatView). s.seen) seat) c.len-len.ensures.bound),
      record {
        image = omega (arith, ap (λ (s : SeatView). s.pieces) seat, c.self.invariant.1.image);
        unsent = omega (arith, c.push.ensures.room, c.self.invariant.1.unsent, c.requires.room, ap (λ (f : FeedView). f.room) c.self.view_is);
      },
    )
