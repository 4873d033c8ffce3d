use Rattle.std.proofs.Common.{rules, ◌≡◌, Some, ap, refl}
use Rattle.rtrb.specs.Ring.{known_free, sent}
use Rattle.h5w_replica.specs.Feeds.{FeedView}
use Rattle.h5w_replica.proofs.FeedLemmas.{has_taken, offered, resent}
use Rattle.h5w_replica.proofs.feed.Feed.resend.Goals as goal

pub invariant_of-self-2 : goal.invariant_of-self-2
invariant_of-self-2 c =
    let was : c.self.inside.back ≡ Some c.in-Some.batch = search rules in
    let o = offered (sent c.self.inside.producer) (sent c.offer.new.producer) c.offer.result c.in-Some.batch (known_free c.self.inside.producer) (known_free c.offer.new.producer) c.offer.ensures.taken c.offer.ensures.back in
    (resent c.self.inside.seat _ _ c.self.inside.back c.offer.result c.in-Some.batch _ _ c.self.inside.unsent.writes c.self.invariant.0 was o, c.self.invariant.1)

pub returns-clause-taken : goal.returns-clause-taken
returns-clause-taken c =
    let o = offered (sent c.self.inside.producer) (sent c.offer.new.producer) c.offer.result c.in-Some.batch (known_free c.self.inside.producer) (known_free c.offer.new.producer) c.offer.ensures.taken c.offer.ensures.back in
    has_taken c.self.inside.seat.image _ _ c.offer.result c.in-Some.batch _ _ c.self.invariant.0.leads o c.args.self.now _ (ap (λ (f : FeedView). f.took) c.self.view_is) (ap (λ (f : FeedView). f.free) c.self.view_is) refl refl
