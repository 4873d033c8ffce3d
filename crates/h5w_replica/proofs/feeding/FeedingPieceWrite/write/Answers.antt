use Rattle.h5w_shared.proofs.SeatLemmas.{wrote_through}
use Rattle.h5w_replica.specs.Feeds.{fed_seat}
use Rattle.h5w_replica.proofs.FeedLemmas.{seat_with_piece}
use Rattle.h5w_replica.proofs.feeding.FeedingPieceWrite.write.Goals as goal

pub returns-clause-wrote : goal.returns-clause-wrote
returns-clause-wrote g c =
    wrote_through c.write.result c.args.self.now.feed.ghost_name c.args.w.now (fed_seat c.args.self.now.feed.now) (fed_seat c.write.new.self) (seat_with_piece c.write.result c.args.w.now c.args.self.now.feed.now c.write.new.self c.write.ensures.wrote)
