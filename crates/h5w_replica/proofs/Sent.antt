-- Both ends of a mirror may go to another thread.
use denote.Param.Send.{IsSend, sendable}
use Rattle.std.proofs.Crossing.{crosses, frees}
use Rattle.rtrb.proofs.end.End.TheSendSync as ring
use Rattle.h5w_shared.proofs.Sent.{sent as seats_sent}
use Rattle.h5w_replica.specs.contracts.batch.Batch.{the_row as batch_row}
use Rattle.h5w_replica.specs.contracts.feed.Feed.{the_row as feed_row}
use Rattle.h5w_replica.specs.contracts.follow.Follow.{the_row as follow_row}

pub batch_is_sent : IsSend batch_row
batch_is_sent = search (seats_sent, crosses, sendable) depth 40

pub feed_is_sent : IsSend feed_row
feed_is_sent = search (ring.the_send, batch_is_sent, seats_sent, frees, crosses, sendable) depth 40

pub follow_is_sent : IsSend follow_row
follow_is_sent = search (ring.the_send, batch_is_sent, seats_sent, frees, crosses, sendable) depth 40 fits 10000

-- for a search of what a thread's closure and its result ask
pub ruleset sent = (batch_is_sent, feed_is_sent, follow_is_sent, seats_sent, crosses, sendable)
