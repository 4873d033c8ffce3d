use Rattle.h5w_shared.proofs.Sent.{sent}
use Rattle.h5w_live_tests.proofs.successors.a_seat_goes_to_the_session_that_takes_over.Goals as goal

pub join-both-requires-send-F : goal.join-both-requires-send-F
join-both-requires-send-F g c κs within = search sent depth 40
