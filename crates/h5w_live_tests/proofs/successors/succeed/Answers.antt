use Rattle.h5w_shared.proofs.Sent.{sent}
use Rattle.h5w_live_tests.proofs.successors.succeed.Goals as goal

pub join-went-requires-send-F : goal.join-went-requires-send-F
join-went-requires-send-F g c κs within = search sent depth 40
