use Rattle.h5w_shared.proofs.Sent.{sent}
use Rattle.h5w_block_tests.proofs.sharing.+crowd+fn-crowd-join+arg3.Goals as goal

pub join-right-requires-send-F : goal.join-right-requires-send-F
join-right-requires-send-F g t c κs within = search sent depth 40
