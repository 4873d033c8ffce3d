use Rattle.std.proofs.Common.{length}
use Rattle.h5w_several_handles.proofs.bounds.+are_within.Given as goal

abbrev pub decreases-are_within : goal.decreases-are_within
decreases-are_within l = length l.options.now
