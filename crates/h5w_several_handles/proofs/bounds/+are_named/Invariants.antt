use Rattle.std.proofs.Common.{length}
use Rattle.h5w_several_handles.proofs.bounds.+are_named.Given as goal

abbrev pub decreases-are_named : goal.decreases-are_named
decreases-are_named l = length l.names.now
