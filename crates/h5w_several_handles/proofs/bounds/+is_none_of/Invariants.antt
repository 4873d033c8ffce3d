use Rattle.std.proofs.Common.{length}
use Rattle.h5w_several_handles.proofs.bounds.+is_none_of.Given as goal

abbrev pub decreases-is_none_of : goal.decreases-is_none_of
decreases-is_none_of l = length l.others.now
