use Rattle.std.proofs.Common.{length}
use Rattle.h5w_several_handles.proofs.bounds.+have_room.Given as goal

abbrev pub decreases-have_room : goal.decreases-have_room
decreases-have_room l = length l.names.now
