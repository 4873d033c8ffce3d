use Rattle.std.proofs.Common.{length}
use Rattle.h5w_several_core.proofs.world.+put_all.Given as goal

abbrev pub decreases-put_all : goal.decreases-put_all
decreases-put_all l = length l.writes.now
