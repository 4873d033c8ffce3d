use Rattle.std.proofs.Common.{length}
use Rattle.h5w_several_creation.proofs.file.+put_sets.Given as goal

abbrev pub decreases-put_sets : goal.decreases-put_sets
decreases-put_sets l = length l.names.now
