use Rattle.std.proofs.Common.{◌+◌, ◌*◌, vec_len}
use Rattle.h5w_live_reading.proofs.actors.+fn-read_all-join+arg3+read_all.Given as goal

abbrev pub decreases-read_all : goal.decreases-read_all
decreases-read_all g l = 2 * vec_len l.readers.seats + 1

abbrev pub decreases-join+arg3 : goal.decreases-join+arg3
decreases-join+arg3 g l = 2 * vec_len l.seats + 2
